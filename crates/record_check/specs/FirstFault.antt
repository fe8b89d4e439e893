-- The first record at fault (SPECIFICATION 4.7), and the refusal that it is.
use Rattle.std.specs.Prelude.{ℕ, zero, suc, ◌+◌, ◌/◌, cond, List, length, drop, Option, Some, None}
use Rattle.refusals.specs.declared.Refusal.{Refusal}
use Rattle.refusals.specs.declared.Refusal.TheVariants.{Record}
use Rattle.record_check.specs.Accepted.{accepted}

-- of n records, the first of which has index k
unfoldable pub fault_from : ℕ → List ℕ → ℕ → Option ℕ
fault_from zero records k = None
fault_from (suc n) records k = cond (accepted records) (fault_from n (drop 66 records) (k + 1)) (Some k)

-- of all whole records
unfoldable pub first_fault : List ℕ → Option ℕ
first_fault records = fault_from (length records / 66) records 0

-- in the specification's terms: "a record at fault" is refusal 18, with its index
unfoldable pub record_refusal : Option ℕ → Option Refusal
record_refusal None = None
record_refusal (Some k) = Some (Record k)
