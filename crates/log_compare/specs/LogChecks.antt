-- What is refused before a log is held against records, in its order (SPECIFICATION 13.4): 9, 18, 16.
use Rattle.std.specs.Prelude.{Option, Some, None, Bool, true, cond, ◌&&◌, ◌||◌, List, ℕ, zero, suc, ◌+◌, ◌-◌, ◌/◌, ◌%◌, eqb, leb, length}
use Rattle.std.specs.Option.{option_or}
use Rattle.refusals.specs.declared.Refusal.{Refusal}
use Rattle.refusals.specs.declared.Refusal.TheVariants.{Length, Log}
use Rattle.record_check.specs.FirstFault.{first_fault, record_refusal}
use Rattle.log_compare.specs.Entries.{sample_of, heard_length}

-- messages have 2, 7 or 14 bytes
unfoldable pub known_length : ℕ → Bool
known_length n = eqb n 2 || (eqb n 7 || eqb n 14)

-- entry i has a known length, and a sample not below that of the entry before it
unfoldable pub entry_accepted : List ℕ → ℕ → Bool
entry_accepted log i = known_length (heard_length log i) && (eqb i 0 || leb (sample_of log (i - 1)) (sample_of log i))

-- n entries, from k on
unfoldable pub accepted_from : List ℕ → ℕ → ℕ → Bool
accepted_from log zero k = true
accepted_from log (suc n) k = entry_accepted log k && accepted_from log n (k + 1)

unfoldable pub log_accepted : List ℕ → Bool
log_accepted log = accepted_from log (length log / 23) 0

-- the bytes of log and records, and the lengths of the two lists
unfoldable pub lengths_fit : ℕ → ℕ → ℕ → ℕ → Bool
lengths_fit log records partners owners = eqb (log % 23) 0 && (eqb (records % 66) 0 && (eqb partners (log / 23) && eqb owners (records / 66)))

unfoldable pub contents_refusal : List ℕ → List ℕ → Option Refusal
contents_refusal log records = option_or (record_refusal (first_fault records)) (cond (log_accepted log) None (Some Log))

unfoldable pub compare_refusal : List ℕ → List ℕ → ℕ → ℕ → Option Refusal
compare_refusal log records partners owners = cond (lengths_fit (length log) (length records) partners owners) (contents_refusal log records) (Some Length)
