-- What it says of a record that it is accepted, and what the first fault of records says of each of them.
use Rattle.std.specs.Prelude.{ℕ, ◌+◌, ◌*◌, ◌^◌, ◌≤◌, ◌<◌, true, false, List, ◌≡◌, length, drop, Some, None}
use Rattle.record_check.specs.Accepted.{type_length, first_sample, type_of, count_of, length_of, accepted}
use Rattle.record_check.specs.FirstFault.{first_fault}

-- an accepted record, by its fields
pub record InRange (r : List ℕ) : Type 0 where
  pub whole : 66 ≤ length r
  pub first : first_sample r ≤ 2 ^ 52
  pub type : type_of r ≤ 6
  pub count : count_of r ≤ 9999
  pub size : length_of r ≡ type_length (type_of r)

-- the bytes from record k on
abbrev pub record_at : List ℕ → ℕ → List ℕ
record_at records k = drop (66 * k) records

pub record FaultLaws (records : List ℕ) : Type 0 where
  -- with no fault, each whole record is accepted
  pub all_accepted : first_fault records ≡ None → (k : ℕ) → 66 * k + 66 ≤ length records → accepted (record_at records k) ≡ true
  -- the record at fault is whole and not accepted, and every one before it is accepted
  pub whole : (k : ℕ) → first_fault records ≡ Some k → 66 * k + 66 ≤ length records
  pub at_fault : (k : ℕ) → first_fault records ≡ Some k → accepted (record_at records k) ≡ false
  pub first : (k : ℕ) → first_fault records ≡ Some k → (j : ℕ) → j < k → accepted (record_at records j) ≡ true
