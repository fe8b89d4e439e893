-- `FaultLaws` holds of all records.
use Rattle.std.specs.Prelude.{Option, Some, None}
use Prim.Native.Nat.{ℕ, zero, suc, ◌+◌, ◌*◌, ◌/◌, ◌≤◌, ◌<◌}
use mathlib.Core.Path.{◌≡◌, refl, sym, ap, ◌∙◌, subst}
use mathlib.Core.Bool.{Bool, true, false, cond}
use mathlib.Core.List.{List}
use native.Mathlib.Omega.{arith}
use lib.ListN.{length, drop}
use lib.Seq.{drop-drop}
use Rattle.record_check.specs.Accepted.{accepted}
use Rattle.record_check.specs.FirstFault.{fault_from, first_fault}
use Rattle.record_check.specs.FaultLaws.{record_at, FaultLaws}

-- what a fault says of n records, the first of which has index at
abbrev Says : ℕ → List ℕ → ℕ → Option ℕ → Type 0
Says n records at None = (k : ℕ) → k < n → accepted (record_at records k) ≡ true
Says n records at (Some i) = (at ≤ i) × (i < at + n) × ((k : ℕ) → at + k ≡ i → accepted (record_at records k) ≡ false) × ((k : ℕ) → at + k < i → accepted (record_at records k) ≡ true)

-- one record in front
further : (n : ℕ) (records : List ℕ) (at : ℕ) (f : Option ℕ) → accepted records ≡ true → Says n (drop 66 records) (at + 1) f → Says (suc n) records at f
further n records at None e s = go
  where
    go : (k : ℕ) → k < suc n → accepted (record_at records k) ≡ true
    go zero h = e
    go (suc k) h =
        ap accepted (ap (λ (m : ℕ). drop m records) {x = 66 * suc k} {y = 66 + 66 * k} (omega arith) ∙ sym (drop-drop (66 * k) 66 records)) ∙ s k (omega arith)
further n records at (Some i) e s = (omega (arith, s.0), omega (arith, s.1), fault, before)
  where
    fault : (k : ℕ) → at + k ≡ i → accepted (record_at records k) ≡ false
    fault zero h = absurd (omega (arith, s.0))
    fault (suc k) h =
        ap accepted (ap (λ (m : ℕ). drop m records) {x = 66 * suc k} {y = 66 + 66 * k} (omega arith) ∙ sym (drop-drop (66 * k) 66 records)) ∙ s.2 k (omega arith)

    before : (k : ℕ) → at + k < i → accepted (record_at records k) ≡ true
    before zero h = e
    before (suc k) h =
        ap accepted (ap (λ (m : ℕ). drop m records) {x = 66 * suc k} {y = 66 + 66 * k} (omega arith) ∙ sym (drop-drop (66 * k) 66 records)) ∙ s.3 k (omega arith)

says : (n : ℕ) (records : List ℕ) (at : ℕ) → Says n records at (fault_from n records at)
unfolding fault_from
says zero records at = λ k h. absurd (omega arith)
says (suc n) records at = go (accepted records) refl (says n (drop 66 records) (at + 1))
  where
    go : (b : Bool) → accepted records ≡ b → Says n (drop 66 records) (at + 1) (fault_from n (drop 66 records) (at + 1)) → Says (suc n) records at (cond b (fault_from n (drop 66 records) (at + 1)) (Some at))
    go true e s = further n records at (fault_from n (drop 66 records) (at + 1)) e s
    go false e s = (omega arith, omega arith, (λ k h. ap (λ (m : ℕ). accepted (drop m records)) {x = 66 * k} {y = 0} (omega arith) ∙ e), (λ k h. absurd (omega arith)))

told : (records : List ℕ) (f : Option ℕ) → first_fault records ≡ f → Says (length records / 66) records 0 f
unfolding first_fault
told records f e = subst (Says (length records / 66) records 0) e (says (length records / 66) records 0)

pub fault_laws : (records : List ℕ) → FaultLaws records
fault_laws records = record {
  all_accepted = λ e k h. told records None e k (omega arith);
  whole = λ k e. let s = told records (Some k) e in omega (arith, s.1);
  at_fault = λ k e. (told records (Some k) e).2 k (omega arith);
  first = λ k e j h. (told records (Some k) e).3 j (omega arith);
}
