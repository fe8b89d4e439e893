-- A log that is accepted is in rising order.
use mathlib.Core.Path.{◌≡◌, refl, sym, ap, ◌∙◌, subst}
use mathlib.Core.Bool.{Bool, true, false, ◌&&◌, ◌||◌}
use mathlib.Core.Logic.{◌⊎◌, inl, inr}
use mathlib.Core.List.{List}
use Prim.Native.Nat.{ℕ, zero, suc, ◌+◌, ◌-◌, ◌/◌, ◌≤◌, ◌<◌}
use native.Mathlib.Omega.{arith}
use native.Mathlib.Nat.{eq-or-lt_of_le}
use lib.Dec.{T, eqb, leb, leb→le}
use lib.ListN.{length}
use borrow.Author.Tests.{ne_eqb}
use Rattle.log_compare.specs.Entries.{sample_of, heard_length}
use Rattle.log_compare.specs.LogChecks.{known_length, entry_accepted, accepted_from, log_accepted}

holds : (t : Bool) → t ≡ true → T t
holds t e = subst (λ (x : Bool). T x) (sym e) tt

pub both_true : (a b : Bool) → (a && b) ≡ true → (a ≡ true) × (b ≡ true)
both_true true b e = (refl, e)
both_true false b e = absurd (holds false e)

each : (log : List ℕ) (n k : ℕ) → accepted_from log n k ≡ true → (j : ℕ) → k ≤ j → j < k + n → entry_accepted log j ≡ true
unfolding accepted_from
each log zero k e j a b = absurd (omega arith)
each log (suc n) k e j a b =
    let r = both_true (entry_accepted log k) (accepted_from log n (k + 1)) e in
    at r.0 (eq-or-lt_of_le a) (λ l. each log n (k + 1) r.1 j (omega arith) (omega arith))
  where
    at : entry_accepted log k ≡ true → (k ≡ j) ⊎ (k < j) → (k < j → entry_accepted log j ≡ true) → entry_accepted log j ≡ true
    at h (inl q) next = subst (λ (x : ℕ). entry_accepted log x ≡ true) q h
    at h (inr l) next = next l

after : (log : List ℕ) (i : ℕ) → entry_accepted log (suc i) ≡ true → sample_of log i ≤ sample_of log (suc i)
unfolding entry_accepted
after log i e =
    let p : suc i - 1 ≡ i = omega arith in
    let r = (both_true (known_length (heard_length log (suc i))) (eqb (suc i) 0 || leb (sample_of log (suc i - 1)) (sample_of log (suc i))) e).1 in
    let q = sym (ap (λ (t : Bool). t || leb (sample_of log (suc i - 1)) (sample_of log (suc i))) (ne_eqb (suc i) 0 (λ z. omega arith))) ∙ r in
    subst (λ (x : ℕ). sample_of log x ≤ sample_of log (suc i)) p (leb→le (sample_of log (suc i - 1)) (sample_of log (suc i)) (holds (leb (sample_of log (suc i - 1)) (sample_of log (suc i))) q))

pub rises : (log : List ℕ) → log_accepted log ≡ true → (i k : ℕ) → i ≤ k → k < length log / 23 → sample_of log i ≤ sample_of log k
unfolding log_accepted
rises log e i zero h lt = let p : i ≡ 0 = omega arith in subst (λ (x : ℕ). sample_of log x ≤ sample_of log 0) (sym p) (omega arith)
rises log e i (suc k) h lt = at (eq-or-lt_of_le h) (λ le. rises log e i k le (omega arith))
  where
    at : (i ≡ suc k) ⊎ (i < suc k) → (i ≤ k → sample_of log i ≤ sample_of log k) → sample_of log i ≤ sample_of log (suc k)
    at (inl q) ih = subst (λ (x : ℕ). sample_of log x ≤ sample_of log (suc k)) (sym q) (omega arith)
    at (inr l) ih = omega (arith, ih (omega arith), after log k (each log (length log / 23) 0 e (suc k) (omega arith) (omega arith)))
