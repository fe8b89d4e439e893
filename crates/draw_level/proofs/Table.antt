-- A rule of a table, proved at all of its entries by one count that the prover computes: how many entries pass, one after the other.
use mathlib.Core.Path.{◌≡◌, refl, ◌∙◌, subst, sym}
use mathlib.Core.Bool.{Bool, true, false, cond}
use mathlib.Core.List.{List, [], ◌∷◌}
use Prim.Native.Nat.{ℕ, zero, suc, ◌+◌, ◌<◌}
use native.Mathlib.Nat.{add-zero, zero-add, add-suc, suc-add, le_of_suc-le-suc, not-suc-le-zero}
use native.Mathlib.Omega.{arith}
use lib.Dec.{T}
use lib.ListN.{length, get_or}

-- the index of the first entry that the test f fails, counted from i; where none does, the index behind the last
abbrev pub passed : (ℕ → ℕ → Bool) → ℕ → List ℕ → ℕ
passed f i [] = i
passed f i (x ∷ xs) = cond (f i x) (passed f (suc i) xs) i

-- the first of some entries that all pass, and the others
first : (f : ℕ → ℕ → Bool) (x : ℕ) (xs : List ℕ) (i : ℕ) → passed f i (x ∷ xs) ≡ i + suc (length xs) → (f i x ≡ true) × (passed f (suc i) xs ≡ suc i + length xs)
first f x xs i e = go (f i x) refl e
  where
    go : (b : Bool) → f i x ≡ b → cond b (passed f (suc i) xs) i ≡ i + suc (length xs) → (f i x ≡ true) × (passed f (suc i) xs ≡ suc i + length xs)
    go true t h = (t, omega (arith, h))
    go false t h = absurd (omega (arith, h))

from : (f : ℕ → ℕ → Bool) (xs : List ℕ) (i : ℕ) → passed f i xs ≡ i + length xs → (k : ℕ) → k < length xs → f (i + k) (get_or xs k 0) ≡ true
from f [] i t k h = absurd (not-suc-le-zero h)
from f (x ∷ xs) i t zero h = subst (λ (m : ℕ). f m x ≡ true) (sym (add-zero i)) (first f x xs i t).0
from f (x ∷ xs) i t (suc k) h =
    subst (λ (m : ℕ). f m (get_or xs k 0) ≡ true) (suc-add i k ∙ sym (add-suc i k))
    (from f xs (suc i) (first f x xs i t).1 k (le_of_suc-le-suc h))

pub at : (f : ℕ → ℕ → Bool) (xs : List ℕ) → passed f 0 xs ≡ length xs → (k : ℕ) → k < length xs → T (f k (get_or xs k 0))
at f xs t k h =
    let e = subst (λ (m : ℕ). f m (get_or xs k 0) ≡ true) (zero-add k) (from f xs 0 (t ∙ sym (zero-add (length xs))) k h) in
    subst T (sym e) tt
