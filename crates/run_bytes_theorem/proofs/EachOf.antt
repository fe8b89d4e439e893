-- A property of every entry of a list, of its parts, of two lists joined, of a list with one entry changed, and of one entry repeated.
use Prim.Native.Nat.{ℕ, zero, suc}
use mathlib.Core.List.{List, [], ◌∷◌, ◌++◌}
use lib.ListN.{take, drop, set, replicate}
use Rattle.run_theory.specs.Each.{Each}

module _ {X : Type 0} (P : X → Type 0) where
  pub each_take : (n : ℕ) (xs : List X) → Each P xs → Each P (take n xs)
  each_take zero xs t = tt
  each_take (suc n) [] t = tt
  each_take (suc n) (x ∷ xs) (t, ts) = (t, each_take n xs ts)

  pub each_drop : (n : ℕ) (xs : List X) → Each P xs → Each P (drop n xs)
  each_drop zero xs t = t
  each_drop (suc n) [] t = tt
  each_drop (suc n) (x ∷ xs) (t, ts) = each_drop n xs ts

  pub each_append : (xs ys : List X) → Each P xs → Each P ys → Each P (xs ++ ys)
  each_append [] ys t u = u
  each_append (x ∷ xs) ys (t, ts) u = (t, each_append xs ys ts u)

  pub each_set : (xs : List X) (i : ℕ) (y : X) → Each P xs → P y → Each P (set xs i y)
  each_set [] i y t h = tt
  each_set (x ∷ xs) zero y (t, ts) h = (h, ts)
  each_set (x ∷ xs) (suc i) y (t, ts) h = (t, each_set xs i y ts h)

  pub each_replicate : (x : X) → P x → (n : ℕ) → Each P (replicate n x)
  each_replicate x h zero = tt
  each_replicate x h (suc n) = (h, each_replicate x h n)
