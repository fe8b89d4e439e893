-- Laws of silent and scaled lists: their lengths, their first parts and what is behind these.
use mathlib.Core.List.{List, [], ◌∷◌, ◌++◌}
use mathlib.Core.Path.{◌≡◌, refl, sym, ap, ◌∙◌}
use Prim.Native.Nat.{ℕ, zero, suc, ◌-◌, min}
use native.Mathlib.Omega.{arith}
use lib.Ieee.{Float, binary32, mul}
use lib.ListN.{length, take, drop, length-map, length-replicate}
use lib.Seq.{take-nil}
use Rattle.rack.specs.Feeds.{nought, silent, scaled}

module _ {X : Type 0} where
  pub take_append : (n : ℕ) (l k : List X) → take n (l ++ k) ≡ take n l ++ take (n - length l) k
  take_append n [] k = ap (λ (m : ℕ). take m k) {x = n} {y = n - 0} (omega arith) ∙ sym (ap (λ (r : List X). r ++ take (n - 0) k) (take-nil n))
  take_append zero (x ∷ l) k = ap (λ (m : ℕ). take m k) {x = 0} {y = 0 - suc (length l)} (omega arith)
  take_append (suc n) (x ∷ l) k =
      ap (λ (r : List X). x ∷ r) (take_append n l k ∙ ap (λ (m : ℕ). take n l ++ take m k) {x = n - length l} {y = suc n - suc (length l)} (omega arith))

pub length_silent : (n : ℕ) → length (silent n) ≡ n
unfolding silent
length_silent n = length-replicate n nought

pub take_silent : (n m : ℕ) → take n (silent m) ≡ silent (min n m)
unfolding silent
take_silent zero m = ap silent {x = 0} {y = min 0 m} (omega arith)
take_silent (suc n) zero = ap silent {x = 0} {y = min (suc n) 0} (omega arith)
take_silent (suc n) (suc m) = ap (λ (r : List Float). nought ∷ r) (take_silent n m) ∙ ap silent {x = suc (min n m)} {y = min (suc n) (suc m)} (omega arith)

-- what is behind the first k of a list that begins with m zeros
pub drop_silent : (k m : ℕ) (xs : List Float) → drop k (silent m ++ xs) ≡ silent (m - k) ++ drop (k - m) xs
unfolding silent
drop_silent zero m xs = λ i. silent (a i) ++ drop (b i) xs
  where
    a : m ≡ m - 0
    a = omega arith

    b : 0 ≡ 0 - m
    b = omega arith
drop_silent (suc k) zero xs = λ i. silent (a i) ++ drop (b i) xs
  where
    a : 0 ≡ 0 - suc k
    a = omega arith

    b : suc k ≡ suc k - 0
    b = omega arith
drop_silent (suc k) (suc m) xs = drop_silent k m xs ∙ (λ i. silent (a i) ++ drop (b i) xs)
  where
    a : m - k ≡ suc m - suc k
    a = omega arith

    b : k - m ≡ suc k - suc m
    b = omega arith

module _ (gain : Float) where
  pub length_scaled : (xs : List Float) → length (scaled gain xs) ≡ length xs
  unfolding scaled
  length_scaled xs = length-map xs (λ x. mul binary32 gain x)

  pub scaled_append : (xs ys : List Float) → scaled gain (xs ++ ys) ≡ scaled gain xs ++ scaled gain ys
  unfolding scaled
  scaled_append [] ys = refl
  scaled_append (x ∷ xs) ys = ap (λ (r : List Float). mul binary32 gain x ∷ r) (scaled_append xs ys)

  pub take_scaled : (n : ℕ) (xs : List Float) → take n (scaled gain xs) ≡ scaled gain (take n xs)
  unfolding scaled
  take_scaled n [] = take-nil n ∙ sym (ap (λ (r : List Float). scaled gain r) (take-nil n))
  take_scaled zero (x ∷ xs) = refl
  take_scaled (suc n) (x ∷ xs) = ap (λ (r : List Float). mul binary32 gain x ∷ r) (take_scaled n xs)

  pub drop_scaled : (n : ℕ) (xs : List Float) → drop n (scaled gain xs) ≡ scaled gain (drop n xs)
  unfolding scaled
  drop_scaled zero xs = refl
  drop_scaled (suc n) [] = refl
  drop_scaled (suc n) (x ∷ xs) = drop_scaled n xs
