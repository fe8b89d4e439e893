-- Each of the twelve bits, found by shifting the data.
use mathlib.Core.Path.{◌≡◌, refl, sym, ap, ◌∙◌}
use mathlib.Core.Bool.{Bool, false}
use mathlib.Core.List.{List, [], ◌∷◌, map}
use Prim.Native.Nat.{ℕ, zero, suc, ◌/◌, ◌%◌, ◌^◌, ◌<◌, ◌≤◌}
use native.Mathlib.Nat.{le_of_suc-le-suc, not-suc-le-zero, div-div-eq-div-mul}
use native.Mathlib.Omega.{arith}
use lib.Dec.{eqb}
use lib.ListN.{length, get_or}
use Rattle.std.proofs.Math.ListN.{get_or-eq_default}
use Rattle.mode_ac.specs.Data.{bits_of, bit_of}

abbrev pub shifts : List ℕ
shifts = 3 ∷ 9 ∷ 4 ∷ 10 ∷ 5 ∷ 11 ∷ 6 ∷ 0 ∷ 7 ∷ 1 ∷ 8 ∷ 2 ∷ []

abbrev shifted : ℕ → ℕ → Bool
shifted n s = eqb (n / 2 ^ (s % 16) % 2) 1

agree : (f : ℕ → Bool) (xs : List ℕ) (k : ℕ) → k < length xs → f (get_or xs k 0) ≡ get_or (map f xs) k false
agree f [] k h = absurd (not-suc-le-zero h)
agree f (x ∷ xs) zero h = refl
agree f (x ∷ xs) (suc k) h = agree f xs k (le_of_suc-le-suc h)

-- the bit of worth w of a digit, the lowest of which is m's
low : (m : ℕ) → (m % 2 ≡ m % 8 / 1 % 2) × (m / 2 % 2 ≡ m % 8 / 2 % 2) × (m / 4 % 2 ≡ m % 8 / 4 % 2)
low m = (omega arith, omega arith, omega arith)

bits : (n : ℕ) → map (shifted n) shifts ≡ bits_of n
unfolding bits_of
bits n =
    let p : n / 1 ≡ n = omega arith in
    let a = low (n / 512) in
    let b = low (n / 64) in
    let c = low (n / 8) in
    let d = low n in
    cc (
      div-div-eq-div-mul n 8 2,
      div-div-eq-div-mul n 8 4,
      div-div-eq-div-mul n 64 2,
      div-div-eq-div-mul n 64 4,
      div-div-eq-div-mul n 512 2,
      div-div-eq-div-mul n 512 4,
    )

pub bit_by_shift : (n k : ℕ) → k < 12 → eqb (n / 2 ^ (get_or shifts k 0 % 16) % 2) 1 ≡ bit_of n k
unfolding bit_of
bit_by_shift n k h = agree (shifted n) shifts k h ∙ ap (λ (l : List Bool). get_or l k false) (bits n)

-- and there is none beyond the twelve
pub no_bit : (n k : ℕ) → 12 ≤ k → false ≡ bit_of n k
unfolding bit_of bits_of
no_bit n k h = sym (get_or-eq_default (bits_of n) false h)
