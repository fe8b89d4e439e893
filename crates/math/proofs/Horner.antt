-- The Horner sums written out, for any coefficients, and a step of a sum of listed ones.
use Rattle.std.proofs.Common.{◌≡◌, ℕ, ◌+◌, ◌<◌, ◌≤◌, List, length, get_or, drop, sym}
use Rattle.std.proofs.lemmas.List.{at_drop_more, at_drop_all}
use lib.Ieee.{Float, binary64, add, mul}
use Rattle.math.specs.Carrier.{horner, horner_of}

pub horner_step : (sum : Float) (others : List Float) (k : ℕ) (z d : Float) → k < length others → horner_of (add binary64 (mul binary64 sum z) (get_or others k d)) (drop (k + 1) others) z ≡ horner_of sum (drop k others) z
unfolding horner_of
horner_step sum others k z d h = sym (at_drop_more (λ (l : List Float). horner_of sum l z) others k d h)

pub horner_end : (sum : Float) (others : List Float) (k : ℕ) (z : Float) → length others ≤ k → horner_of sum (drop k others) z ≡ sum
unfolding horner_of
horner_end sum others k z h = at_drop_all (λ (l : List Float). horner_of sum l z) others k h

pub horner_6 : (coefficient : ℕ → Float) {a0 a1 a2 a3 a4 a5 a6 : Float} (z : Float) → coefficient 0 ≡ a0 → coefficient 1 ≡ a1 → coefficient 2 ≡ a2 → coefficient 3 ≡ a3 → coefficient 4 ≡ a4 → coefficient 5 ≡ a5 → coefficient 6 ≡ a6 → horner coefficient 6 0 z ≡ add binary64 (mul binary64 (add binary64 (mul binary64 (add binary64 (mul binary64 (add binary64 (mul binary64 (add binary64 (mul binary64 (add binary64 (mul binary64 a6 z) a5) z) a4) z) a3) z) a2) z) a1) z) a0
unfolding horner
horner_6 coefficient z e0 e1 e2 e3 e4 e5 e6 = cc

pub horner_7 : (coefficient : ℕ → Float) {a0 a1 a2 a3 a4 a5 a6 a7 : Float} (z : Float) → coefficient 0 ≡ a0 → coefficient 1 ≡ a1 → coefficient 2 ≡ a2 → coefficient 3 ≡ a3 → coefficient 4 ≡ a4 → coefficient 5 ≡ a5 → coefficient 6 ≡ a6 → coefficient 7 ≡ a7 → horner coefficient 7 0 z ≡ add binary64 (mul binary64 (add binary64 (mul binary64 (add binary64 (mul binary64 (add binary64 (mul binary64 (add binary64 (mul binary64 (add binary64 (mul binary64 (add binary64 (mul binary64 a7 z) a6) z) a5) z) a4) z) a3) z) a2) z) a1) z) a0
unfolding horner
horner_7 coefficient z e0 e1 e2 e3 e4 e5 e6 e7 = cc
