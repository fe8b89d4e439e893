-- The Horner sums of a row's lanes: each number that the code names is the coefficient.
use Rattle.std.proofs.Common.{◌≡◌, ℕ, zero, suc, List, [], ◌∷◌, map, length, replicate, refl, sym, arith}
use lib.Lanes.{zip2}
use lib.Ieee.{Float, binary64, add, mul, neg, of_bits}
use Rattle.math.specs.Carrier.{horner, sine_sum, cosine_sum}
use Rattle.math.proofs.Literals.{sine_0, sine_1, sine_2, sine_3, sine_4, sine_5, sine_6, cosine_0, cosine_1, cosine_2, cosine_3, cosine_4, cosine_5, cosine_6, cosine_7}

-- a step of one sum, and of n of them
abbrev step : Float → Float → Float → Float
step z sum a = add binary64 (mul binary64 sum z) a

abbrev steps : ℕ → List Float → List Float → Float → List Float
steps n z sums a = zip2 (add binary64) (zip2 (mul binary64) sums z) (replicate n a)

-- ---- of n lanes, as the code has them
abbrev sines : ℕ → List Float → List Float
sines n r =
    let z = zip2 (mul binary64) r r in
    let a = steps n z (replicate n (of_bits binary64 0x3de6_1246_13a8_6d09)) (neg (of_bits binary64 0x3e5a_e645_67f5_44e4)) in
    let b = steps n z a (of_bits binary64 0x3ec7_1de3_a556_c734) in
    let c = steps n z b (neg (of_bits binary64 0x3f2a_01a0_1a01_a01a)) in
    let d = steps n z c (of_bits binary64 0x3f81_1111_1111_1111) in
    let e = steps n z d (neg (of_bits binary64 0x3fc5_5555_5555_5555)) in
    zip2 (mul binary64) r (steps n z e (of_bits binary64 0x3ff0_0000_0000_0000))

abbrev cosines : ℕ → List Float → List Float
cosines n r =
    let z = zip2 (mul binary64) r r in
    let a = steps n z (replicate n (neg (of_bits binary64 0x3da9_3974_a8c0_7c9d))) (of_bits binary64 0x3e21_eed8_eff8_d898) in
    let b = steps n z a (neg (of_bits binary64 0x3e92_7e4f_b778_9f5c)) in
    let c = steps n z b (of_bits binary64 0x3efa_01a0_1a01_a01a) in
    let d = steps n z c (neg (of_bits binary64 0x3f56_c16c_16c1_6c17)) in
    let e = steps n z d (of_bits binary64 0x3fa5_5555_5555_5555) in
    let f = steps n z e (neg (of_bits binary64 0x3fe0_0000_0000_0000)) in
    steps n z f (of_bits binary64 0x3ff0_0000_0000_0000)

pub sines_are : (n : ℕ) (r : List Float) → length r ≡ n → sines n r ≡ map sine_sum r
unfolding sine_sum horner
sines_are zero [] l = refl
sines_are zero (x ∷ r) l = absurd (omega arith)
sines_are (suc n) [] l = absurd (omega arith)
sines_are (suc n) (x ∷ r) l =
    let z = mul binary64 x x in
    λ i. mul binary64 x (step z (step z (step z (step z (step z (step z (sym sine_6 i) (sym sine_5 i)) (sym sine_4 i)) (sym sine_3 i)) (sym sine_2 i)) (sym sine_1 i)) (sym sine_0 i)) ∷ sines_are n r (omega arith) i

pub cosines_are : (n : ℕ) (r : List Float) → length r ≡ n → cosines n r ≡ map cosine_sum r
unfolding cosine_sum horner
cosines_are zero [] l = refl
cosines_are zero (x ∷ r) l = absurd (omega arith)
cosines_are (suc n) [] l = absurd (omega arith)
cosines_are (suc n) (x ∷ r) l =
    let z = mul binary64 x x in
    λ i. step z (step z (step z (step z (step z (step z (step z (sym cosine_7 i) (sym cosine_6 i)) (sym cosine_5 i)) (sym cosine_4 i)) (sym cosine_3 i)) (sym cosine_2 i)) (sym cosine_1 i)) (sym cosine_0 i) ∷ cosines_are n r (omega arith) i
