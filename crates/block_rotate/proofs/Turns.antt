-- A phase less two quarters of a turn, but one for each limit above it, is what is left of the phase.
use Rattle.std.proofs.Common.{◌≡◌, ℕ, zero, suc, ◌+◌, true, T, List, [], ◌∷◌, map, length, replicate, sym, refl, ap, ◌∙◌, arith}
use lib.IntN.{pos}
use lib.Lanes.{Each1, zip2}
use lib.Ieee.{Float, fin, binary64, of_bits, of_int, fits, add, sub, mul, div, neg}
use Rattle.float_rounding.proofs.More.{sub_is}
use Rattle.float_remainder.proofs.Itself.{plus_minus_zero}
use Rattle.math.specs.Phase.{pi}
use Rattle.math.specs.Carrier.{half_pi, reduced}
use Rattle.block_rotate.specs.BlockModel.{bit, limits_above}
use Rattle.block_rotate.proofs.Quarters.{by_tests, row_of}

-- what is taken off, by the number of limits
abbrev off : ℕ → Float
off n = mul binary64 (sub binary64 (of_bits binary64 0x4000_0000_0000_0000) (of_int binary64 (pos n))) (of_bits binary64 0x3ff9_21fb_5444_2d18)

four : neg (off 4) ≡ pi
unfolding pi of_bits of_int sub mul neg
four = refl

three : neg (off 3) ≡ half_pi
unfolding half_pi pi of_bits of_int sub mul div neg
three = refl

two : neg (off 2) ≡ fin true 0 (pos 0)
unfolding of_bits of_int sub mul neg
two = refl

one : neg (off 1) ≡ neg half_pi
unfolding half_pi pi of_bits of_int sub mul div neg
one = refl

none : neg (off 0) ≡ neg pi
unfolding pi of_bits of_int sub mul neg
none = refl

reduced_is : (p : Float) → T (fits binary64 p) → sub binary64 p (off (limits_above p)) ≡ (reduced p).r
unfolding limits_above reduced bit
reduced_is p F =
    by_tests (λ a b c d. sub binary64 p (off (bit a + bit b + bit c + bit d)) ≡ (row_of p a b c d).r)
    (sub_is p (off 4) ∙ ap (add binary64 p) four)
    (sub_is p (off 3) ∙ ap (add binary64 p) three)
    (sub_is p (off 2) ∙ ap (add binary64 p) two ∙ plus_minus_zero binary64 p F)
    (sub_is p (off 1) ∙ ap (add binary64 p) one ∙ sym (sub_is p half_pi))
    (sub_is p (off 0) ∙ ap (add binary64 p) none ∙ sym (sub_is p pi))
    p

-- ---- m phases at once, as the code has them: x are their numbers of limits as floats
abbrev rests : ℕ → List Float → List Float → List Float
rests m p x = zip2 (sub binary64) p (zip2 (mul binary64) (zip2 (sub binary64) (replicate m (of_bits binary64 0x4000_0000_0000_0000)) x) (replicate m (of_bits binary64 0x3ff9_21fb_5444_2d18)))

abbrev floats : List ℕ → List Float
floats n = map (λ k. of_int binary64 (pos k)) n

lanes : (m : ℕ) (p : List Float) → length p ≡ m → Each1 (λ x. T (fits binary64 x)) p → rests m p (floats (map limits_above p)) ≡ map (λ x. (reduced x).r) p
lanes zero [] l F = refl
lanes zero (x ∷ p) l F = absurd (omega arith)
lanes (suc m) [] l F = absurd (omega arith)
lanes (suc m) (x ∷ p) l F = λ i. reduced_is x F.0 i ∷ lanes m p (omega arith) F.1 i

pub reduced_are : (m : ℕ) (p : List Float) → length p ≡ m → Each1 (λ x. T (fits binary64 x)) p → {n : List ℕ} {x : List Float} → n ≡ map limits_above p → x ≡ floats n → rests m p x ≡ map (λ x. (reduced x).r) p
reduced_are m p l F e w = ap (rests m p) (w ∙ ap floats e) ∙ lanes m p l F
