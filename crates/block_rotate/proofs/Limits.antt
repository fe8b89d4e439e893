-- How many limits of the reduction lie above the phase in each lane, and such a number as a float.
use Rattle.std.proofs.Common.{◌≡◌, ℕ, zero, suc, ◌+◌, ◌%◌, ◌^◌, ◌≤◌, Bool, true, false, not, T, List, [], ◌∷◌, map, length, replicate, sym, refl, ◌∙◌, w64, arith}
use Rattle.std.proofs.lemmas.Float.{not_nan_f64_bits}
use Rattle.std.proofs.lemmas.Simd.{splat_is_map}
use lib.IntN.{pos}
use lib.Lanes.{Each1, zip2, sel_l}
use lib.Ieee.{Float, binary64, of_bits, of_int, nan_bits, sub, neg, lt}
use Rattle.math.proofs.Literals.{outer_limit_is, inner_limit_is}
use Rattle.block_rotate.specs.BlockModel.{bit, limits_above}
use Rattle.floats.proofs.Rows.{as_map, compared, tests, select_of_maps}

-- ---- the limits, as the code writes them
abbrev outer : Float
outer = of_bits binary64 0x4002_d97c_7f33_21d2

abbrev inner : Float
inner = of_bits binary64 0x3fe9_21fb_5444_2d18

abbrev above : Float → Float → ℕ
above limit x = bit (lt x limit)

-- ---- a 1 where one lies above
pub marks_are : (p : List Float) (limit : Float) → length p ≡ 8 → sel_l (tests w64 (compared w64 lt p (replicate 8 limit))) (replicate 8 1) (replicate 8 0) ≡ map (above limit) p
unfolding bit
marks_are p limit l = select_of_maps w64 lt (λ x. x) (λ _. limit) p (as_map p) (splat_is_map p 8 limit l) (λ _. 1) (λ _. 0) (splat_is_map p 8 1 l) (splat_is_map p 8 0 l)

-- ---- the number
-- the language's sum of `u64` lanes
abbrev plus : ℕ → ℕ → ℕ
plus a b = (a + b) % 2 ^ 64

bit_most : (b : Bool) → bit b ≤ 1
unfolding bit
bit_most true = omega arith
bit_most false = omega arith

-- no sum reaches 2^64
no_wrap : (a b c d : Bool) → plus (plus (plus (bit a) (bit b)) (bit c)) (bit d) ≡ bit a + bit b + bit c + bit d
no_wrap a b c d = omega (arith, bit_most a, bit_most b, bit_most c, bit_most d)

count_is : (x : Float) → plus (plus (plus (above (neg outer) x) (above (neg inner) x)) (above inner x)) (above outer x) ≡ limits_above x
unfolding limits_above
count_is x =
    no_wrap (lt x (neg outer)) (lt x (neg inner)) (lt x inner) (lt x outer)
    ∙ (λ i. above (neg (sym outer_limit_is i)) x + above (neg (sym inner_limit_is i)) x + above (sym inner_limit_is i) x + above (sym outer_limit_is i) x)

counts_are : (p : List Float) → zip2 plus (zip2 plus (zip2 plus (map (above (neg outer)) p) (map (above (neg inner)) p)) (map (above inner) p)) (map (above outer) p) ≡ map limits_above p
counts_are [] = refl
counts_are (x ∷ p) = λ i. count_is x i ∷ counts_are p i

pub limits_counted : (p : List Float) {a b c d : List ℕ} → a ≡ map (above (neg outer)) p → b ≡ map (above (neg inner)) p → c ≡ map (above inner) p → d ≡ map (above outer) p → zip2 plus (zip2 plus (zip2 plus a b) c) d ≡ map limits_above p
limits_counted p ea eb ec ed = (λ i. zip2 plus (zip2 plus (zip2 plus (ea i) (eb i)) (ec i)) (ed i)) ∙ counts_are p

-- ---- a number from 0 to 4 as a float
abbrev whole : ℕ
whole = 0x4330_0000_0000_0000

no_nan : (n : ℕ) → n ≤ 4 → T (not (nan_bits binary64 (plus n whole)))
no_nan n h = not_nan_f64_bits (plus n whole) (omega arith)

pub no_nans : (m : ℕ) (n : List ℕ) → Each1 (λ k. k ≤ 4) n → Each1 (λ b. T (not (nan_bits binary64 b))) (zip2 plus n (replicate m whole))
no_nans m [] h = tt
no_nans zero (k ∷ n) h = tt
no_nans (suc m) (k ∷ n) h = (no_nan k h.0, no_nans m n h.1)

as_float_is : (n : ℕ) → n ≤ 4 → sub binary64 (of_bits binary64 (plus n whole)) (of_bits binary64 whole) ≡ of_int binary64 (pos n)
unfolding sub of_bits of_int
as_float_is zero h = refl
as_float_is (suc zero) h = refl
as_float_is (suc (suc zero)) h = refl
as_float_is (suc (suc (suc zero))) h = refl
as_float_is (suc (suc (suc (suc zero)))) h = refl
as_float_is (suc (suc (suc (suc (suc n))))) h = absurd (omega arith)

pub as_floats_are : (m : ℕ) (n : List ℕ) → length n ≡ m → Each1 (λ k. k ≤ 4) n → zip2 (sub binary64) (map (of_bits binary64) (zip2 plus n (replicate m whole))) (replicate m (of_bits binary64 whole)) ≡ map (λ k. of_int binary64 (pos k)) n
as_floats_are m [] e h = refl
as_floats_are zero (k ∷ n) e h = absurd (omega arith)
as_floats_are (suc m) (k ∷ n) e h = λ i. as_float_is k h.0 i ∷ as_floats_are m n (omega arith) h.1 i
