-- `Claim` of specs/CarrierTruth holds.
use mathlib.Core.Path.{◌≡◌, refl, sym, ap, ◌∙◌, subst}
use Prim.Native.Nat.{ℕ, zero, suc, ◌+◌, ◌-◌, ◌*◌, ◌^◌, ◌≤◌, ◌<◌, zero-le}
use native.Mathlib.Nat.{le_trans, le_of_eq, one-mul, mul-one, zero-mul, zero-add, mul-le-mul_right}
use native.Mathlib.Omega.{arith}
use mathlib.Core.Bool.{Bool, true, false}
use lib.Dec.{T, lit≤}
use lib.Pow.{pow_pos}
use lib.Ieee.{Float, neg}
use lib.Ieee.Scale.{finite}
use Rattle.float_rounding.proofs.Val.{Val}
use Rattle.float_rounding.proofs.Size.{within_finite}
use Rattle.float_rounding.proofs.AtMost.{AtMost, at_most_neg, at_most_within}
use Rattle.floats.specs.Narrow.{narrow}
use Rattle.math.specs.Phase.{pi}
use Rattle.math.specs.Carrier.{factorial, reduced, sine_sum, cosine_sum, quadrant, sin_cos}
use Rattle.math.proofs.Constants.{quarter_units, pi_units, pi_val}
use Rattle.math.proofs.InRange.{within_of_tests}
use Rattle.math.proofs.Reduction.{reduced_within}
use Rattle.math.proofs.Sums.{unity, sine_units, cosine_units, sine_val, sine_le, cosine_val, cosine_le}
use Rattle.math_series.specs.Fraction.{Fraction, over, nought, opposite, ◌⊕◌, ◌⊗◌, ◌⊑◌, Within, value}
use Rattle.math_series.specs.Series.{inverse_factorial, sine_series, cosine_series}
use Rattle.math_series.specs.CarrierTruth.{largest_rest, series_distance, narrow_distance, sine_by, cosine_by, Claim}
use Rattle.math_series.proofs.Ratio.{◌*r◌, ◌+r◌}
use Rattle.math_series.proofs.Ratio as R
use Rattle.math_series.proofs.Rounded.{in_units, half}
use Rattle.math_series.proofs.Nested.{nothing, nested, bound, more, sine_inverse, cosine_inverse, sine_falls, cosine_falls, square_one, sine_near, cosine_near}
use Rattle.math_series.proofs.Signed.{◌≈◌, ≈-refl, ≈-sym, ≈-trans, ⊗-cong, ⊑_trans, computed, within_same, within_wider, within_trans, within_opposite}
use Rattle.math_series.proofs.Alternating.{nest_cong, plain, plain_nested, sine_nest, cosine_nest}
use Rattle.math_series.proofs.Valued.{with_sign, value_is, value_neg, sign_times, sign_square, sign_within}
use Rattle.math_series.proofs.Narrowed.{at_most_finite, narrow_finite, narrow_within}

-- ---- the distances, computed: those that the steps lead to, in parts of 2 ^ 60, and that they are less than those claimed
abbrev sine_reached : Fraction
sine_reached = over 53810 (2 ^ 60) (pow_pos 60)

abbrev cosine_reached : Fraction
cosine_reached = over 3208 (2 ^ 60) (pow_pos 60)

sine_reached_lem : plain ((bound sine_inverse 6 0 +r (nothing *r R.one)) +r half 1022) ⊑ sine_reached
unfolding bound sine_inverse factorial
sine_reached_lem = computed (plain ((bound sine_inverse 6 0 +r (nothing *r R.one)) +r half 1022)) sine_reached refl

cosine_reached_lem : plain (bound cosine_inverse 7 0) ⊑ cosine_reached
unfolding bound cosine_inverse factorial
cosine_reached_lem = computed (plain (bound cosine_inverse 7 0)) cosine_reached refl

sine_distance : sine_reached ⊑ series_distance
sine_distance = computed sine_reached series_distance refl

cosine_distance : cosine_reached ⊑ series_distance
cosine_distance = computed cosine_reached series_distance refl

-- ---- ten or more terms
more_is : (j i : ℕ) → more j i ≡ j + i
unfolding more
more_is zero i = zero_plus i
  where
    zero_plus : (i : ℕ) → i ≡ 0 + i
    zero_plus i = omega arith
more_is (suc j) i = ap suc (more_is j i) ∙ next j i
  where
    next : (j i : ℕ) → suc (j + i) ≡ suc j + i
    next j i = omega arith

terms : (N j : ℕ) → j < 10 → 10 ≤ N → suc (more j (N - suc j)) ≡ N
terms N j J h = ap suc (more_is j (N - suc j)) ∙ count N j J h
  where
    count : (N j : ℕ) → j < 10 → 10 ≤ N → suc (j + (N - suc j)) ≡ N
    count N j J h = omega arith

-- ---- S and C, for an r of n units
module _ (r : Float) (s : Bool) (n : ℕ) (v : Val r s n) (small : n ≤ quarter_units) (N : ℕ) (ten : 10 ≤ N) where
  n_one : n ≤ unity
  n_one = le_trans small (lit≤ {m = quarter_units} {n = unity} tt)

  r_is : value r ≈ with_sign s (in_units n)
  r_is = value_is r s n (2 ^ 1074) (pow_pos 1074) v

  square_is : (value r ⊗ value r) ≈ plain (in_units n *r in_units n)
  square_is = ≈-trans (⊗-cong r_is r_is) (sign_square s (in_units n))

  cosine_series_lem : cosine_series N (value r) ≈ plain (nested cosine_inverse N 0 (in_units n *r in_units n))
  unfolding cosine_inverse
  cosine_series_lem =
      ≈-trans (cosine_nest (value r) N)
      (≈-trans (nest_cong (λ (m : ℕ). inverse_factorial (2 * m)) N 0 square_is)
      (≈-sym (plain_nested cosine_inverse cosine_falls (in_units n *r in_units n) (square_one n small 0) N 0)))

  sine_series_lem : sine_series N (value r) ≈ with_sign s (in_units n *r nested sine_inverse N 0 (in_units n *r in_units n))
  unfolding sine_inverse
  sine_series_lem =
      ≈-trans (sine_nest (value r) N)
      (≈-trans (⊗-cong r_is (≈-trans (nest_cong (λ (m : ℕ). inverse_factorial (2 * m + 1)) N 0 square_is) (≈-sym (plain_nested sine_inverse sine_falls (in_units n *r in_units n) (square_one n small 0) N 0))))
      (sign_times s (in_units n) (nested sine_inverse N 0 (in_units n *r in_units n))))

  pub s_within : Within series_distance (value (sine_sum r)) (sine_series N (value r))
  s_within =
      within_wider (⊑_trans sine_reached_lem sine_distance)
      (within_same (≈-sym (value_is (sine_sum r) s (sine_units n) (2 ^ 1074) (pow_pos 1074) (sine_val r s n v n_one))) (≈-sym sine_series_lem)
      (sign_within s (in_units (sine_units n)) (in_units n *r nested sine_inverse N 0 (in_units n *r in_units n)) ((bound sine_inverse 6 0 +r (nothing *r R.one)) +r half 1022)
      (subst (λ (m : ℕ). R.Near (in_units (sine_units n)) (in_units n *r nested sine_inverse m 0 (in_units n *r in_units n)) ((bound sine_inverse 6 0 +r (nothing *r R.one)) +r half 1022)) (terms N 6 (lit≤ tt) ten) (sine_near n small (N - 7)))))

  pub c_within : Within series_distance (value (cosine_sum r)) (cosine_series N (value r))
  c_within =
      within_wider (⊑_trans cosine_reached_lem cosine_distance)
      (within_same (≈-sym (value_is (cosine_sum r) false (cosine_units n) (2 ^ 1074) (pow_pos 1074) (cosine_val r s n v n_one))) (≈-sym cosine_series_lem)
      (sign_within false (in_units (cosine_units n)) (nested cosine_inverse N 0 (in_units n *r in_units n)) (bound cosine_inverse 7 0)
      (subst (λ (m : ℕ). R.Near (in_units (cosine_units n)) (nested cosine_inverse m 0 (in_units n *r in_units n)) (bound cosine_inverse 7 0)) (terms N 7 (lit≤ tt) ten) (cosine_near n small (N - 8)))))

-- ---- the size of r
rest_within : (r : Float) (s : Bool) (n : ℕ) → Val r s n → n ≤ quarter_units → Within largest_rest (value r) nought
rest_within r s n v h = within_same (≈-sym (value_is r s n (2 ^ 1074) (pow_pos 1074) v)) (zero_sign s) (within_wider rest_distance (sign_within s (in_units n) nothing (in_units quarter_units) near))
  where
    rest_distance : plain (in_units quarter_units) ⊑ largest_rest
    rest_distance = computed (plain (in_units quarter_units)) largest_rest refl

    zero_sign : (s : Bool) → with_sign s nothing ≈ nought
    zero_sign true = record { same = refl }
    zero_sign false = record { same = refl }

    near : R.Near (in_units n) nothing (in_units quarter_units)
    near = record { above = record { le = size_le n (2 ^ 1074) quarter_units h }; below = record { le = none n (2 ^ 1074) quarter_units } }
      where
        size_le : (n u q : ℕ) → n ≤ q → n * (1 * u) ≤ (0 * u + q * 1) * u
        size_le n u q h = le_trans (le_of_eq (ap (λ (t : ℕ). n * t) (one-mul u))) (mul-le-mul_right u (le_trans h (le_of_eq (grown u q))))
          where
            grown : (u q : ℕ) → q ≡ 0 * u + q * 1
            grown u q = sym (ap (λ (t : ℕ). t + q * 1) (zero-mul u) ∙ zero-add (q * 1) ∙ mul-one q)

        none : (n u q : ℕ) → 0 * (u * u) ≤ (n * u + q * u) * 1
        none n u q = le_trans (le_of_eq (zero-mul (u * u))) zero-le

-- ---- by quadrant, narrowed
record Sampled (x : Float) (y : Fraction) : Type 0 where
  is_finite : T (finite x)
  near : Within series_distance (value x) y
  narrow_is_finite : T (finite (narrow x))
  narrowed : Within narrow_distance (value (narrow x)) (value x)
  sampled_near : Within (narrow_distance ⊕ series_distance) (value (narrow x)) y

sampled : (x : Float) (y : Fraction) → AtMost 1 x → Within series_distance (value x) y → Sampled x y
sampled x y w h = record { is_finite = at_most_finite 1 x w; near = h; narrow_is_finite = narrow_finite x w; narrowed = narrow_within x w; sampled_near = within_trans {y = value x} (narrow_within x w) h }

opposed : (x : Float) (y : Fraction) → AtMost 1 x → Within series_distance (value x) y → Sampled (neg x) (opposite y)
opposed x y w h = sampled (neg x) (opposite y) (at_most_neg x 1 w) (within_same (≈-sym (value_neg x)) (≈-refl (opposite y)) (within_opposite h))

by_quadrant : (q : ℕ) (s c : Float) (y z : Fraction) → AtMost 1 s → AtMost 1 c → Within series_distance (value s) y → Within series_distance (value c) z
    → Sampled (quadrant q s c).sin (sine_by q y z) × Sampled (quadrant q s c).cos (cosine_by q y z)
unfolding quadrant
by_quadrant zero s c y z S C h k = (sampled s y S h, sampled c z C k)
by_quadrant (suc zero) s c y z S C h k = (sampled c z C k, opposed s y S h)
by_quadrant (suc (suc zero)) s c y z S C h k = (opposed s y S h, opposed c z C k)
by_quadrant (suc (suc (suc q))) s c y z S C h k = (opposed c z C k, sampled s y S h)

-- ---- the claim
pub carrier_truth : Claim
unfolding sin_cos
carrier_truth p F lo hi N ten =
    let t = reduced_within p (within_of_tests p pi pi_units F pi_val (lo, hi)) in
    let r = (reduced p).r in
    let one : t.1 ≤ unity = le_trans t.3 (lit≤ {m = quarter_units} {n = unity} tt) in
    let s-val = sine_val r t.0 t.1 t.2 one in
    let c-val = cosine_val r t.0 t.1 t.2 one in
    let s-size = sine_le r t.0 t.1 t.2 one in
    let c-size = cosine_le r t.0 t.1 t.2 one in
    let s_near = s_within r t.0 t.1 t.2 t.3 N ten in
    let c_near = c_within r t.0 t.1 t.2 t.3 N ten in
    let turned = by_quadrant (reduced p).q (sine_sum r) (cosine_sum r) (sine_series N (value r)) (cosine_series N (value r)) (at_most_within (sine_sum r) unity 1 (le_of_eq (sym (one-mul unity))) (t.0, sine_units t.1, s-val, s-size)) (at_most_within (cosine_sum r) unity 1 (le_of_eq (sym (one-mul unity))) (false, cosine_units t.1, c-val, c-size)) s_near c_near in (
      record {
        r_finite = within_finite r quarter_units t;
        r_small = rest_within r t.0 t.1 t.2 t.3;
        s_finite = within_finite (sine_sum r) unity (t.0, sine_units t.1, s-val, s-size);
        s_near = s_near;
        c_finite = within_finite (cosine_sum r) unity (false, cosine_units t.1, c-val, c-size);
        c_near = c_near;
      },
      record {
        sin_finite = turned.0.is_finite;
        sin_near = turned.0.near;
        cos_finite = turned.1.is_finite;
        cos_near = turned.1.near;
      },
      record {
        sin_finite = turned.0.narrow_is_finite;
        sin_narrowed = turned.0.narrowed;
        sin_near = turned.0.sampled_near;
        cos_finite = turned.1.narrow_is_finite;
        cos_narrowed = turned.1.narrowed;
        cos_near = turned.1.sampled_near;
      },
    )
