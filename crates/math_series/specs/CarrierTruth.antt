-- How true the carrier is (SPECIFICATION 6.14): for every `f64` from -PI to PI, S and C lie within 2^-40 of the series of r, and the sine and cosine that a
-- sample uses, narrowed to `f32`, within 2^-25 + 2^-40.
use Rattle.std.specs.Prelude.{ℕ, zero, suc, ◌^◌, ◌≤◌, T, Float}
use Rattle.std.proofs.Common.{zero-lt-suc, pow_pos}
use Rattle.std.specs.Float.{binary64}
use Rattle.std.specs.Float.Ieee.{neg, le, fits}
use Rattle.std.specs.Float.Ieee.Scale.{finite}
use Rattle.floats.specs.Narrow.{narrow}
use Rattle.math.specs.Phase.{pi}
use Rattle.math.specs.Carrier.{reduced, sine_sum, cosine_sum, sin_cos}
use Rattle.math_series.specs.Fraction.{Fraction, over, nought, opposite, ◌⊕◌, Within, value}
use Rattle.math_series.specs.Series.{sine_series, cosine_series}

-- 0.786
abbrev pub largest_rest : Fraction
largest_rest = over 786 1000 (zero-lt-suc 999)

-- 2^-40
abbrev pub series_distance : Fraction
series_distance = over 1 (2 ^ 40) (pow_pos 40)

-- 2^-25, half a unit in the last place of the `f32` below 1
abbrev pub narrow_distance : Fraction
narrow_distance = over 1 (2 ^ 25) (pow_pos 25)

-- What is shown of a phase p and N terms. `(reduced p).r` is r, the number that the reduction leaves; `sine_sum` and `cosine_sum` of it are S and C (SPECIFICATION 6.11).
pub record CarrierTruth (p : Float) (N : ℕ) : Type 0 where
  pub r_finite : T (finite (reduced p).r)
  pub r_small : Within largest_rest (value (reduced p).r) nought
  pub s_finite : T (finite (sine_sum (reduced p).r))
  pub s_near : Within series_distance (value (sine_sum (reduced p).r)) (sine_series N (value (reduced p).r))
  pub c_finite : T (finite (cosine_sum (reduced p).r))
  pub c_near : Within series_distance (value (cosine_sum (reduced p).r)) (cosine_series N (value (reduced p).r))

-- sine and cosine by q, by the second table of SPECIFICATION 6.11, for fractions
abbrev pub sine_by : ℕ → Fraction → Fraction → Fraction
sine_by zero s c = s
sine_by (suc zero) s c = c
sine_by (suc (suc zero)) s c = opposite s
sine_by (suc (suc (suc q))) s c = opposite c

abbrev pub cosine_by : ℕ → Fraction → Fraction → Fraction
cosine_by zero s c = c
cosine_by (suc zero) s c = opposite s
cosine_by (suc (suc zero)) s c = opposite c
cosine_by (suc (suc (suc q))) s c = s

-- the two series of r, cut after N terms, by the quadrant q of p
abbrev pub exact_sine : Float → ℕ → Fraction
exact_sine p N = sine_by (reduced p).q (sine_series N (value (reduced p).r)) (cosine_series N (value (reduced p).r))

abbrev pub exact_cosine : Float → ℕ → Fraction
exact_cosine p N = cosine_by (reduced p).q (sine_series N (value (reduced p).r)) (cosine_series N (value (reduced p).r))

-- what is shown of the answer of `math::sin_cos`
pub record FunctionTruth (p : Float) (N : ℕ) : Type 0 where
  pub sin_finite : T (finite (sin_cos p).sin)
  pub sin_near : Within series_distance (value (sin_cos p).sin) (exact_sine p N)
  pub cos_finite : T (finite (sin_cos p).cos)
  pub cos_near : Within series_distance (value (sin_cos p).cos) (exact_cosine p N)

-- what is shown of the `f32` sine and cosine by which a sample of phase p is multiplied: their distance from that answer, and from the series
pub record SampleTruth (p : Float) (N : ℕ) : Type 0 where
  pub sin_finite : T (finite (narrow (sin_cos p).sin))
  pub sin_narrowed : Within narrow_distance (value (narrow (sin_cos p).sin)) (value (sin_cos p).sin)
  pub sin_near : Within (narrow_distance ⊕ series_distance) (value (narrow (sin_cos p).sin)) (exact_sine p N)
  pub cos_finite : T (finite (narrow (sin_cos p).cos))
  pub cos_narrowed : Within narrow_distance (value (narrow (sin_cos p).cos)) (value (sin_cos p).cos)
  pub cos_near : Within (narrow_distance ⊕ series_distance) (value (narrow (sin_cos p).cos)) (exact_cosine p N)

-- For every p of the format `f64` with -PI <= p <= PI, by the language's comparison, which no NaN passes, and every cut after ten or more terms.
abbrev pub Claim : Type 0
Claim = (p : Float) → T (fits binary64 p) → T (le (neg pi) p) → T (le p pi) → (N : ℕ) → 10 ≤ N → CarrierTruth p N × FunctionTruth p N × SampleTruth p N
