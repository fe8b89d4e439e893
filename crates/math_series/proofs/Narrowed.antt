-- A float of at most 1 in size, narrowed to `f32`, is at most 2^-25 away: half a unit in the last place below 1, and 1 itself is exact.
use mathlib.Core.Path.{◌≡◌, refl, sym, ap, ◌∙◌, subst}
use mathlib.Core.Logic.{inl, inr}
use Prim.Native.Nat.{ℕ, ◌+◌, ◌-◌, ◌*◌, ◌/◌, ◌^◌, ◌≤◌, ◌<◌}
use native.Mathlib.Nat.{le_trans, le_of_eq, lt_of_lt_of_le, eq-or-lt_of_le, one-mul, mul_comm, mul_assoc, mul-le-mul_left, mul-le-mul_right, mul-lt-mul_of_pos_right, mul-pos, div-lt_iff_lt-mul}
use native.Mathlib.Omega.{arith}
use mathlib.Core.Bool.{Bool, false}
use lib.Dec.{T, lit<, lit≤}
use lib.Pow.{pow_pos, pow_mono}
use lib.Ieee.{Float, nan, inf, fin, binary32, up, down, size, round}
use lib.Ieee.Digits.{size-le}
use lib.Ieee.Exact.{HasValue, units_val, round_exact}
use lib.Ieee.Fits.{down_pos, round_is}
use lib.Ieee.Nearest.{closest}
use lib.Ieee.Order.{drop, kept}
use lib.Ieee.Scale.{grid, overflow, finite, round_under}
use Rattle.float_rounding.proofs.Half.{closest_off}
use Rattle.float_rounding.proofs.AtMost.{AtMost, rounds_whole, round_at_most}
use Rattle.floats.specs.Narrow.{narrow}
use Rattle.math_series.specs.Fraction.{◌⊑◌, Within, signed, value}
use Rattle.math_series.specs.CarrierTruth.{narrow_distance}
use Rattle.math_series.proofs.Ratio.{Ratio, Near}
use Rattle.math_series.proofs.Rounded.{ratio, round_above, round_below}
use Rattle.math_series.proofs.Signed.{≈-refl, ≈-sym, computed, within_same, within_wider}
use Rattle.math_series.proofs.Alternating.{plain}
use Rattle.math_series.proofs.Valued.{value_is, sign_within}

-- ---- the rounding of a / c below 1, in units of 2 ^ -149
abbrev g32 : ℕ → ℕ → ℕ
g32 a c = grid binary32 a c

drop_le : (a c : ℕ) → 0 < c → a < c → drop 24 (a * 2 ^ 149) c ≤ 125
drop_le a c C h = spare (size (a * 2 ^ 149 / c)) (size-le (a * 2 ^ 149 / c) 149 ((div-lt_iff_lt-mul C).1 (lt_of_lt_of_le (mul-lt-mul_of_pos_right h (pow_pos 149)) (le_of_eq (mul_comm c (2 ^ 149))))))
  where
    spare : (z : ℕ) → z ≤ 149 → z - 24 ≤ 125
    spare z h = omega arith

error : (a c : ℕ) → 0 < c → a < c → (g32 a c * c * 2 ≤ a * 2 ^ 149 * 2 + c * 2 ^ 125) × (a * 2 ^ 149 * 2 ≤ g32 a c * c * 2 + c * 2 ^ 125)
error a c C h =
    let n = a * 2 ^ 149 in
    let k = drop 24 n c in
    let o = closest_off n (c * 2 ^ k) (mul-pos C (pow_pos k)) in
    let u : c * 2 ^ k ≤ c * 2 ^ 125 = mul-le-mul_left c (pow_mono (drop_le a c C h)) in
    let g : closest n (c * 2 ^ k) * (c * 2 ^ k) ≡ g32 a c * c = ap (λ (x : ℕ). closest n (c * 2 ^ k) * x) (mul_comm c (2 ^ k)) ∙ sym (mul_assoc (closest n (c * 2 ^ k)) (2 ^ k) c) in
    pair (closest n (c * 2 ^ k) * (c * 2 ^ k)) (g32 a c * c) n (c * 2 ^ k) (c * 2 ^ 125) g u o.0 o.1
  where
    pair : (x y n u v : ℕ) → x ≡ y → u ≤ v → x * 2 ≤ n * 2 + u → n * 2 ≤ x * 2 + u → (y * 2 ≤ n * 2 + v) × (n * 2 ≤ y * 2 + v)
    pair x y n u v e h p q = omega arith

abbrev half32 : Ratio
half32 = ratio (2 ^ 125) (2 * 2 ^ 149) (pow_pos 150)

near_narrow : (a c : ℕ) (C : 0 < c) → a < c → Near (ratio (g32 a c) (2 ^ 149) (pow_pos 149)) (ratio a c C) half32
near_narrow a c C h =
    let e = error a c C h in
    record { above = record { le = round_above (2 ^ 149) (g32 a c) a c (2 ^ 125) e.0 }; below = record { le = round_below (2 ^ 149) (g32 a c) a c (2 ^ 125) e.1 } }

-- ---- finite
pub at_most_finite : (l : ℕ) (x : Float) → AtMost l x → T (finite x)
at_most_finite l nan w = w
at_most_finite l (inf s) w = w
at_most_finite l (fin s m e) w = tt

round_finite : (s : Bool) (a c : ℕ) → 0 < c → a ≤ c → T (finite (round binary32 s a c))
round_finite s a c C h = at_most_finite 1 (round binary32 s a c) (round_at_most binary32 s a c 1 1 C (le_trans h (le_of_eq (sym (one-mul c)))) (rounds_whole binary32 1 (lit≤ tt)))

round_value : (s : Bool) (a c : ℕ) → g32 a c < overflow binary32 → HasValue (round binary32 s a c) s (g32 a c) (2 ^ 149)
round_value s a c h = subst (λ (z : Float). HasValue z s (g32 a c) (2 ^ 149)) (sym (round_is binary32 s a c)) (units_val binary32 s (kept 24 (a * 2 ^ 149) c) (drop 24 (a * 2 ^ 149) c) h)

-- ---- the distance
same_near : (x : Ratio) (d : Ratio) → Near x x d
same_near x d = record { above = record { le = go x.num x.den d.num d.den }; below = record { le = go x.num x.den d.num d.den } }
  where
    plus : (a b : ℕ) → a ≤ a + b
    plus a b = omega arith

    go : (a b c d : ℕ) → a * (b * d) ≤ (a * d + c * b) * b
    go a b c d = le_trans (le_of_eq (ap (λ (t : ℕ). a * t) (mul_comm b d) ∙ sym (mul_assoc a d b))) (mul-le-mul_right b (plus (a * d) (c * b)))

half_is : plain half32 ⊑ narrow_distance
half_is = computed (plain half32) narrow_distance refl

rounded_within : (s : Bool) (a c : ℕ) (C : 0 < c) → a ≤ c → Within narrow_distance (value (round binary32 s a c)) (signed s a c C)
rounded_within s a c C h = elim (eq-or-lt_of_le h) [
  | inr l ↦
      within_wider half_is
      (within_same (≈-sym (value_is (round binary32 s a c) s (g32 a c) (2 ^ 149) (pow_pos 149) (round_value s a c (round_under binary32 a c (round_finite false a c C h))))) (≈-refl (signed s a c C))
      (sign_within s (ratio (g32 a c) (2 ^ 149) (pow_pos 149)) (ratio a c C) half32 (near_narrow a c C l)))
  | inl e ↦
      within_wider half_is
      (within_same (≈-sym (value_is (round binary32 s a c) s a c C (round_exact binary32 s a c 1 149 C (lit< tt) (lit< tt) (whole a c e)))) (≈-refl (signed s a c C))
      (sign_within s (ratio a c C) (ratio a c C) half32 (same_near (ratio a c C) half32)))
]
  where
    whole : (a c : ℕ) → a ≡ c → a * 2 ^ 149 ≡ 1 * 2 ^ 149 * c
    whole a c e = mul_comm a (2 ^ 149) ∙ ap (λ (t : ℕ). t * a) (sym (one-mul (2 ^ 149))) ∙ ap (λ (t : ℕ). 1 * 2 ^ 149 * t) e

pub narrow_finite : (x : Float) → AtMost 1 x → T (finite (narrow x))
unfolding narrow
narrow_finite nan w = absurd w
narrow_finite (inf s) w = absurd w
narrow_finite (fin s m e) w = round_finite s (m * up e) (down e) (down_pos e) (le_trans w (le_of_eq (one-mul (down e))))

pub narrow_within : (x : Float) → AtMost 1 x → Within narrow_distance (value (narrow x)) (value x)
unfolding narrow value
narrow_within nan w = absurd w
narrow_within (inf s) w = absurd w
narrow_within (fin s m e) w = rounded_within s (m * up e) (down e) (down_pos e) (le_trans w (le_of_eq (one-mul (down e))))
