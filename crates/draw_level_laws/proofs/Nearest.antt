-- A quotient over the table's scale, rounded to f32, is the nearest one, ties to even.
use mathlib.Core.Path.{◌≡◌, sym, ap, ◌∙◌}
use mathlib.Core.Bool.{false}
use Prim.Native.Nat.{ℕ, suc, ◌+◌, ◌-◌, ◌*◌, ◌/◌, ◌%◌, ◌^◌, ◌≤◌, ◌<◌, compare, Ordering}
use native.Mathlib.Nat.{le_trans, le_of_eq, lt_of_lt_of_le, lt_of_le_of_lt, mul_assoc, mul_comm, mul-le-mul_right, mul-pos, mod-lt, div-add-mod', div-le_self, le-div_iff_mul-le, div-lt_iff_lt-mul, suc-mul}
use native.Mathlib.Omega.{arith}
use lib.Dec.{lit<, lit≤}
use lib.Pow.{pow-add, pow_pos, pow-lt, shl_lt}
use lib.Ieee.{binary32, size, nearest, round}
use lib.Ieee.Digits.{size-lt, size_reaches, size-le}
use lib.Ieee.Nearest.{closest}
use lib.Ieee.Order.{drop}
use lib.Ieee.Scale.{round_val, normal_of_fraction}
use Rattle.float_rounding.proofs.Half.{Cmp, cmp, closest_off}
use Rattle.float_rounding.proofs.Pattern.{kept_le}
use Rattle.draw_level.specs.Levels.{scale}
use Rattle.draw_level_laws.specs.LevelLaws.{NearestEven}

-- ---- half a unit off is a tie, and goes to the even number

even : (w : ℕ) → (w + w % 2) % 2 ≡ 0
even w = omega arith

-- w * b is W, and r the remainder
tie : (w r b : ℕ) (o : Ordering) → Cmp o (r * 2) b → r < b
    → (nearest w o * b * 2 ≡ (w * b + r) * 2 + b → nearest w o % 2 ≡ 0) × ((w * b + r) * 2 ≡ nearest w o * b * 2 + b → nearest w o % 2 ≡ 0)
tie w r b Ordering.lt c l = (λ e. absurd (above (w * b) r b l e), λ e. absurd (below (w * b) r b c e))
  where
    above : (W r b : ℕ) → r < b → W * 2 ≡ (W + r) * 2 + b → ⊥
    above W r b l e = omega arith

    below : (W r b : ℕ) → r * 2 < b → (W + r) * 2 ≡ W * 2 + b → ⊥
    below W r b c e = omega arith
tie w r b Ordering.eq c l = (λ e. even w, λ e. even w)
tie w r b Ordering.gt c l = (λ e. absurd (above (w * b) r b (suc w * b) (suc-mul w b) c e), λ e. absurd (below (w * b) r b (suc w * b) (suc-mul w b) l e))
  where
    above : (W r b N : ℕ) → N ≡ W + b → b < r * 2 → N * 2 ≡ (W + r) * 2 + b → ⊥
    above W r b N n c e = omega arith

    below : (W r b N : ℕ) → N ≡ W + b → r < b → (W + r) * 2 ≡ N * 2 + b → ⊥
    below W r b N n l e = omega arith

closest_tie_even : (a b : ℕ) → 0 < b → (closest a b * b * 2 ≡ a * 2 + b → closest a b % 2 ≡ 0) × (a * 2 ≡ closest a b * b * 2 + b → closest a b % 2 ≡ 0)
closest_tie_even a b B =
    let t = tie (a / b) (a % b) b (compare (a % b * 2) b) (cmp (a % b * 2) b) (mod-lt a B) in
    let s : a / b * b + a % b ≡ a = div-add-mod' a b in
    (λ e. t.0 (e ∙ ap (λ (x : ℕ). x * 2 + b) (sym s)), λ e. t.1 (ap (λ (x : ℕ). x * 2) s ∙ e))

-- ---- W / scale, for W from 2 ^ 30 to below 2 ^ 68

module _ (W : ℕ) (lo : 1073741824 ≤ W) (hi : W < 2 ^ 68) where
  abbrev n : ℕ
  n = W * 2 ^ 149

  abbrev d : ℕ
  d = drop 24 n scale

  S : 0 < scale
  S = lit< tt

  digits : 24 ≤ size (n / scale)
  digits = normal_of_fraction binary32 W scale S (le_trans floor (mul-le-mul_right (2 ^ 149) lo))
    where
      floor : 2 ^ 23 * scale ≤ 1073741824 * 2 ^ 149
      floor = lit≤ tt

  -- 2 ^ (k + d) whole numbers of the scale are 2 ^ k steps
  steps : (k : ℕ) → 2 ^ k * (scale * 2 ^ d) ≡ 2 ^ (k + d) * scale
  steps k = turn (2 ^ k) scale (2 ^ d) ∙ ap (λ (x : ℕ). x * scale) (sym (pow-add 2 k d))
    where
      turn : (a b c : ℕ) → a * (b * c) ≡ a * c * b
      turn a b c = simp (mul_assoc, mul_comm)

  from : 2 ^ 23 * (scale * 2 ^ d) ≤ n
  from =
      le_trans (le_of_eq (steps 23)) ((le-div_iff_mul-le S).0 (size_reaches (n / scale) (23 + d) (below (size (n / scale)) digits)))
    where
      below : (z : ℕ) → 24 ≤ z → 23 + (z - 24) < z
      below z h = omega arith

  to : n < 2 ^ 24 * (scale * 2 ^ d)
  to =
      lt_of_lt_of_le ((div-lt_iff_lt-mul S).0 (size-lt (n / scale))) (le_of_eq (sym (steps 24 ∙ ap (λ (z : ℕ). 2 ^ z * scale) (all (size (n / scale)) digits))))
    where
      all : (z : ℕ) → 24 ≤ z → 24 + (z - 24) ≡ z
      all z h = omega arith

  pub nearest_of : NearestEven W scale (round binary32 false W scale)
  nearest_of = record {
    significand = closest n (scale * 2 ^ d);
    exponent = d;
    value = round_val binary32 W scale (lt_of_le_of_lt (mul-le-mul_right (2 ^ d) (kept_le 24 n scale)) (lt_of_le_of_lt (le_of_eq (sym (pow-add 2 24 d))) (pow-lt (few (size (n / scale)) (size-le (n / scale) 217 less_than)))));
    from = from;
    to = to;
    above = (closest_off n (scale * 2 ^ d) B).0;
    below = (closest_off n (scale * 2 ^ d) B).1;
    tie_above = (closest_tie_even n (scale * 2 ^ d) B).0;
    tie_below = (closest_tie_even n (scale * 2 ^ d) B).1;
  }
    where
      B : 0 < scale * 2 ^ d
      B = mul-pos S (pow_pos d)

      less_than : n / scale < 2 ^ 217
      less_than = lt_of_le_of_lt (div-le_self n scale) (shl_lt 68 149 hi)

      few : (z : ℕ) → z ≤ 217 → 24 + (z - 24) < 277
      few z h = omega arith
