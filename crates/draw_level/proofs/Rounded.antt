-- The f32 nearest to t * 10 ^ j / (2,048,000 * 2 ^ 30), from the whole number t * 5 ^ j: what is kept of it over 125, and how far it was halved.
use mathlib.Core.Path.{◌≡◌, refl, sym, ap, ◌∙◌}
use mathlib.Core.Bool.{false}
use Prim.Native.Nat.{ℕ, suc, ◌+◌, ◌-◌, ◌*◌, ◌/◌, ◌^◌, ◌≤◌, ◌<◌, min}
use native.Mathlib.Nat.{le_trans, le_of_eq, lt_of_lt_of_le, lt_of_le_of_lt, mul_assoc, mul_comm, mul_left_comm, mul-le-mul_right, mul-lt-mul_of_pos_right, mul-pos, le-div_iff_mul-le, div-lt_iff_lt-mul, zero-add}
use native.Mathlib.Omega.{arith}
use lib.Dec.{lit<}
use lib.Pow.{pow-add, pow_pos}
use lib.Ieee.{binary32, size, round, of_bits}
use lib.Ieee.Nearest.{closest, closest_same}
use lib.Ieee.Order.{drop, kept}
use Rattle.float_rounding.proofs.Pattern.{round_pattern, size_exact, kept_le}
use Rattle.draw_level.specs.Levels.{scale}
use Rattle.draw_level.proofs.Powers.{ten}

-- with X = 2 ^ x, P = 2 ^ e, Q = 2 ^ j, H = 2 ^ 105, F = 2 ^ 44 and G = 2 ^ 149
widen : (X P Q H F G K : ℕ) → H * F ≡ G → X * (P * Q * H) * (K * F) ≡ X * (K * P) * (Q * G)
widen X P Q H F G K h = rw (← h) (simp (mul_assoc, mul_comm, mul_left_comm))

level_kept : (A P Q H F G K : ℕ) → H * F ≡ G → A * Q * G * (K * P) ≡ A * (K * F * (P * Q * H))
level_kept A P Q H F G K h = rw (← h) (simp (mul_assoc, mul_comm, mul_left_comm))

split3 : (e j : ℕ) → 2 ^ (e + j + 105) ≡ 2 ^ e * 2 ^ j * 2 ^ 105
split3 e j = pow-add 2 (e + j) 105 ∙ ap (λ (x : ℕ). x * 2 ^ 105) (pow-add 2 e j)

module _ (A j e : ℕ) (lo : 8388608 * (125 * 2 ^ e) ≤ A) (hi : A < 16777216 * (125 * 2 ^ e)) where
  abbrev n : ℕ
  n = A * 2 ^ j * 2 ^ 149

  spread : (x : ℕ) → 2 ^ (x + (e + j + 105)) * scale ≡ 2 ^ x * (125 * 2 ^ e) * (2 ^ j * 2 ^ 149)
  spread x =
      ap (λ (z : ℕ). z * scale) (pow-add 2 x (e + j + 105) ∙ ap (λ (z : ℕ). 2 ^ x * z) (split3 e j))
      ∙ widen (2 ^ x) (2 ^ e) (2 ^ j) (2 ^ 105) (2 ^ 44) (2 ^ 149) 125 refl

  pub size_is : size (n / scale) ≡ suc (23 + (e + j + 105))
  size_is = size_exact (23 + (e + j + 105)) (n / scale) ((le-div_iff_mul-le (lit< tt)).1 least) ((div-lt_iff_lt-mul (lit< tt)).1 most)
    where
      least : 2 ^ (23 + (e + j + 105)) * scale ≤ n
      least = le_trans (le_of_eq (spread 23)) (le_trans (mul-le-mul_right (2 ^ j * 2 ^ 149) lo) (le_of_eq (sym (mul_assoc A (2 ^ j) (2 ^ 149)))))

      up : (d : ℕ) → suc (23 + d) ≡ 24 + d
      up d = omega arith

      most : n < 2 ^ suc (23 + (e + j + 105)) * scale
      most =
          lt_of_le_of_lt (le_of_eq (mul_assoc A (2 ^ j) (2 ^ 149)))
          (lt_of_lt_of_le (mul-lt-mul_of_pos_right hi (mul-pos (pow_pos j) (pow_pos 149))) (le_of_eq (sym (ap (λ (z : ℕ). 2 ^ z * scale) (up (e + j + 105)) ∙ spread 24))))

  pub drop_is : drop 24 n scale ≡ e + j + 105
  drop_is = ap (λ (z : ℕ). z - 24) size_is ∙ cut (e + j + 105)
    where
      cut : (d : ℕ) → suc (23 + d) - 24 ≡ d
      cut d = omega arith

  pub kept_is : kept 24 n scale ≡ closest A (125 * 2 ^ e)
  kept_is =
      let S : 0 < scale = lit< tt in
      let F : 0 < 125 = lit< tt in
      ap (λ (z : ℕ). closest n (scale * 2 ^ z)) drop_is
      ∙ closest_same n (scale * 2 ^ (e + j + 105)) A (125 * 2 ^ e) (mul-pos S (pow_pos (e + j + 105))) (mul-pos F (pow_pos e))
      (level_kept A (2 ^ e) (2 ^ j) (2 ^ 105) (2 ^ 44) (2 ^ 149) 125 refl ∙ ap (λ (z : ℕ). A * (scale * z)) (sym (split3 e j)))

  pub rounded_from : e + j ≤ 100 → round binary32 false (A * 2 ^ j) scale ≡ of_bits binary32 ((e + j + 105) * 8388608 + closest A (125 * 2 ^ e))
  rounded_from small =
      round_pattern false (A * 2 ^ j) scale
      ∙ ap (λ (z : ℕ). of_bits binary32 (0 + z)) (ap (λ (d : ℕ). min (d * 8388608 + kept 24 n scale) 2139095040) drop_is ∙ plain (e + j) (kept 24 n scale) small (kept_le 24 n scale) ∙ ap (λ (q : ℕ). (e + j + 105) * 8388608 + q) kept_is)
      ∙ ap (of_bits binary32) (zero-add ((e + j + 105) * 8388608 + closest A (125 * 2 ^ e)))
    where
      plain : (s q : ℕ) → s ≤ 100 → q ≤ 16777216 → min ((s + 105) * 8388608 + q) 2139095040 ≡ (s + 105) * 8388608 + q
      plain s q h k = omega arith

pub tens : (t j : ℕ) → t * 10 ^ j ≡ t * 5 ^ j * 2 ^ j
tens t j = ap (λ (x : ℕ). t * x) (ten j) ∙ sym (mul_assoc t (5 ^ j) (2 ^ j))

pub rounded : (t j e : ℕ) → 8388608 * (125 * 2 ^ e) ≤ t * 5 ^ j → t * 5 ^ j < 16777216 * (125 * 2 ^ e) → e + j ≤ 100
    → round binary32 false (t * 10 ^ j) (2048000 * 2 ^ 30) ≡ of_bits binary32 ((e + j + 105) * 8388608 + closest (t * 5 ^ j) (125 * 2 ^ e))
rounded t j e lo hi small = ap (λ (x : ℕ). round binary32 false x (2048000 * 2 ^ 30)) (tens t j) ∙ rounded_from (t * 5 ^ j) j e lo hi small
