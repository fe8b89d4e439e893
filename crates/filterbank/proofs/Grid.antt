-- The clock on a grid. A step of at least `least` cells and at most a half, on a grid of `cells` to a pulse that the format holds exactly, takes the phase up by that many cells each sample.
-- So the phase stays from 0 to below 1, and n samples count least * n cells. Rounding keeps order and is exact on the grid: nothing else is used.
use Rattle.std.proofs.Common.{◌≡◌, ℕ, suc, ◌+◌, ◌-◌, ◌*◌, ◌^◌, ◌<◌, ◌≤◌, Bool, true, false, not, T, pos, sym, refl, ap, ◌∙◌, subst, le_trans, le_of_eq, lt_of_lt_of_le, lt_of_le_of_lt, mul-le-mul_right, mul_comm, add-mul, lt_of_mul-lt-mul_right, mul-le-mul_left, mul-one, mul-add, add-one, arith, lit<, pow_pos}
use native.Mathlib.Nat.{lt_of_mul-lt-mul_left, mul-sub}
use lib.Ieee.{Float, fin, binary64, add, sub, le, of_int}
use lib.Ieee.Scale.{overflow}
use Rattle.float_rounding.proofs.Units.{G, G-ge, G-le, Units, add_units, sub_units, le_units}
use Rattle.filterbank.specs.declared.Clock.{Clock}
use Rattle.filterbank.specs.Clocked.{one, settle, advance}

pub record Grid : Type 0 where
  pub cells : ℕ
  pub exponent : ℕ
  pub least : ℕ
  pub whole : cells * 2 ^ exponent ≡ 2 ^ 1074
  pub small : cells + least < 2 ^ 53

is_one : one ≡ fin false 1 (pos 0)
unfolding of_int
is_one = refl

module _ (g : Grid) where
  open g use {cells, exponent, least, whole, small}

  -- a step of at least n cells, and at most a half
  abbrev pub Stepping : Float → Type 0
  Stepping d = (u : ℕ) × Units d u × (least * 2 ^ exponent ≤ u) × (u ≤ 1 * 2 ^ 1073)

  -- after n samples: the phase is w units, and a cells at least, and the cells counted are those of n steps
  abbrev pub Kept : ℕ → Clock → Type 0
  Kept n s = (w : ℕ) × (a : ℕ) × Units s.phase w × (w < 2 ^ 1074) × (a * 2 ^ exponent ≤ w) × (least * n ≤ a + cells * s.index)

  pub few : (a w : ℕ) → a * 2 ^ exponent ≤ w → w < 2 ^ 1074 → a < cells
  few a w h l = lt_of_mul-lt-mul_right (2 ^ exponent) (lt_of_le_of_lt h (lt_of_lt_of_le l (le_of_eq (sym whole))))

  sum_lo : (a w i : ℕ) → a * 2 ^ exponent ≤ w → least * 2 ^ exponent ≤ i → (a + least) * 2 ^ exponent * 2 ^ 1074 ≤ (w + i) * 2 ^ 1074
  sum_lo a w i h k = mul-le-mul_right (2 ^ 1074) (le_trans (le_of_eq (add-mul a least (2 ^ exponent))) (both (a * 2 ^ exponent) (least * 2 ^ exponent) w i h k))
    where
      both : (x y w i : ℕ) → x ≤ w → y ≤ i → x + y ≤ w + i
      both x y w i h k = omega arith

  less_lo : (a w : ℕ) → a * 2 ^ exponent ≤ w → (a - cells) * 2 ^ exponent * 2 ^ 1074 ≤ (w - 2 ^ 1074) * 2 ^ 1074
  less_lo a w h = mul-le-mul_right (2 ^ 1074) (le_trans (le_of_eq (mul_comm (a - cells) (2 ^ exponent) ∙ mul-sub (2 ^ exponent) a cells)) (both (2 ^ exponent * a) (2 ^ exponent * cells) (2 ^ 1074) w (mul_comm (2 ^ exponent) cells ∙ whole) (le_trans (le_of_eq (mul_comm (2 ^ exponent) a)) h)))
    where
      both : (x y z w : ℕ) → y ≡ z → x ≤ w → x - y ≤ w - z
      both x y z w e h = omega arith

  count_up : (n a i : ℕ) → least * n ≤ a + cells * i → least * suc n ≤ a + least - cells + cells * (i + 1)
  count_up n a i h = le_trans (le_of_eq (ap (λ (x : ℕ). least * x) (sym (add-one n)) ∙ mul-add least n 1)) (le_trans (up (least * n) a (cells * i) least cells h) (le_of_eq (ap (λ (x : ℕ). a + least - cells + x) (sym (mul-add cells i 1)))))
    where
      up : (x a y l c : ℕ) → x ≤ a + y → x + l * 1 ≤ a + l - c + (y + c * 1)
      up x a y l c h = le_trans (le_of_eq (ap (λ (z : ℕ). x + z) (mul-one l))) (le_trans (plain x a y l c h) (le_of_eq (ap (λ (z : ℕ). a + l - c + (y + z)) (sym (mul-one c)))))
        where
          plain : (x a y l c : ℕ) → x ≤ a + y → x + l ≤ a + l - c + (y + c)
          plain x a y l c h = omega arith

  count_on : (n a i : ℕ) → least * n ≤ a + cells * i → least * suc n ≤ a + least + cells * i
  count_on n a i h = le_trans (le_of_eq (ap (λ (x : ℕ). least * x) (sym (add-one n)) ∙ mul-add least n 1 ∙ ap (λ (x : ℕ). least * n + x) (mul-one least))) (plain (least * n) a (cells * i) least h)
    where
      plain : (x a y l : ℕ) → x ≤ a + y → x + l ≤ a + l + y
      plain x a y l h = omega arith

  tiny : (a : ℕ) → a < cells → a + least < 2 ^ 53
  tiny a h = go a cells least h small
    where
      go : (a c l : ℕ) → a < c → c + l < 2 ^ 53 → a + l < 2 ^ 53
      go a c l h k = omega arith

  tiny_less : (a : ℕ) → a < cells → a + least - cells < 2 ^ 53
  tiny_less a h = go a cells least h small
    where
      go : (a c l : ℕ) → a < c → c + l < 2 ^ 53 → a + l - c < 2 ^ 53
      go a c l h k = omega arith

  settled : (n : ℕ) (q : Float) (i w a : ℕ) (b : Bool) → Units q w → w ≤ 3 * 2 ^ 1073 → (a + least) * 2 ^ exponent ≤ w → a < cells → least * n ≤ a + cells * i → (T b → 2 ^ 1074 ≤ w) → (T (not b) → w < 2 ^ 1074) → Kept (suc n) (settle b q i)
  unfolding settle
  settled n q i w a true U hi lo A c over under =
      let v = G (w - 2 ^ 1074) (2 ^ 1074) in
      let v_hi : v ≤ 1 * 2 ^ 1073 = G-le (w - 2 ^ 1074) (2 ^ 1074) 1 1073 (pow_pos 1074) (lit< tt) (mul-le-mul_right (2 ^ 1074) (half (2 ^ 1073) w hi)) in
      let v_lo : (a + least - cells) * 2 ^ exponent ≤ v = G-ge (w - 2 ^ 1074) (2 ^ 1074) (a + least - cells) exponent (pow_pos 1074) (tiny_less a A) (less_lo (a + least) w lo) in
      (v, a + least - cells, subst (λ (x : Float). Units (sub binary64 q x) v) (sym is_one) (sub_units q (fin false 1 (pos 0)) w (2 ^ 1074) U refl (pow_pos 1074) (over tt) (lt_of_le_of_lt v_hi (lit< {m = 1 * 2 ^ 1073} {n = overflow binary64} tt))), lt_of_le_of_lt v_hi (lit< {m = 1 * 2 ^ 1073} {n = 2 ^ 1074} tt), v_lo, count_up n a i c)
    where
      half : (h w : ℕ) → w ≤ 3 * h → w - 2 * h ≤ 1 * h
      half h w a = omega arith
  settled n q i w a false U hi lo A c over under = (w, a + least, U, under tt, lo, count_on n a i c)

  sum_hi : (w i : ℕ) → w < 2 ^ 1074 → i ≤ 1 * 2 ^ 1073 → (w + i) * 2 ^ 1074 ≤ 3 * 2 ^ 1073 * 2 ^ 1074
  sum_hi w i a b = mul-le-mul_right (2 ^ 1074) (both (2 ^ 1073) w i a b)
    where
      both : (h w i : ℕ) → w < 2 * h → i ≤ 1 * h → w + i ≤ 3 * h
      both h w i a b = omega arith

  -- one sample more
  pub kept_step : (n : ℕ) (d : Float) (s : Clock) → Stepping d → Kept n s → Kept (suc n) (advance d s)
  unfolding advance
  kept_step n d s inc v =
      let w = v.0 in
      let a = v.1 in
      let i = inc.0 in
      let x = G (w + i) (2 ^ 1074) in
      let A : a < cells = few a w v.4 v.3 in
      let hi : x ≤ 3 * 2 ^ 1073 = G-le (w + i) (2 ^ 1074) 3 1073 (pow_pos 1074) (lit< tt) (sum_hi w i v.3 inc.3) in
      let lo : (a + least) * 2 ^ exponent ≤ x = G-ge (w + i) (2 ^ 1074) (a + least) exponent (pow_pos 1074) (tiny a A) (sum_lo a w i v.4 inc.2) in
      let q = add binary64 s.phase d in
      let U : Units q x = add_units s.phase d w i v.2 inc.1 (lt_of_le_of_lt hi (lit< {m = 3 * 2 ^ 1073} {n = overflow binary64} tt)) in
      let t = le_units 1 (pos 0) q (2 ^ 1074) x refl (pow_pos 1074) U in
      settled n q s.index x a (le one q) U hi lo A v.5
      (λ y. t.0 (subst (λ (z : Float). T (le z q)) is_one y)) (λ y. t.1 (subst (λ (z : Float). T (not (le z q))) is_one y))

  -- while the index is below the limit, fewer than `most` samples were made, where limit / most is at most least / cells
  pub fewer : (n : ℕ) (s : Clock) (limit most : ℕ) → cells * limit ≤ least * most → Kept n s → s.index < limit → n < most
  fewer n s limit most m v h = lt_of_mul-lt-mul_left least (lt_of_le_of_lt v.5 (lt_of_lt_of_le (below v.1 s.index limit (few v.1 v.0 v.4 v.3) h) m))
    where
      below : (a i k : ℕ) → a < cells → i < k → a + cells * i < cells * k
      below a i k A h = lt_of_lt_of_le (plain a (cells * i) cells A) (le_trans (le_of_eq (ap (λ (x : ℕ). cells * i + x) (sym (mul-one cells)) ∙ sym (mul-add cells i 1) ∙ ap (λ (x : ℕ). cells * x) (add-one i))) (mul-le-mul_left cells h))
        where
          plain : (a y c : ℕ) → a < c → a + y < y + c
          plain a y c h = omega arith
