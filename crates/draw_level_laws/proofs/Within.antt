-- The nearest f32 is within one part in 2 ^ 22 of the exact figure: the table's rule and half a step, through 200th powers.
use mathlib.Core.Path.{◌≡◌, refl, sym, ap, ◌∙◌}
use Prim.Native.Nat.{ℕ, suc, ◌+◌, ◌*◌, ◌^◌, ◌≤◌}
use native.Mathlib.Nat.{le_trans, le_of_eq, le_of_lt, mul_assoc, mul_comm, mul_left_comm, mul-le-mul_right, mul-le-mul_left, le_of_mul-le-mul_right, pow-le-pow_left}
use native.Mathlib.Omega.{arith}
use lib.Pow.{pow-add, pow_pos}
use lib.Ieee.{Float}
use Rattle.draw_level.specs.Levels.{scale, Entry}
use Rattle.std.proofs.lemmas.Nat.{mul-pow}
use Rattle.draw_level.proofs.Powers.{pow_mul}
use Rattle.draw_level_laws.specs.LevelLaws.{NearestEven, Within}

-- ---- the linear part: U is a step, qU the rounded value and A the exact quotient

half_up : (qU A U : ℕ) → qU * 2 ≤ A * 2 + U → 2 ^ 23 * U ≤ A → 4194304 * qU ≤ 4194305 * A
half_up qU A U h k = omega arith

half_down : (qU A U : ℕ) → A * 2 ≤ qU * 2 + U → 2 ^ 23 * U ≤ A → 16777215 * A ≤ 16777216 * qU
half_down qU A U h k = omega arith

-- the entry plus 1 is no further than one part in 2 ^ 30
less : (O X Y : ℕ) → 16777215 * X ≤ 16777216 * O → 1073741824 * Y ≤ 1073741825 * X → 4194303 * Y ≤ 4194304 * O
less O X Y h k = omega arith

next_part : (t : ℕ) → 1073741824 ≤ t → 1073741824 * suc t ≤ 1073741825 * t
next_part t h = omega arith

-- ---- 200th powers: N ^ 200 against D ^ 200 * 10 ^ n, through W = t * 10 ^ j

module _ (n k j : ℕ) (split : n ≡ j * 200 + k) where
  tenth : 10 ^ n ≡ (10 ^ j) ^ 200 * 10 ^ k
  tenth = ap (λ (x : ℕ). 10 ^ x) split ∙ pow-add 10 (j * 200) k ∙ ap (λ (x : ℕ). x * 10 ^ k) (pow_mul 10 j 200)

  shuffle : (K S J : ℕ) → K * S * J ≡ J * K * S
  shuffle K S J = simp (mul_assoc, mul_comm)

  spread : 10 ^ k * 2 ^ 6000 * (10 ^ j) ^ 200 ≡ 10 ^ n * 2 ^ 6000
  spread = shuffle (10 ^ k) (2 ^ 6000) ((10 ^ j) ^ 200) ∙ ap (λ (x : ℕ). x * 2 ^ 6000) (sym tenth)

  at_most : (t : ℕ) → t ^ 200 ≤ 10 ^ k * 2 ^ 6000 → (t * 10 ^ j) ^ 200 ≤ 10 ^ n * 2 ^ 6000
  at_most t h = le_trans (le_of_eq (mul-pow t (10 ^ j) 200)) (le_trans (mul-le-mul_right ((10 ^ j) ^ 200) h) (le_of_eq spread))

  at_least : (t : ℕ) → 10 ^ k * 2 ^ 6000 ≤ t ^ 200 → 10 ^ n * 2 ^ 6000 ≤ (t * 10 ^ j) ^ 200
  at_least t h = le_trans (le_of_eq (sym spread)) (le_trans (mul-le-mul_right ((10 ^ j) ^ 200) h) (le_of_eq (sym (mul-pow t (10 ^ j) 200))))

  power_up : (N D W : ℕ) → N * 2 ^ 30 ≤ D * W → W ^ 200 ≤ 10 ^ n * 2 ^ 6000 → N ^ 200 ≤ D ^ 200 * 10 ^ n
  power_up N D W h k =
      le_of_mul-le-mul_right {k = 2 ^ 6000}
      (le_trans (le_of_eq (sym (mul-pow N (2 ^ 30) 200)))
      (le_trans (pow-le-pow_left h 200)
      (le_trans (le_of_eq (mul-pow D W 200)) (le_trans (mul-le-mul_left (D ^ 200) k) (le_of_eq (sym (mul_assoc (D ^ 200) (10 ^ n) (2 ^ 6000))))))))
      (pow_pos 6000)

  power_down : (N D W : ℕ) → D * W ≤ N * 2 ^ 30 → 10 ^ n * 2 ^ 6000 ≤ W ^ 200 → D ^ 200 * 10 ^ n ≤ N ^ 200
  power_down N D W h k =
      le_of_mul-le-mul_right {k = 2 ^ 6000}
      (le_trans (le_of_eq (mul_assoc (D ^ 200) (10 ^ n) (2 ^ 6000)))
      (le_trans (mul-le-mul_left (D ^ 200) k)
      (le_trans (le_of_eq (sym (mul-pow D W 200))) (le_trans (pow-le-pow_left h 200) (le_of_eq (mul-pow N (2 ^ 30) 200))))))
      (pow_pos 6000)

-- ---- the amplitude x of n tenths, n = 200 j + k, from the entry t

module _ (n k j t : ℕ) (split : n ≡ j * 200 + k) (rule : Entry k t) (lo : 1073741824 ≤ t) (x : Float) (nearest : NearestEven (t * 10 ^ j) scale x) where
  abbrev W : ℕ
  W = t * 10 ^ j

  abbrev step : ℕ
  step = scale * 2 ^ nearest.exponent

  abbrev over : ℕ
  over = nearest.significand * 2 ^ nearest.exponent

  abbrev N : ℕ
  N = 4194304 * 2048000 * over

  N-is : N * 2 ^ 30 ≡ 4194304 * (nearest.significand * step)
  N-is = regroup 4194304 2048000 (2 ^ 30) scale nearest.significand (2 ^ nearest.exponent) refl
    where
      regroup : (a b c f q p : ℕ) → f ≡ b * c → a * b * (q * p) * c ≡ a * (q * (f * p))
      regroup a b c f q p e = rw e (simp (mul_assoc, mul_comm, mul_left_comm))

  up_line : N * 2 ^ 30 ≤ 4194305 * 2 ^ 149 * W
  up_line =
      le_trans (le_of_eq N-is) (le_trans (half_up (nearest.significand * step) (W * 2 ^ 149) step nearest.above nearest.from) (le_of_eq (turn 4194305 W (2 ^ 149))))
    where
      turn : (a w g : ℕ) → a * (w * g) ≡ a * g * w
      turn a w g = simp (mul_assoc, mul_comm)

  down_line : 4194303 * 2 ^ 149 * (suc t * 10 ^ j) ≤ N * 2 ^ 30
  down_line =
      le_trans (le_of_eq (turn 4194303 (2 ^ 149) (suc t * 10 ^ j)))
      (le_trans (less (nearest.significand * step) (W * 2 ^ 149) (suc t * 10 ^ j * 2 ^ 149) (half_down (nearest.significand * step) (W * 2 ^ 149) step nearest.below nearest.from) stretched) (le_of_eq (sym N-is)))
    where
      turn : (a g w : ℕ) → a * g * w ≡ a * (w * g)
      turn a g w = simp (mul_assoc, mul_comm)

      pull : (a y z g : ℕ) → a * (y * z * g) ≡ a * y * (z * g)
      pull a y z g = simp mul_assoc

      stretched : 1073741824 * (suc t * 10 ^ j * 2 ^ 149) ≤ 1073741825 * (t * 10 ^ j * 2 ^ 149)
      stretched =
          le_trans (le_of_eq (pull 1073741824 (suc t) (10 ^ j) (2 ^ 149)))
          (le_trans (mul-le-mul_right (10 ^ j * 2 ^ 149) (next_part t lo)) (le_of_eq (sym (pull 1073741825 t (10 ^ j) (2 ^ 149)))))

  pub within_of : Within n x
  within_of = record {
    over = over;
    under = 2 ^ 149;
    positive = pow_pos 149;
    value = nearest.value;
    least = power_down n k j split N (4194303 * 2 ^ 149) (suc t * 10 ^ j) down_line (at_least n k j split (suc t) (le_of_lt rule.next));
    most = power_up n k j split N (4194305 * 2 ^ 149) W up_line (at_most n k j split t rule.reaches);
  }
