-- Theorem `level-laws`: the table's rule, and what holds of every level.
use mathlib.Core.Path.{refl, sym}
use Prim.Native.Nat.{ℕ, suc, ◌*◌, ◌/◌, ◌%◌, ◌^◌, ◌≤◌, ◌<◌}
use native.Mathlib.Nat.{le_trans, le_of_eq, le_antisymm, le_of_suc-le-suc, lt_of_lt_of_le, lt_of_le_of_lt, lt_of_not-le, lt_irrefl, mul-one, mul-le-mul_left, mul-lt-mul_of_pos_right, one-le-pow, pow-le-pow_left, pow-le-pow_right, mod-lt, div-add-mod'}
use native.Mathlib.Omega.{arith}
use borrow.Author.Tests.{lt-ltb, le-ltb}
use lib.Dec.{lit<, lit≤}
use lib.Ieee.{round, of_bits}
use Rattle.draw_level.specs.Levels.{table, entry_of, Entry, amplitude_of, level_of}
use Rattle.draw_level.proofs.Rule.{entry_rule, entry_bounds}
use Rattle.draw_level_laws.specs.LevelLaws.{NearestEven, Within, LevelLaws}
use Rattle.draw_level_laws.proofs.Nearest.{nearest_of}
use Rattle.draw_level_laws.proofs.Within.{within_of}

-- of two numbers with the rule neither is larger
no_more : (k t u : ℕ) → Entry k t → Entry k u → t ≤ u
no_more k t u a b =
    le_of_suc-le-suc
    (lt_of_not-le
    (λ (h : suc u ≤ t). lt_irrefl (10 ^ k * 2 ^ 6000) (lt_of_lt_of_le b.next (le_trans (pow-le-pow_left h 200) a.reaches))))

-- ---- the entry times 10 for each full 20 dB is from 2 ^ 30 to below 2 ^ 68

at_least : (t j : ℕ) → 1073741824 ≤ t → 1073741824 ≤ t * 10 ^ j
at_least t j h = le_trans h (le_trans (le_of_eq (sym (mul-one t))) (mul-le-mul_left t (one-le-pow j 10 (lit< tt))))

less_than : (t j : ℕ) → t < 17179869184 → j ≤ 10 → t * 10 ^ j < 2 ^ 68
less_than t j h k =
    let p : 10 ^ j ≤ 10 ^ 10 = pow-le-pow_right (lit< tt) k in
    lt_of_le_of_lt (mul-le-mul_left t p) (lt_of_lt_of_le (mul-lt-mul_of_pos_right h (lit< tt)) (lit≤ tt))

nearest : (n : ℕ) → n ≤ 2000 → NearestEven (entry_of (n % 200) * 10 ^ (n / 200)) (2048000 * 2 ^ 30) (amplitude_of n)
unfolding amplitude_of
nearest n h =
    let b = entry_bounds (n % 200) (mod-lt n (lit< tt)) in
    nearest_of (entry_of (n % 200) * 10 ^ (n / 200)) (at_least (entry_of (n % 200)) (n / 200) b.0) (less_than (entry_of (n % 200)) (n / 200) b.1 (omega arith))

within : (n : ℕ) → n ≤ 2000 → Within n (amplitude_of n)
within n h =
    let k : n % 200 < 200 = mod-lt n (lit< tt) in
    within_of n (n % 200) (n / 200) (entry_of (n % 200)) (sym (div-add-mod' n 200)) (entry_rule (n % 200) k) (entry_bounds (n % 200) k).0 (amplitude_of n) (nearest n h)

pub level_laws : LevelLaws
unfolding table entry_of amplitude_of level_of round of_bits
level_laws = record {
  entries = refl;
  rule = entry_rule;
  only = λ k t h e. le_antisymm (no_more k t (entry_of k) e (entry_rule k h)) (no_more k (entry_of k) t (entry_rule k h) e);
  nearest = nearest;
  within = within;
  bits_0 = refl;
  bits_315 = refl;
  bits_343 = refl;
  bits_601 = refl;
  bits_2000 = refl;
  accepts = λ n h. rw (le-ltb 2000 n h);
  refuses = λ n h. rw (lt-ltb 2000 n h);
}
