-- The numbers that the code of `amplitude` works with: they fit 64 bits, and its bit pattern is that of the definition.
use mathlib.Core.Path.{◌≡◌, sym, ap, ◌∙◌, subst}
use mathlib.Core.Bool.{Bool, not}
use Prim.Native.Nat.{ℕ, ◌+◌, ◌*◌, ◌/◌, ◌%◌, ◌^◌, ◌≤◌, ◌<◌}
use native.Mathlib.Nat.{le_trans, le_of_eq, mod-lt, mul-one, mul-le-mul_left, one-le-pow, pow-le-pow_right}
use native.Mathlib.Omega.{arith}
use lib.Dec.{T, lit<}
use lib.Arith.{le→nltb}
use lib.Pow.{shl_exact}
use lib.Ieee.{binary32, of_bits, nan_bits}
use lib.Ieee.Bits.{nan_bits_above}
use lib.Ieee.Nearest.{closest}
use Rattle.float_rounding.proofs.Pattern.{kept_le}
use Rattle.draw_level.specs.Levels.{scale, entry_of, amplitude_of}
use Rattle.draw_level.proofs.Rounded.{kept_is, rounded}
use Rattle.draw_level.proofs.Rule.{entry_bounds}

pub record Product (a : ℕ) : Type 0 where
  pub least : 1073741824 ≤ a
  pub most : a ≤ 167772160000000000

product : (k j : ℕ) → k < 200 → j ≤ 10 → Product (entry_of k * 5 ^ j)
product k j K J =
    let b = entry_bounds k K in
    let p : 1 ≤ 5 ^ j = one-le-pow j 5 (lit< tt) in
    let r : 5 ^ j ≤ 5 ^ 10 = pow-le-pow_right (lit< tt) J in
    record {
      least = le_trans b.0 (le_trans (le_of_eq (sym (mul-one (entry_of k)))) (mul-le-mul_left (entry_of k) p));
      most = le_trans (mul-le-mul_left (entry_of k) r) (times (entry_of k) b.1);
    }
  where
    times : (t : ℕ) → t < 17179869184 → t * 5 ^ 10 ≤ 167772160000000000
    times t h = omega arith

pub five_fits : (j : ℕ) → j ≤ 10 → 5 ^ j < 18446744073709551616
five_fits j h = let most : 5 ^ j ≤ 5 ^ 10 = pow-le-pow_right (lit< tt) h in omega arith

pub product_of : (m x y : ℕ) → m ≤ 2000 → x ≡ entry_of (m % 200) → y ≡ 5 ^ (m / 200) → Product (x * y)
product_of m x y M X Y =
    subst (λ (a : ℕ). Product (a * y)) (sym X) (subst (λ (b : ℕ). Product (entry_of (m % 200) * b)) (sym Y) (product (m % 200) (m / 200) (mod-lt m (lit< tt)) (omega arith)))

pub shifted : (e : ℕ) → e ≤ 28 → 125 * 2 ^ e % 18446744073709551616 ≡ 125 * 2 ^ e
shifted e h = shl_exact {a = 125} 7 e 64 (lit< tt) (omega arith)

module _ (m x y e q : ℕ) (M : m ≤ 2000) (X : x ≡ entry_of (m % 200)) (Y : y ≡ 5 ^ (m / 200)) (E : (e ≤ 28) × (8388608 * 2 ^ e ≤ x * y / 125) × (x * y / 125 < 16777216 * 2 ^ e)) (Q : q ≡ closest (x * y) (125 * 2 ^ e % 18446744073709551616)) where
  lo : 8388608 * (125 * 2 ^ e) ≤ x * y
  lo = omega (arith, E.1)

  hi : x * y < 16777216 * (125 * 2 ^ e)
  hi = omega (arith, E.2)

  is : q ≡ closest (x * y) (125 * 2 ^ e)
  is = Q ∙ ap (closest (x * y)) (shifted e E.0)

  pub q_small : q ≤ 16777216
  q_small = le_trans (le_of_eq (is ∙ sym (kept_is (x * y) (m / 200) e lo hi))) (kept_le 24 (x * y * 2 ^ (m / 200) * 2 ^ 149) scale)

  pub made : of_bits binary32 ((e + m / 200 + 105) * 8388608 + q) ≡ amplitude_of m
  unfolding amplitude_of
  made =
      ap (λ (z : ℕ). of_bits binary32 ((e + m / 200 + 105) * 8388608 + z)) is
      ∙ ap (λ (a : ℕ). of_bits binary32 ((e + m / 200 + 105) * 8388608 + closest a (125 * 2 ^ e))) same
      ∙ sym (rounded (entry_of (m % 200)) (m / 200) e (subst (λ (a : ℕ). 8388608 * (125 * 2 ^ e) ≤ a) same lo) (subst (λ (a : ℕ). a < 16777216 * (125 * 2 ^ e)) same hi) (omega (arith, E.0)))
    where
      same : x * y ≡ entry_of (m % 200) * 5 ^ (m / 200)
      same = ap (λ (a : ℕ). a * y) X ∙ ap (λ (b : ℕ). entry_of (m % 200) * b) Y

pub no_nan : (n : ℕ) → n ≤ 2139095040 → T (not (nan_bits binary32 n))
no_nan n h = subst (λ (b : Bool). T (not b)) (sym (nan_bits_above binary32 n)) (le→nltb 2139095040 (n % 2147483648) (omega arith))
