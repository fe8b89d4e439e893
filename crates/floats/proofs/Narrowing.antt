-- The `f32` pattern of an `f64` pattern n whose sign is clear: n rounded as a whole in the normal range (`in_range`), its digits rounded below it, and 0 further below. `narrow_is`: `narrow` is std's rounding.
use Rattle.std.proofs.Common.{◌≡◌, ℕ, zero, suc, ◌+◌, ◌-◌, ◌*◌, ◌/◌, ◌%◌, ◌^◌, ◌<◌, ◌≤◌, min, Bool, true, false, cond, not, T, eqb, leb, sym, refl, ap, ◌∙◌, subst, inl, inr, le_trans, le_of_eq, lt_of_lt_of_le, lt_of_le_of_lt, mul-le-mul_right, mod-lt, zero-lt-suc, mul_assoc, div-lt_iff_lt-mul, mul-lt-mul_of_pos_right, mul-pos, le-div_iff_mul-le, zero-add, arith, le→leb, eqb→eq, pow_pos, pow_mono, pow-add, shl_lt}
use lib.Arith.{lt→nleb, le→nltb}
use lib.Ieee.{Float, nan, inf, fin, binary32, binary64, up, down, size, odd, round, div, ne, fits, of_bits, to_bits, of_fields, is_nan}
use lib.Ieee.Digits.{size-le}
use lib.Ieee.Fits.{down_pos}
use lib.Ieee.Exact.{HasValue, odd_sign}
use lib.Ieee.Bits.{is_true, is_false, nan_bits_above, nan_bits_is, of_bits-to_bits}
use lib.Ieee.Nearest.{closest, closest_same}
use lib.Ieee.Order.{drop, kept}
use lib.Ieee.Scale.{round_same}
use Rattle.std.specs.Float.{round_to_format}
use Rattle.float_rounding.proofs.Pattern.{round_pattern, size_exact, kept_le}
use Rattle.float_rounding.proofs.Size.{le_or_lt}
use Rattle.float_rounding.proofs.Half.{closest_zero, closest_even, closest_half}
use Rattle.floats.specs.Narrow.{narrow}
use Rattle.floats.proofs.Nan.{is_nan_lem}

-- std's rounding to a format is the same
pub narrow_is : (x : Float) → round_to_format binary32 x ≡ narrow x
unfolding round_to_format narrow
narrow_is nan = refl
narrow_is (inf s) = refl
narrow_is (fin s m e) = refl

narrow_val : (x : Float) (s : Bool) (a c : ℕ) → 0 < c → HasValue x s a c → narrow x ≡ round binary32 s a c
unfolding narrow
narrow_val nan s a c C v = absurd v
narrow_val (inf t) s a c C v = absurd v
narrow_val (fin t m e) s a c C v =
    ap (λ (b : Bool). round binary32 b (m * up e) (down e)) v.0 ∙ round_same binary32 s (m * up e) (down e) a c (down_pos e) C v.1

-- ---- powers of two
most : (d : ℕ) → d < 4503599627370496 → 4503599627370496 + d < 9007199254740992
most d h = omega arith

shl2 : (q a b : ℕ) → q * 2 ^ a * 2 ^ b ≡ q * 2 ^ (a + b)
shl2 q a b = mul_assoc q (2 ^ a) (2 ^ b) ∙ ap (λ (x : ℕ). q * x) (sym (pow-add 2 a b))

shl3 : (q k a i b : ℕ) → k + a + i ≡ b → q * 2 ^ k * 2 ^ a * 2 ^ i ≡ q * 2 ^ b
shl3 q k a i b e = ap (λ (x : ℕ). x * 2 ^ i) (shl2 q k a) ∙ shl2 q (k + a) i ∙ ap (λ (x : ℕ). q * 2 ^ x) e

-- ---- q * 2 ^ k / 2 ^ 1074, rounded to binary32: the normal range
module _ (q k j : ℕ) (K : k ≡ 896 + j) (lo : 4503599627370496 ≤ q) (hi : q < 9007199254740992) where
  n : ℕ
  n = q * 2 ^ k * 2 ^ 149

  n_is : n ≡ q * 2 ^ (1045 + j)
  unfolding n
  n_is = shl2 q k 149 ∙ ap (λ (x : ℕ). q * 2 ^ x) (at k j K)
    where
      at : (k j : ℕ) → k ≡ 896 + j → k + 149 ≡ 1045 + j
      at k j e = omega arith

  size_is : size (n / 2 ^ 1074) ≡ suc (23 + j)
  size_is = size_exact (23 + j) (n / 2 ^ 1074) ((le-div_iff_mul-le (pow_pos 1074)).1 least) ((div-lt_iff_lt-mul (pow_pos 1074)).1 most)
    where
      e1 : (j : ℕ) → 23 + j + 1074 ≡ 52 + (1045 + j)
      e1 j = omega arith

      e2 : (j : ℕ) → suc (23 + j) + 1074 ≡ 53 + (1045 + j)
      e2 j = omega arith

      least : 2 ^ (23 + j) * 2 ^ 1074 ≤ n
      least = le_trans (le_of_eq (sym (pow-add 2 (23 + j) 1074) ∙ ap (λ (x : ℕ). 2 ^ x) (e1 j) ∙ pow-add 2 52 (1045 + j))) (le_trans (mul-le-mul_right (2 ^ (1045 + j)) lo) (le_of_eq (sym n_is)))

      most : n < 2 ^ suc (23 + j) * 2 ^ 1074
      most = lt_of_le_of_lt (le_of_eq n_is) (lt_of_lt_of_le (mul-lt-mul_of_pos_right hi (pow_pos (1045 + j))) (le_of_eq (sym (pow-add 2 53 (1045 + j)) ∙ ap (λ (x : ℕ). 2 ^ x) (sym (e2 j)) ∙ pow-add 2 (suc (23 + j)) 1074)))

  drop_is : drop 24 n (2 ^ 1074) ≡ j
  drop_is = ap (λ (z : ℕ). z - 24) size_is ∙ cut j
    where
      cut : (j : ℕ) → suc (23 + j) - 24 ≡ j
      cut j = omega arith

  kept_is : kept 24 n (2 ^ 1074) ≡ closest q 536870912
  kept_is =
      ap (λ (z : ℕ). closest n (2 ^ 1074 * 2 ^ z)) drop_is
      ∙ closest_same n (2 ^ 1074 * 2 ^ j) q 536870912 (mul-pos (pow_pos 1074) (pow_pos j)) (pow_pos 29)
      (ap (λ (x : ℕ). x * 2 ^ 29) n_is ∙ shl2 q (1045 + j) 29 ∙ ap (λ (x : ℕ). q * 2 ^ x) (e j) ∙ ap (λ (x : ℕ). q * x) (pow-add 2 1074 j))
    where
      e : (j : ℕ) → 1045 + j + 29 ≡ 1074 + j
      e j = omega arith

  high : min (drop 24 (q * 2 ^ k * 2 ^ 149) (2 ^ 1074) * 8388608 + kept 24 (q * 2 ^ k * 2 ^ 149) (2 ^ 1074)) 2139095040 ≡ min (j * 8388608 + closest q 536870912) 2139095040
  unfolding n
  high = ap (λ (d : ℕ). min (d * 8388608 + kept 24 n (2 ^ 1074)) 2139095040) drop_is ∙ ap (λ (x : ℕ). min (j * 8388608 + x) 2139095040) kept_is

-- ---- below the normal range nothing is dropped
module _ (q k i : ℕ) (K : k + i ≡ 925) (L : k < 896) (hi : q < 9007199254740992) where
  m : ℕ
  m = q * 2 ^ k * 2 ^ 149

  m_drop : drop 24 m (2 ^ 1074) ≡ 0
  unfolding m
  m_drop = none (size (m / 2 ^ 1074)) (size-le (m / 2 ^ 1074) 24 ((div-lt_iff_lt-mul (pow_pos 1074)).1 most))
    where
      none : (z : ℕ) → z ≤ 24 → z - 24 ≡ 0
      none z h = omega arith

      room : (k : ℕ) → k < 896 → 53 + (k + 149) ≤ 1098
      room k h = omega arith

      most : m < 2 ^ 24 * 2 ^ 1074
      most = lt_of_le_of_lt (le_of_eq (shl2 q k 149)) (lt_of_lt_of_le (shl_lt 53 (k + 149) hi) (pow_mono (room k L)))

  m_kept : kept 24 m (2 ^ 1074) ≡ closest q (2 ^ i)
  unfolding m
  m_kept =
      ap (λ (z : ℕ). closest m (2 ^ 1074 * 2 ^ z)) m_drop
      ∙ closest_same m (2 ^ 1074 * 2 ^ 0) q (2 ^ i) (pow_pos 1074) (pow_pos i) (shl3 q k 149 i 1074 (e k i K))
    where
      e : (k i : ℕ) → k + i ≡ 925 → k + 149 + i ≡ 1074
      e k i h = omega arith

  lower : min (drop 24 (q * 2 ^ k * 2 ^ 149) (2 ^ 1074) * 8388608 + kept 24 (q * 2 ^ k * 2 ^ 149) (2 ^ 1074)) 2139095040 ≡ closest q (2 ^ i)
  unfolding m
  lower = plain (drop 24 m (2 ^ 1074)) (kept 24 m (2 ^ 1074)) m_drop (kept_le 24 m (2 ^ 1074)) ∙ m_kept
    where
      plain : (d x : ℕ) → d ≡ 0 → x ≤ 16777216 → min (d * 8388608 + x) 2139095040 ≡ x
      plain d x e h = omega arith

-- ---- the pattern, by the two fields
from : (d q k p : ℕ) → min (drop 24 (q * 2 ^ k * 2 ^ 149) (2 ^ 1074) * 8388608 + kept 24 (q * 2 ^ k * 2 ^ 149) (2 ^ 1074)) 2139095040 ≡ p → narrow (odd d false q k 1074) ≡ of_bits binary32 p
from d q k p e = narrow_val (odd d false q k 1074) false (q * 2 ^ k) (2 ^ 1074) (pow_pos 1074) (odd_sign d false q k 1074) ∙ round_pattern false (q * 2 ^ k) (2 ^ 1074) ∙ ap (of_bits binary32) (zero-add (min (drop 24 (q * 2 ^ k * 2 ^ 149) (2 ^ 1074) * 8388608 + kept 24 (q * 2 ^ k * 2 ^ 149) (2 ^ 1074)) 2139095040) ∙ e)

half : (q i : ℕ) → q < 9007199254740992 → 55 ≤ i → q * 2 < 2 ^ i
half q i h l = lt_of_lt_of_le (twice q h) (pow_mono l)
  where
    twice : (q : ℕ) → q < 9007199254740992 → q * 2 < 2 ^ 55
    twice q h = omega arith

-- the `f32` pattern of an `f64` whose sign is clear, by the exponent's field and the digits
unfoldable magnitude : ℕ → ℕ → ℕ
magnitude field digits =
    cond (leb 897 field) (min ((field - 897) * 8388608 + closest (4503599627370496 + digits) 536870912) 2139095040)
    (cond (leb 872 field) (closest (4503599627370496 + digits) (2 ^ (926 - field))) 0)

-- `magnitude` in its three ranges
mag_high : (f d : ℕ) → 897 ≤ f → magnitude f d ≡ min ((f - 897) * 8388608 + closest (4503599627370496 + d) 536870912) 2139095040
unfolding magnitude
mag_high f d h = ap (λ (t : Bool). cond t (min ((f - 897) * 8388608 + closest (4503599627370496 + d) 536870912) 2139095040) (cond (leb 872 f) (closest (4503599627370496 + d) (2 ^ (926 - f))) 0)) (is_true (leb 897 f) (le→leb 897 f h))

mag_mid : (f d : ℕ) → f < 897 → 872 ≤ f → magnitude f d ≡ closest (4503599627370496 + d) (2 ^ (926 - f))
unfolding magnitude
mag_mid f d h g =
    ap (λ (t : Bool). cond t (min ((f - 897) * 8388608 + closest (4503599627370496 + d) 536870912) 2139095040) (cond (leb 872 f) (closest (4503599627370496 + d) (2 ^ (926 - f))) 0)) (is_false (leb 897 f) (lt→nleb 897 f h))
    ∙ ap (λ (t : Bool). cond t (closest (4503599627370496 + d) (2 ^ (926 - f))) 0) (is_true (leb 872 f) (le→leb 872 f g))

mag_low : (f d : ℕ) → f < 872 → magnitude f d ≡ 0
unfolding magnitude
mag_low f d h =
    ap (λ (t : Bool). cond t (min ((f - 897) * 8388608 + closest (4503599627370496 + d) 536870912) 2139095040) (cond (leb 872 f) (closest (4503599627370496 + d) (2 ^ (926 - f))) 0)) (is_false (leb 897 f) (lt→nleb 897 f (up2 f h)))
    ∙ ap (λ (t : Bool). cond t (closest (4503599627370496 + d) (2 ^ (926 - f))) 0) (is_false (leb 872 f) (lt→nleb 872 f h))
  where
    up2 : (f : ℕ) → f < 872 → f < 897
    up2 f h = omega arith

normal : (k d : ℕ) → d < 4503599627370496 → narrow (odd 53 false (4503599627370496 + d) k 1074) ≡ of_bits binary32 (magnitude (suc k) d)
normal k d D =
    elim (le_or_lt 896 k) [
      | inl h ↦ from 53 q k (magnitude (suc k) d) (high q k (suc k - 897) (is k h) (least d) (most d D) ∙ sym (mag_high (suc k) d (up0 k h)))
      | inr l ↦ elim (le_or_lt 871 k) [
        | inl g ↦ from 53 q k (magnitude (suc k) d) (lower q k (926 - suc k) (is2 k l) l (most d D) ∙ sym (mag_mid (suc k) d (up3 k l) (up2 k g)))
        | inr g ↦ from 53 q k (magnitude (suc k) d) (lower q k (926 - suc k) (is2 k l) l (most d D) ∙ closest_zero q (2 ^ (926 - suc k)) (pow_pos (926 - suc k)) (half q (926 - suc k) (most d D) (far k g)) ∙ sym (mag_low (suc k) d (up1 k g)))
      ]
    ]
  where
    q : ℕ
    q = 4503599627370496 + d

    is : (k : ℕ) → 896 ≤ k → k ≡ 896 + (suc k - 897)
    is k h = omega arith

    is2 : (k : ℕ) → k < 896 → k + (926 - suc k) ≡ 925
    is2 k h = omega arith

    far : (k : ℕ) → k < 871 → 55 ≤ 926 - suc k
    far k h = omega arith

    up0 : (k : ℕ) → 896 ≤ k → 897 ≤ suc k
    up0 k h = omega arith

    up1 : (k : ℕ) → k < 871 → suc k < 872
    up1 k h = omega arith

    up2 : (k : ℕ) → 871 ≤ k → 872 ≤ suc k
    up2 k h = omega arith

    up3 : (k : ℕ) → k < 896 → suc k < 897
    up3 k h = omega arith

    least : (d : ℕ) → 4503599627370496 ≤ 4503599627370496 + d
    least d = omega arith

subnormal : (d : ℕ) → d < 4503599627370496 → narrow (odd 53 false d 0 1074) ≡ of_bits binary32 (magnitude 0 d)
subnormal d D =
    from 53 d 0 (magnitude 0 d) (lower d 0 925 refl (zero-lt-suc 895) (more d D) ∙ closest_zero d (2 ^ 925) (pow_pos 925) (half d 925 (more d D) (le_by 925)) ∙ sym (mag_low 0 d (zero-lt-suc 871)))
  where
    more : (d : ℕ) → d < 4503599627370496 → d < 9007199254740992
    more d h = omega arith

    le_by : (n : ℕ) → 55 ≤ 925
    le_by n = omega arith

infinite : narrow (inf false) ≡ of_bits binary32 (magnitude 2047 0)
unfolding narrow of_bits magnitude
infinite = refl

fields : (f d : ℕ) → d < 4503599627370496 → T (not (is_nan (of_fields binary64 false f d))) → narrow (of_fields binary64 false f d) ≡ of_bits binary32 (magnitude f d)
unfolding of_fields is_nan
fields zero d D N = subnormal d D
fields (suc k) d D N = go (eqb (suc k) 2047) (eqb→eq (suc k) 2047) (eqb d 0) (eqb→eq d 0) N
  where
    go : (a : Bool) → (T a → suc k ≡ 2047) → (b : Bool) → (T b → d ≡ 0) → T (not (is_nan (cond a (cond b (inf false) nan) (odd 53 false (4503599627370496 + d) k 1074))))
        → narrow (cond a (cond b (inf false) nan) (odd 53 false (4503599627370496 + d) k 1074)) ≡ of_bits binary32 (magnitude (suc k) d)
    go true e true z N = infinite ∙ ap (λ (x : ℕ). of_bits binary32 (magnitude x 0)) (sym (e tt)) ∙ ap (λ (x : ℕ). of_bits binary32 (magnitude (suc k) x)) (sym (z tt))
    go true e false z N = absurd N
    go false e b z N = normal k d D

no_nan_64 : (n : ℕ) → n ≤ 9218868437227405312 → T (not (is_nan (of_bits binary64 n)))
no_nan_64 n h = subst (λ (b : Bool). T (not b)) (sym (nan_bits_above binary64 n) ∙ nan_bits_is binary64 n) (le→nltb 9218868437227405312 (n % 9223372036854775808) (less n h))
  where
    less : (n : ℕ) → n ≤ 9218868437227405312 → n % 9223372036854775808 ≤ 9218868437227405312
    less n h = omega arith

clear : (n : ℕ) → n ≤ 9218868437227405312 → of_bits binary64 n ≡ of_fields binary64 false (n / 4503599627370496) (n % 4503599627370496)
unfolding of_bits
clear n h =
    ap (λ (b : Bool). of_fields binary64 b (n % 9223372036854775808 / 4503599627370496) (n % 4503599627370496)) (is_false (leb 9223372036854775808 n) (lt→nleb 9223372036854775808 n (less n h)))
    ∙ ap (λ (x : ℕ). of_fields binary64 false (x / 4503599627370496) (n % 4503599627370496)) (all n h)
  where
    less : (n : ℕ) → n ≤ 9218868437227405312 → n < 9223372036854775808
    less n h = omega arith

    all : (n : ℕ) → n ≤ 9218868437227405312 → n % 9223372036854775808 ≡ n
    all n h = omega arith

narrow_bits : (n : ℕ) → n ≤ 9218868437227405312 → narrow (of_bits binary64 n) ≡ of_bits binary32 (magnitude (n / 4503599627370496) (n % 4503599627370496))
narrow_bits n h =
    ap narrow (clear n h)
    ∙ fields (n / 4503599627370496) (n % 4503599627370496) (mod-lt n (pow_pos 52)) (subst (λ (x : Float). T (not (is_nan x))) (clear n h) (no_nan_64 n h))

-- The pattern as a whole: 897 is the field of the least normal `f32`, whose own field is 1, and 896 * 2 ^ 23 is 7516192768.
whole_pattern : (n : ℕ) → 4039728865751334912 ≤ n → magnitude (n / 4503599627370496) (n % 4503599627370496) ≡ min (closest n 536870912 - 7516192768) 2139095040
whole_pattern n h =
    let d = n % 4503599627370496 in
    let e = (n / 4503599627370496 - 1) * 4194304 in
    mag_high (n / 4503599627370496) d (omega arith)
    ∙ ap (λ (x : ℕ). min x 2139095040) (joined (n / 4503599627370496) (closest n 536870912) (closest (4503599627370496 + d) 536870912) (field n h) (ap (λ (x : ℕ). closest x 536870912) (parts n h) ∙ closest_even e (4503599627370496 + d) 536870912 (pow_pos 29)))
  where
    field : (n : ℕ) → 4039728865751334912 ≤ n → 897 ≤ n / 4503599627370496
    field n h = omega arith

    parts : (n : ℕ) → 4039728865751334912 ≤ n → n ≡ 2 * ((n / 4503599627370496 - 1) * 4194304) * 536870912 + (4503599627370496 + n % 4503599627370496)
    parts n h = omega arith

    joined : (f x y : ℕ) → 897 ≤ f → x ≡ 2 * ((f - 1) * 4194304) + y → (f - 897) * 8388608 + y ≡ x - 7516192768
    joined f x y h e = omega arith

-- ---- what the code asks
-- in the normal range, and at an infinity's pattern, m being n rounded as a whole
pub in_range : (n r : ℕ) → n ≤ 9218868437227405312 → 4039728865751334912 ≤ n → r ≡ min ((n + 268435455 + n / 536870912 % 2) / 536870912 - 7516192768) 2139095040 → of_bits binary32 r ≡ narrow (of_bits binary64 n)
in_range n r h l e =
    ap (of_bits binary32) (e ∙ ap (λ (x : ℕ). min (x - 7516192768) 2139095040) (closest_half n 268435456 (pow_pos 28)) ∙ sym (whole_pattern n l)) ∙ sym (narrow_bits n h)

-- a NaN stays one, and a value's pattern is that of the value
pub nan_narrowed : (x : Float) → ne x x ≡ true → div binary32 (of_bits binary32 0) (of_bits binary32 0) ≡ narrow x
unfolding div of_bits narrow
nan_narrowed x e = sym (ap narrow (is_nan_lem x e))

pub by_bits : (x r : Float) → fits binary64 x ≡ true → r ≡ narrow (of_bits binary64 (to_bits binary64 x)) → r ≡ narrow x
by_bits x r F e = e ∙ ap narrow (of_bits-to_bits binary64 x (subst T (sym F) tt))
