-- `ceil-signed`: the ceiling as an `i64` is `as i64` of the ceiling as a float; and `ceil-value`, `floor-value`: that float is the whole number exactly.
use Rattle.std.proofs.Common.{◌≡◌, ℕ, zero, suc, ◌+◌, ◌-◌, ◌*◌, ◌/◌, ◌%◌, ◌^◌, ◌<◌, ◌≤◌, min, Bool, true, false, ◌&&◌, T, eqb, ltb, leb, ℤ, pos, negsuc, neg_ℤ, sym, refl, ap, ◌∙◌, subst, true≢false, zero-le, le_trans, le_of_eq, lt_of_lt_of_le, le_of_suc-le-suc, lt_of_le_of_lt, add-zero, le_of_lt, zero-lt-suc, mul_assoc, suc-mul, div-lt_iff_lt-mul, mul-lt-mul_of_pos_right, zero-mul, mul-one, div-le_self, div-one, mul-div_cancel, arith, ltb→lt, pow_pos, pow-add}
use native.Mathlib.Nat.{zero-div}
use mathlib.Core.Bool.{false≢true}
use lib.Ieee.{Float, nan, inf, fin, binary64, up, down, round, to_signed, fits}
use lib.Ieee.Fits.{down_pos, and_l, and_r}
use lib.Ieee.Exact.{HasValue, round_exact}
use lib.Ieee.Back.{round_whole}
use Rattle.std.specs.Float as Std
use Rattle.floats.specs.Ceil.{ceil, ceil_signed, upward}

to_signed_pos : (h : ℕ) (x : Float) (c : ℕ) → HasValue x false c 1 → to_signed h x ≡ pos (min c (2 ^ h - 1))
unfolding to_signed
to_signed_pos h nan c v = absurd v
to_signed_pos h (inf s) c v = absurd v
to_signed_pos h (fin true m e) c v = absurd (true≢false v.0)
to_signed_pos h (fin false m e) c v = ap (λ (q : ℕ). pos (min q (2 ^ h - 1))) (ap (λ (x : ℕ). x / down e) (sym (mul-one (m * up e)) ∙ v.1) ∙ mul-div_cancel c (down_pos e))

to_signed_neg : (h : ℕ) (x : Float) (c : ℕ) → HasValue x true c 1 → to_signed h x ≡ neg_ℤ (pos (min c (2 ^ h)))
unfolding to_signed
to_signed_neg h nan c v = absurd v
to_signed_neg h (inf s) c v = absurd v
to_signed_neg h (fin false m e) c v = absurd (false≢true v.0)
to_signed_neg h (fin true m e) c v = ap (λ (q : ℕ). neg_ℤ (pos (min q (2 ^ h)))) (ap (λ (x : ℕ). x / down e) (sym (mul-one (m * up e)) ∙ v.1) ∙ mul-div_cancel c (down_pos e))

-- a whole value that the format holds
big : (s : Bool) (m k : ℕ) → m < 2 ^ 53 → m * 2 ^ k < 2 ^ 1024 * 1 → HasValue (round binary64 s (m * 2 ^ k) 1) s (m * 2 ^ k) 1
big s m k M L = round_exact binary64 s (m * 2 ^ k) 1 m (k + 1074) (zero-lt-suc 0) M
    (lt_of_le_of_lt (le_of_eq (sym same)) (lt_of_lt_of_le (mul-lt-mul_of_pos_right L (pow_pos 1074)) (le_of_eq refl)))
    (same ∙ sym (mul-one (m * 2 ^ (k + 1074))))
  where
    same : m * 2 ^ k * 2 ^ 1074 ≡ m * 2 ^ (k + 1074)
    same = mul_assoc m (2 ^ k) (2 ^ 1074) ∙ ap (λ (x : ℕ). m * x) (sym (pow-add 2 k 1074))

small_up : (m d : ℕ) → 0 < d → m < 2 ^ 53 → upward (m * 1) d ≤ 2 ^ 53
small_up m d D M = le_of_suc-le-suc ((div-lt_iff_lt-mul D).1 (lt_of_lt_of_le (step m d M D) (le_of_eq (sym (suc-mul (2 ^ 53) d)))))
  where
    step : (m d : ℕ) → m < 2 ^ 53 → 0 < d → m * 1 + (d - 1) < 2 ^ 53 * d + d
    step m d M D = omega arith

held : (f : Bool) (m : ℕ) (e : ℤ) → T (fits binary64 (fin f (suc m) e)) → (suc m < 2 ^ 53) × (suc m * up e < 2 ^ 1024 * down e)
unfolding fits
held f m e F =
    let a = eqb (suc m % 2) 1 in
    let b = ltb (suc m) (2 ^ 53) in
    let c = leb (down e) (2 ^ 1074) in
    let d = ltb (suc m * up e) (2 ^ 1024 * down e) in
    (ltb→lt (suc m) (2 ^ 53) (and_r a b (and_l (a && b) c (and_l (a && b && c) d F))), ltb→lt (suc m * up e) (2 ^ 1024 * down e) (and_r (a && b && c) d F))

ceil_value : (m : ℕ) (e : ℤ) → T (fits binary64 (fin false m e)) → HasValue (round binary64 false (upward (m * up e) (down e)) 1) false (upward (m * up e) (down e)) 1
ceil_value zero e F = subst (λ (x : ℕ). HasValue (round binary64 false x 1) false x 1) (sym (nothing (down e) (down_pos e) ∙ refl)) (round_whole binary64 false 0 zero-le)
  where
    less : (d : ℕ) → 0 < d → 0 + (d - 1) < 1 * d
    less d h = omega arith

    nothing : (d : ℕ) → 0 < d → upward (zero * up e) d ≡ 0
    nothing d D = ap (λ (x : ℕ). upward x d) (zero-mul (up e)) ∙ low (upward 0 d) ((div-lt_iff_lt-mul D).1 (less d D))
      where
        low : (x : ℕ) → x < 1 → x ≡ 0
        low x h = omega arith
ceil_value (suc m) (pos k) F = subst (λ (x : ℕ). HasValue (round binary64 false x 1) false x 1) (sym (whole (suc m * 2 ^ k))) (big false (suc m) k (held false m (pos k) F).0 (held false m (pos k) F).1)
  where
    whole : (a : ℕ) → upward a 1 ≡ a
    whole a = div-one (a + 0) ∙ add-zero a
ceil_value (suc m) (negsuc k) F = round_whole binary64 false (upward (suc m * 1) (2 ^ suc k)) (small_up (suc m) (2 ^ suc k) (pow_pos (suc k)) (held false m (negsuc k) F).0)

floor_value : (m : ℕ) (e : ℤ) → T (fits binary64 (fin true m e)) → HasValue (round binary64 true (m * up e / down e) 1) true (m * up e / down e) 1
floor_value zero e F = subst (λ (x : ℕ). HasValue (round binary64 true x 1) true x 1) (sym (ap (λ (x : ℕ). x / down e) (zero-mul (up e)) ∙ zero-div (down e))) (round_whole binary64 true 0 zero-le)
floor_value (suc m) (pos k) F = subst (λ (x : ℕ). HasValue (round binary64 true x 1) true x 1) (sym (div-one (suc m * 2 ^ k))) (big true (suc m) k (held true m (pos k) F).0 (held true m (pos k) F).1)
floor_value (suc m) (negsuc k) F = round_whole binary64 true (suc m * 1 / 2 ^ suc k) (le_trans (div-le_self (suc m * 1) (2 ^ suc k)) (le_trans (le_of_eq (mul-one (suc m))) (le_of_lt (held true m (negsuc k) F).0)))

pub ceil_signed_lem : (x : Float) → T (fits binary64 x) → to_signed 63 (ceil x) ≡ ceil_signed 63 x
unfolding ceil ceil_signed
ceil_signed_lem nan F = unfold to_signed in refl
ceil_signed_lem (inf s) F = unfold to_signed in refl
ceil_signed_lem (fin false m e) F = to_signed_pos 63 (round binary64 false (upward (m * up e) (down e)) 1) (upward (m * up e) (down e)) (ceil_value m e F)
ceil_signed_lem (fin true m e) F = to_signed_neg 63 (round binary64 true (m * up e / down e) 1) (m * up e / down e) (floor_value m e F)

-- std's `ceil` is the same, though it rounds up by another expression
ceil_is : (x : Float) → Std.ceil binary64 x ≡ ceil x
unfolding Std.round_with ceil
ceil_is nan = refl
ceil_is (inf s) = refl
ceil_is (fin false m e) = ap (λ (n : ℕ). round binary64 false (n / down e) 1) (up_same (m * up e) (down e) (down_pos e))
  where
    up_same : (a d : ℕ) → 0 < d → a + d - 1 ≡ a + (d - 1)
    up_same a d h = omega arith
ceil_is (fin true m e) = refl

pub std_ceil_signed : (x r : Float) (n : ℤ) → fits binary64 x ≡ true → r ≡ Std.ceil binary64 x → n ≡ to_signed 63 r → n ≡ ceil_signed 63 x
std_ceil_signed x r n F e p = p ∙ ap (to_signed 63) (e ∙ ceil_is x) ∙ ceil_signed_lem x (subst T (sym F) tt)
