-- The remainder of two finite values, in units of 2 ^ -1074: that of their units, rounded.
use mathlib.Core.Path.{◌≡◌, refl, sym, ap, ◌∙◌, subst}
use Prim.Native.Nat.{ℕ, ◌+◌, ◌-◌, ◌*◌, ◌/◌, ◌%◌, ◌^◌, ◌≤◌, ◌<◌}
use native.Mathlib.Nat.{le_of_eq, lt_of_lt_of_le, lt_of_le_of_lt, mul_comm, mul_assoc, mul_right_comm, mul-pos, div-add-mod', add-mul, mul-sub, mul-lt-mul_of_pos_right, lt_of_mul-lt-mul_right, le_of_mul-le-mul_right, mul-add-mod_self_right, mod-eq_of_lt, mod-lt}
use native.Mathlib.Omega.{arith}
use mathlib.Core.Bool.{Bool, true, false, cond}
use lib.IntN.{ℤ}
use lib.Dec.{T, eqb, eqb→eq}
use lib.Pow.{pow_pos}
use lib.Ieee.{Float, nan, inf, fin, binary64, up, down, round, rem}
use lib.Ieee.Fits.{down_pos}
use lib.Ieee.Scale.{overflow, round_same}
use Rattle.float_rounding.proofs.Units.{G, first_pos, no_less}
use Rattle.float_rounding.proofs.More.{round_value}
use Rattle.float_rounding.proofs.Val.{Val}

-- a and b over one denominator: the remainder is too
mod_scaled : (a b n k p d : ℕ) → 0 < p → 0 < d → 0 < k → a * p ≡ n * d → b * p ≡ k * d → a % b * p ≡ n % k * d
mod_scaled a b n k p d P D K e f =
    let q = a / b in
    let c = n - q * k in
    let B : 0 < b = first_pos b p (lt_of_lt_of_le (mul-pos K D) (le_of_eq (sym f))) in
    let whole : q * k * d + a % b * p ≡ n * d = ap (λ (x : ℕ). x + a % b * p) (mul_assoc q k d ∙ ap (λ (x : ℕ). q * x) (sym f) ∙ sym (mul_assoc q b p)) ∙ sym (add-mul (q * b) (a % b) p) ∙ ap (λ (x : ℕ). x * p) (div-add-mod' a b) ∙ e in
    let rest : c * d ≡ a % b * p = mul_comm c d ∙ mul-sub d n (q * k) ∙ take (d * n) (d * (q * k)) (q * k * d) (n * d) (a % b * p) (mul_comm d n) (mul_comm d (q * k)) whole in
    let small : c < k = lt_of_mul-lt-mul_right d (lt_of_le_of_lt (le_of_eq rest) (lt_of_lt_of_le (mul-lt-mul_of_pos_right (mod-lt a B) P) (le_of_eq f))) in
    let fit : q * k ≤ n = le_of_mul-le-mul_right (part (q * k * d) (a % b * p) (n * d) whole) D in
    sym rest ∙ ap (λ (x : ℕ). x * d) (sym (ap (λ (x : ℕ). x % k) (split n (q * k) fit) ∙ mul-add-mod_self_right q k c ∙ mod-eq_of_lt small))
  where
    take : (x y y' x' r : ℕ) → x ≡ x' → y ≡ y' → y' + r ≡ x' → x - y ≡ r
    take x y y' x' r e f g = omega arith

    part : (x r y : ℕ) → x + r ≡ y → x ≤ y
    part x r y e = omega arith

    split : (n m : ℕ) → m ≤ n → n ≡ m + (n - m)
    split n m h = omega arith

opened : (s : Bool) (m : ℕ) (e : ℤ) (t : Bool) (i : ℕ) (d : ℤ) → 0 < i → rem binary64 (fin s m e) (fin t i d) ≡ round binary64 s (m * up e * down d % (i * up d * down e)) (down e * down d)
unfolding rem
opened s m e t i d h = go (eqb i 0) (eqb→eq i 0)
  where
    go : (b : Bool) → (T b → i ≡ 0) → cond b nan (round binary64 s (m * up e * down d % (i * up d * down e)) (down e * down d)) ≡ round binary64 s (m * up e * down d % (i * up d * down e)) (down e * down d)
    go true z = absurd (no_less i h (z tt))
    go false z = refl

pub rem_val : (x y : Float) (s t : Bool) (n k : ℕ) → Val x s n → Val y t k → 0 < k → G (n % k) (2 ^ 1074) < overflow binary64 → Val (rem binary64 x y) s (G (n % k) (2 ^ 1074))
rem_val nan y s t n k p q K l = absurd p
rem_val (inf u) y s t n k p q K l = absurd p
rem_val (fin u m e) nan s t n k p q K l = absurd q
rem_val (fin u m e) (inf v) s t n k p q K l = absurd q
rem_val (fin u m e) (fin v i d) s t n k p q K l =
    let a = m * up e * down d in
    let b = i * up d * down e in
    let I : 0 < i = first_pos i (up d) (first_pos (i * up d) (2 ^ 1074) (lt_of_lt_of_le (mul-pos K (down_pos d)) (le_of_eq (sym q.1)))) in
    let A : a * 2 ^ 1074 ≡ n * (down e * down d) = mul_right_comm (m * up e) (down d) (2 ^ 1074) ∙ ap (λ (x : ℕ). x * down d) p.1 ∙ mul_assoc n (down e) (down d) in
    let B : b * 2 ^ 1074 ≡ k * (down e * down d) = mul_right_comm (i * up d) (down e) (2 ^ 1074) ∙ ap (λ (x : ℕ). x * down e) q.1 ∙ mul_assoc k (down d) (down e) ∙ ap (λ (x : ℕ). k * x) (mul_comm (down d) (down e)) in
    subst (λ (z : Float). Val z s (G (n % k) (2 ^ 1074)))
    (sym (opened u m e v i d I ∙ ap (λ (c : Bool). round binary64 c (a % b) (down e * down d)) p.0
    ∙ round_same binary64 s (a % b) (down e * down d) (n % k) (2 ^ 1074) (mul-pos (down_pos e) (down_pos d)) (pow_pos 1074)
    (mod_scaled a b n k (2 ^ 1074) (down e * down d) (pow_pos 1074) (mul-pos (down_pos e) (down_pos d)) K A B)))
    (round_value s (n % k) (2 ^ 1074) l)
