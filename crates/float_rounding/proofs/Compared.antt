-- Comparisons of finite values in units of 2 ^ -1074, and what a test that passed or failed says of them.
use mathlib.Core.Path.{◌≡◌, refl, sym, ap, ◌∙◌, subst}
use Prim.Native.Nat.{ℕ, ◌+◌, ◌*◌, ◌^◌, ◌<◌}
use native.Mathlib.Nat.{le_of_eq, lt_of_lt_of_le, lt_of_le_of_lt, zero-mul, mul_assoc, mul_right_comm, mul-lt-mul_of_pos_right, lt_of_mul-lt-mul_right, mul-pos, add-mul, eq_of_mul-eq-mul_right, lt_irrefl}
use mathlib.Core.Bool.{Bool, true, false, ◌&&◌, ◌||◌, beq}
use lib.IntN.{ℤ}
use lib.Dec.{T, ltb, eqb, ltb→lt, lt→ltb, eqb→eq}
use lib.Pow.{pow_pos}
use lib.Ieee.{Float, nan, inf, fin, up, down, below, level, lt, eq, le}
use lib.Ieee.Fits.{down_pos, eq→eqb}
use Rattle.float_rounding.proofs.Units.{one_value}
use Rattle.float_rounding.proofs.Val.{Val}

-- ---- two tests that pass together are one
pub same_test : (a b : Bool) → (T a → T b) → (T b → T a) → a ≡ b
same_test true true f g = refl
same_test true false f g = absurd (f tt)
same_test false true f g = absurd (g tt)
same_test false false f g = refl

ltb_scaled : (a b n k p d : ℕ) → 0 < p → 0 < d → a * p ≡ n * d → b * p ≡ k * d → ltb a b ≡ ltb n k
ltb_scaled a b n k p d P D e f =
    same_test (ltb a b) (ltb n k)
    (λ t. lt→ltb n k (lt_of_mul-lt-mul_right d (lt_of_le_of_lt (le_of_eq (sym e)) (lt_of_lt_of_le (mul-lt-mul_of_pos_right (ltb→lt a b t) P) (le_of_eq f)))))
    (λ t. lt→ltb a b (lt_of_mul-lt-mul_right p (lt_of_le_of_lt (le_of_eq e) (lt_of_lt_of_le (mul-lt-mul_of_pos_right (ltb→lt n k t) D) (le_of_eq (sym f))))))

eqb_scaled : (a b n k p d : ℕ) → 0 < p → 0 < d → a * p ≡ n * d → b * p ≡ k * d → eqb a b ≡ eqb n k
eqb_scaled a b n k p d P D e f =
    same_test (eqb a b) (eqb n k)
    (λ t. eq→eqb {a = n} {b = k} (eq_of_mul-eq-mul_right d D n k (sym e ∙ ap (λ (x : ℕ). x * p) (eqb→eq a b t) ∙ f)))
    (λ t. eq→eqb {a = a} {b = b} (eq_of_mul-eq-mul_right p P a b (e ∙ ap (λ (x : ℕ). x * d) (eqb→eq n k t) ∙ sym f)))

below_scaled : (s t : Bool) (a b n k p d : ℕ) → 0 < p → 0 < d → a * p ≡ n * d → b * p ≡ k * d → below s a t b ≡ below s n t k
below_scaled false false a b n k p d P D e f = ltb_scaled a b n k p d P D e f
below_scaled false true a b n k p d P D e f = refl
below_scaled true false a b n k p d P D e f = ltb_scaled 0 (a + b) 0 (n + k) p d P D (zero-mul p ∙ sym (zero-mul d)) (add-mul a b p ∙ ap (λ (x : ℕ). x + b * p) e ∙ ap (λ (x : ℕ). n * d + x) f ∙ sym (add-mul n k d))
below_scaled true true a b n k p d P D e f = ltb_scaled b a k n p d P D f e

level_scaled : (s t : Bool) (a b n k p d : ℕ) → 0 < p → 0 < d → a * p ≡ n * d → b * p ≡ k * d → level s a t b ≡ level s n t k
level_scaled s t a b n k p d P D e f =
    ap (λ (x : Bool). x && (beq s t || eqb a 0)) (eqb_scaled a b n k p d P D e f)
    ∙ ap (λ (x : Bool). eqb n k && (beq s t || x)) (eqb_scaled a 0 n 0 p d P D e (zero-mul p ∙ sym (zero-mul d)))

-- both sizes over one denominator
left : (m : ℕ) (e d : ℤ) (n : ℕ) → m * up e * 2 ^ 1074 ≡ n * down e → m * up e * down d * 2 ^ 1074 ≡ n * (down e * down d)
left m e d n p = mul_right_comm (m * up e) (down d) (2 ^ 1074) ∙ ap (λ (x : ℕ). x * down d) p ∙ mul_assoc n (down e) (down d)

-- ---- a comparison of x and y is that of their units
pub lt_val : (x y : Float) (s t : Bool) (n k : ℕ) → Val x s n → Val y t k → lt x y ≡ below s n t k
unfolding lt
lt_val nan y s t n k p q = absurd p
lt_val (inf u) y s t n k p q = absurd p
lt_val (fin u m e) nan s t n k p q = absurd q
lt_val (fin u m e) (inf v) s t n k p q = absurd q
lt_val (fin u m e) (fin v i d) s t n k p q =
    ap (λ (b : Bool). below b (m * up e * down d) v (i * up d * down e)) p.0
    ∙ ap (λ (b : Bool). below s (m * up e * down d) b (i * up d * down e)) q.0
    ∙ below_scaled s t (m * up e * down d) (i * up d * down e) n k (2 ^ 1074) (down e * down d) (pow_pos 1074) (mul-pos (down_pos e) (down_pos d)) (left m e d n p.1) (one_value i d k e q.1)

eq_val : (x y : Float) (s t : Bool) (n k : ℕ) → Val x s n → Val y t k → eq x y ≡ level s n t k
unfolding eq
eq_val nan y s t n k p q = absurd p
eq_val (inf u) y s t n k p q = absurd p
eq_val (fin u m e) nan s t n k p q = absurd q
eq_val (fin u m e) (inf v) s t n k p q = absurd q
eq_val (fin u m e) (fin v i d) s t n k p q =
    ap (λ (b : Bool). level b (m * up e * down d) v (i * up d * down e)) p.0
    ∙ ap (λ (b : Bool). level s (m * up e * down d) b (i * up d * down e)) q.0
    ∙ level_scaled s t (m * up e * down d) (i * up d * down e) n k (2 ^ 1074) (down e * down d) (pow_pos 1074) (mul-pos (down_pos e) (down_pos d)) (left m e d n p.1) (one_value i d k e q.1)

pub le_val : (x y : Float) (s t : Bool) (n k : ℕ) → Val x s n → Val y t k → le x y ≡ (below s n t k || level s n t k)
unfolding le
le_val x y s t n k p q = ap (λ (b : Bool). b || eq x y) (lt_val x y s t n k p q) ∙ ap (λ (b : Bool). below s n t k || b) (eq_val x y s t n k p q)

-- ---- what the tests say of two sizes
-- one that is above 0 is no less than a negative one, nor than -0
pub no_level : (n k : ℕ) → 0 < n → T (below false n true k || level false n true k) → ⊥
no_level n k h t = go (eqb n k) (eqb n 0) (λ u. lt_irrefl 0 (subst (λ (x : ℕ). 0 < x) (eqb→eq n 0 u) h)) t
  where
    go : (x y : Bool) → (T y → ⊥) → T (false || (x && (false || y))) → ⊥
    go true true f t = f tt
    go true false f t = t
    go false y f t = t
