-- A number that a format holds is written in one way: two floats of one format with the same sign and size are the same.
use Prim.Native.Nat.{ℕ, zero, suc, ◌+◌, ◌*◌, ◌%◌, ◌^◌, ◌≤◌, ◌<◌}
use native.Mathlib.Nat.{mul-one, one-mul, zero-mul, mul_assoc, mul_left_comm, mul_right_comm, mul-pos, pow-succ', pow-suc, zero-lt-suc, lt_irrefl, eq_of_mul-eq-mul_right, lt_of_mul-lt-mul_right, mul-lt-mul_of_pos_right}
use native.Mathlib.Omega.{arith}
use mathlib.Core.Path.{◌≡◌, refl, sym, ap, ◌∙◌, subst}
use mathlib.Core.Bool.{Bool, ◌&&◌}
use lib.IntN.{ℤ, pos, negsuc}
use lib.Dec.{T, eqb, leb, ltb, eqb→eq, leb→le, ltb→lt}
use lib.Pow.{pow-add, pow_pos}
use lib.Ieee.{Float, nan, inf, fin, Format, binary64, prec, emax, low, up, down, fits}
use lib.Ieee.Exact.{HasValue}
use lib.Ieee.Fits.{up_pos, down_pos, and_l, and_r}
use Rattle.float_rounding.proofs.Units.{first_zero}
use Rattle.float_rounding.proofs.Val.{Val}

-- ---- what a float that fits says of its parts
module _ (f : Format) (s : Bool) (m : ℕ) (e : ℤ) (t : T (fits f (fin s (suc m) e))) where
  abbrev a : Bool
  a = eqb (suc m % 2) 1

  abbrev b : Bool
  b = ltb (suc m) (2 ^ prec f)

  abbrev c : Bool
  c = leb (down e) (2 ^ low f)

  abbrev d : Bool
  d = ltb (suc m * up e) (2 ^ suc (emax f) * down e)

  is_odd : suc m % 2 ≡ 1
  unfolding fits
  is_odd = eqb→eq (suc m % 2) 1 (and_l a b (and_l (a && b) c (and_l (a && b && c) d t)))

  pub is_short : suc m < 2 ^ prec f
  unfolding fits
  is_short = ltb→lt (suc m) (2 ^ prec f) (and_r a b (and_l (a && b) c (and_l (a && b && c) d t)))

  pub is_coarse : down e ≤ 2 ^ low f
  unfolding fits
  is_coarse = leb→le (down e) (2 ^ low f) (and_r (a && b) c (and_l (a && b && c) d t))

  pub is_under : suc m * up e < 2 ^ suc (emax f) * down e
  unfolding fits
  is_under = ltb→lt (suc m * up e) (2 ^ suc (emax f) * down e) (and_r (a && b && c) d t)

two_up : (p : ℕ) → 0 < p → 2 * p ≡ 1 → ⊥
two_up p h e = omega arith

flat : (e : ℤ) → up e * down e ≡ 1 → e ≡ pos 0
flat (pos zero) h = refl
flat (pos (suc k)) h = absurd (two_up (2 ^ k) (pow_pos k) (sym (pow-succ' 2 k) ∙ sym (mul-one (2 ^ suc k)) ∙ h))
flat (negsuc k) h = absurd (two_up (2 ^ k) (pow_pos k) (sym (pow-succ' 2 k) ∙ sym (one-mul (2 ^ suc k)) ∙ h))

pub zero_exponent : (f : Format) (s : Bool) (e : ℤ) → T (fits f (fin s zero e)) → e ≡ pos 0
unfolding fits
zero_exponent f s e t = flat e (eqb→eq (up e * down e) 1 t)

-- ---- a number is written in one way
even_odd : (m t : ℕ) → m % 2 ≡ 1 → m ≡ 2 * t → ⊥
even_odd m t o h = omega arith

odd_pow : (m n a b : ℕ) → m % 2 ≡ 1 → n % 2 ≡ 1 → m * 2 ^ a ≡ n * 2 ^ b → (m ≡ n) × (a ≡ b)
odd_pow m n zero zero o p h = (sym (mul-one m) ∙ h ∙ mul-one n, refl)
odd_pow m n zero (suc b) o p h = absurd (even_odd m (n * 2 ^ b) o (sym (mul-one m) ∙ h ∙ ap (λ (x : ℕ). n * x) (pow-succ' 2 b) ∙ mul_left_comm n 2 (2 ^ b)))
odd_pow m n (suc a) zero o p h = absurd (even_odd n (m * 2 ^ a) p (sym (mul-one n) ∙ sym h ∙ ap (λ (x : ℕ). m * x) (pow-succ' 2 a) ∙ mul_left_comm m 2 (2 ^ a)))
odd_pow m n (suc a) (suc b) o p h =
    let r = odd_pow m n a b o p (eq_of_mul-eq-mul_right 2 (zero-lt-suc 1) (m * 2 ^ a) (n * 2 ^ b)
    (mul_assoc m (2 ^ a) 2 ∙ ap (λ (x : ℕ). m * x) (sym (pow-suc 2 a)) ∙ h ∙ ap (λ (x : ℕ). n * x) (pow-suc 2 b) ∙ sym (mul_assoc n (2 ^ b) 2))) in
    (r.0, ap suc r.1)

-- the exponents of up and down
abbrev ups : ℤ → ℕ
ups (pos k) = k
ups (negsuc k) = 0

abbrev downs : ℤ → ℕ
downs (pos k) = 0
downs (negsuc k) = suc k

up_is : (e : ℤ) → up e ≡ 2 ^ ups e
up_is (pos k) = refl
up_is (negsuc k) = refl

down_is : (e : ℤ) → down e ≡ 2 ^ downs e
down_is (pos k) = refl
down_is (negsuc k) = refl

same_exponent : (e g : ℤ) → ups e + downs g ≡ ups g + downs e → e ≡ g
same_exponent (pos a) (pos b) h = ap pos (omega arith)
same_exponent (pos a) (negsuc b) h = absurd (omega arith)
same_exponent (negsuc a) (pos b) h = absurd (omega arith)
same_exponent (negsuc a) (negsuc b) h = ap negsuc (omega arith)

crossed : (m n : ℕ) (e g : ℤ) → m * up e * down g ≡ n * up g * down e → m * 2 ^ (ups e + downs g) ≡ n * 2 ^ (ups g + downs e)
crossed m n e g h =
    ap (λ (x : ℕ). m * x) (pow-add 2 (ups e) (downs g)) ∙ sym (mul_assoc m (2 ^ ups e) (2 ^ downs g)) ∙ (λ i. m * sym (up_is e) i * sym (down_is g) i) ∙ h
    ∙ (λ i. n * up_is g i * down_is e i) ∙ mul_assoc n (2 ^ ups g) (2 ^ downs e) ∙ ap (λ (x : ℕ). n * x) (sym (pow-add 2 (ups g) (downs e)))

-- two values that fit and are the same number are the same
pub same_float : (f : Format) (s : Bool) (m : ℕ) (e : ℤ) (y : Float) → T (fits f (fin s (suc m) e)) → T (fits f y) → HasValue y s (suc m * up e) (down e) → y ≡ fin s (suc m) e
same_float f s m e nan p q v = absurd v
same_float f s m e (inf u) p q v = absurd v
same_float f s m e (fin u zero g) p q v =
    absurd (lt_irrefl 0 (subst (λ (x : ℕ). 0 < x) (sym v.1 ∙ ap (λ (x : ℕ). x * down e) (zero-mul (up g)) ∙ zero-mul (down e)) (mul-pos (mul-pos (zero-lt-suc m) (up_pos e)) (down_pos g))))
same_float f s m e (fin u (suc n) g) p q v =
    let r = odd_pow (suc n) (suc m) (ups g + downs e) (ups e + downs g) (is_odd f u n g q) (is_odd f s m e p) (crossed (suc n) (suc m) g e v.1) in
    λ i. fin (v.0 i) (r.0 i) (same_exponent g e r.1 i)

-- ---- in units
crossing : (a b n d f U : ℕ) → 0 < U → a * U ≡ n * d → b * U ≡ n * f → b * d ≡ a * f
crossing a b n d f U h p q =
    eq_of_mul-eq-mul_right U h (b * d) (a * f)
    (mul_right_comm b d U ∙ ap (λ (x : ℕ). x * d) q ∙ mul_right_comm n f d ∙ sym (ap (λ (x : ℕ). x * f) p) ∙ mul_right_comm a U f)

nothing : (n d U a : ℕ) → 0 < d → a ≡ 0 → a * U ≡ n * d → n ≡ 0
nothing n d U a h z e = first_zero n d h (sym e ∙ ap (λ (x : ℕ). x * U) z ∙ zero-mul U)

no_significand : (k : ℕ) (g : ℤ) (n : ℕ) → n ≡ 0 → k * up g * 2 ^ 1074 ≡ n * down g → k ≡ 0
no_significand k g n z e = first_zero k (up g) (up_pos g) (first_zero (k * up g) (2 ^ 1074) (pow_pos 1074) (e ∙ ap (λ (x : ℕ). x * down g) z ∙ zero-mul (down g)))

pub unique : (x y : Float) (s : Bool) (n : ℕ) → T (fits binary64 x) → T (fits binary64 y) → Val x s n → Val y s n → x ≡ y
unique nan y s n F E p q = absurd p
unique (inf u) y s n F E p q = absurd p
unique (fin u m e) nan s n F E p q = absurd q
unique (fin u m e) (inf v) s n F E p q = absurd q
unique (fin u zero e) (fin v zero g) s n F E p q = λ i. fin ((p.0 ∙ sym q.0) i) zero ((zero_exponent binary64 u e F ∙ sym (zero_exponent binary64 v g E)) i)
unique (fin u zero e) (fin v (suc k) g) s n F E p q =
    absurd (lt_irrefl 0 (subst (λ (x : ℕ). 0 < x) (no_significand (suc k) g n (nothing n (down e) (2 ^ 1074) (zero * up e) (down_pos e) (zero-mul (up e)) p.1) q.1) (zero-lt-suc k)))
unique (fin u (suc m) e) (fin v k g) s n F E p q =
    sym (same_float binary64 u m e (fin v k g) F E (q.0 ∙ sym p.0, crossing (suc m * up e) (k * up g) n (down e) (down g) (2 ^ 1074) (pow_pos 1074) p.1 q.1))

-- what is below the format's end
pub under : (x : Float) (s : Bool) (n : ℕ) → T (fits binary64 x) → Val x s n → n < 2 ^ 2098
under nan s n F p = absurd p
under (inf u) s n F p = absurd p
under (fin u zero e) s n F p = subst (λ (x : ℕ). x < 2 ^ 2098) (sym (nothing n (down e) (2 ^ 1074) (zero * up e) (down_pos e) (zero-mul (up e)) p.1)) (pow_pos 2098)
under (fin u (suc m) e) s n F p =
    lt_of_mul-lt-mul_right (down e)
    (subst (λ (x : ℕ). x < 2 ^ 2098 * down e) p.1
    (subst (λ (x : ℕ). suc m * up e * 2 ^ 1074 < x) (mul_right_comm (2 ^ 1024) (down e) (2 ^ 1074) ∙ ap (λ (x : ℕ). x * down e) refl) (mul-lt-mul_of_pos_right (is_under binary64 u m e F) (pow_pos 1074))))
