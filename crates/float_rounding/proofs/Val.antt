-- Signed values: `Val x s n` says that x is finite, has the sign s, and is n units of 2 ^ -1074 in size. Each operation is exact and then rounded by `G`, and comparison goes by sign and size.
use mathlib.Core.Path.{◌≡◌, refl, sym, ap, ◌∙◌, subst}
use mathlib.Core.Logic.{inl, inr}
use Prim.Native.Nat.{ℕ, zero, suc, ◌+◌, ◌-◌, ◌*◌, ◌%◌, ◌^◌, ◌≤◌, ◌<◌}
use native.Mathlib.Nat.{le_of_lt, lt_of_not-le, not-le_of_lt, eq-zero-or-pos, zero-mul, mul_comm, mul_assoc, mul_right_comm, mul-mul-mul_comm, mul-pos, lt_irrefl, eq_of_mul-eq-mul_right}
use native.Mathlib.Omega.{arith}
use mathlib.Core.Bool.{Bool, true, false, not, ◌&&◌, cond, false≢true}
use lib.IntN.{ℤ}
use lib.Dec.{T, leb, ltb, eqb, leb→le, ltb→lt, lt→ltb, eqb→eq}
use lib.Pow.{pow_pos}
use lib.Ieee.{Float, nan, inf, fin, binary64, up, down, unlike, round, neg, sum, add, mul, div, le, fits}
use lib.Ieee.Fits.{up_pos, down_pos, and_l, and_r}
use lib.Ieee.Exact.{HasValue}
use lib.Ieee.Scale.{overflow, round_same, finite}
use Rattle.float_rounding.proofs.Units.{G, Units, of_value, in_units_lem, in_units_sub, cross, cross_back, whole_units, first_zero, first_pos, no_less, same_sign, sum_less, opposite_r, opened, mul_opened}
use Rattle.float_rounding.proofs.Order.{Le, le_fin, fin_le}
use Rattle.float_rounding.proofs.More.{round_value}

abbrev pub Val : Float → Bool → ℕ → Type 0
Val x s n = HasValue x s n (2 ^ 1074)

pub val_units : (x : Float) (n : ℕ) → Val x false n → Units x n
val_units x n v = of_value x n v

-- -0 is no units
pub minus_zero_lem : (x : Float) → Val x true 0 → Units x 0
minus_zero_lem nan v = v
minus_zero_lem (inf s) v = v
minus_zero_lem (fin false m e) v = absurd (false≢true v.0)
minus_zero_lem (fin true m e) v = (first_zero m (up e) (up_pos e) (first_zero (m * up e) (2 ^ 1074) (pow_pos 1074) (v.1 ∙ zero-mul (down e))), refl)

-- ---- negation
pub neg_val : (x : Float) (s : Bool) (n : ℕ) → Val x s n → Val (neg x) (not s) n
unfolding neg
neg_val nan s n v = v
neg_val (inf t) s n v = v
neg_val (fin t m e) s n v = (ap not v.0, v.1)

-- ---- sums
opposite : (s : Bool) (a b c : ℕ) → b < a → sum binary64 s a (not s) b c ≡ round binary64 s (a - b) c
unfolding sum
opposite true a b c h = go (ltb a b) (ltb→lt a b) (ltb b a) (lt→ltb b a h)
  where
    clash : (a b : ℕ) → a < b → b < a → ⊥
    clash a b p q = omega arith

    go : (t : Bool) → (T t → a < b) → (u : Bool) → T u → cond t (round binary64 false (b - a) c) (round binary64 (true && u) (a - b) c) ≡ round binary64 true (a - b) c
    go true k u w = absurd (clash a b (k tt) h)
    go false k true w = refl
    go false k false w = absurd w
opposite false a b c h = sum_less a b c (le_of_lt h)

pub add_same : (x y : Float) (s : Bool) (n k : ℕ) → Val x s n → Val y s k → G (n + k) (2 ^ 1074) < overflow binary64 → Val (add binary64 x y) s (G (n + k) (2 ^ 1074))
add_same nan y s n k p q h = absurd p
add_same (inf t) y s n k p q h = absurd p
add_same (fin t m e) nan s n k p q h = absurd q
add_same (fin t m e) (inf r) s n k p q h = absurd q
add_same (fin t m e) (fin r l d) s n k p q h =
    subst (λ (z : Float). Val z s (G (n + k) (2 ^ 1074)))
    (sym (opened t m e r l d ∙ ap (λ (b : Bool). sum binary64 b (m * up e * down d) r (l * up d * down e) (down e * down d)) p.0 ∙ ap (λ (b : Bool). sum binary64 s (m * up e * down d) b (l * up d * down e) (down e * down d)) q.0
    ∙ same_sign s (m * up e * down d) (l * up d * down e) (down e * down d) ∙ round_same binary64 s (m * up e * down d + l * up d * down e) (down e * down d) (n + k) (2 ^ 1074) (mul-pos (down_pos e) (down_pos d)) (pow_pos 1074) (in_units_lem n k (down e) (down d) (m * up e) (l * up d) p.1 q.1)))
    (round_value s (n + k) (2 ^ 1074) h)

-- the larger one's sign
pub add_opposite : (x y : Float) (s : Bool) (n k : ℕ) → Val x s n → Val y (not s) k → k < n → G (n - k) (2 ^ 1074) < overflow binary64 → Val (add binary64 x y) s (G (n - k) (2 ^ 1074))
add_opposite nan y s n k p q h l = absurd p
add_opposite (inf t) y s n k p q h l = absurd p
add_opposite (fin t m e) nan s n k p q h l = absurd q
add_opposite (fin t m e) (inf r) s n k p q h l = absurd q
add_opposite (fin t m e) (fin r i d) s n k p q h l =
    subst (λ (z : Float). Val z s (G (n - k) (2 ^ 1074)))
    (sym (opened t m e r i d ∙ ap (λ (b : Bool). sum binary64 b (m * up e * down d) r (i * up d * down e) (down e * down d)) p.0 ∙ ap (λ (b : Bool). sum binary64 s (m * up e * down d) b (i * up d * down e) (down e * down d)) q.0
    ∙ opposite s (m * up e * down d) (i * up d * down e) (down e * down d) (lt_of_not-le (λ (g : m * up e * down d ≤ i * up d * down e). not-le_of_lt h (cross_back n k (down e) (down d) (m * up e) (i * up d) (down_pos e) (down_pos d) p.1 q.1 g)))
    ∙ round_same binary64 s (m * up e * down d - i * up d * down e) (down e * down d) (n - k) (2 ^ 1074) (mul-pos (down_pos e) (down_pos d)) (pow_pos 1074) (in_units_sub n k (down e) (down d) (m * up e) (i * up d) p.1 q.1)))
    (round_value s (n - k) (2 ^ 1074) l)

-- ---- products and quotients
pub mul_val : (x y : Float) (s t : Bool) (n k : ℕ) → Val x s n → Val y t k → G (n * k) (2 ^ 1074 * 2 ^ 1074) < overflow binary64 → Val (mul binary64 x y) (unlike s t) (G (n * k) (2 ^ 1074 * 2 ^ 1074))
mul_val nan y s t n k p q l = absurd p
mul_val (inf u) y s t n k p q l = absurd p
mul_val (fin u m e) nan s t n k p q l = absurd q
mul_val (fin u m e) (inf v) s t n k p q l = absurd q
mul_val (fin u m e) (fin v i d) s t n k p q l =
    subst (λ (z : Float). Val z (unlike s t) (G (n * k) (2 ^ 1074 * 2 ^ 1074)))
    (sym (mul_opened u m e v i d ∙ ap (λ (b : Bool). round binary64 (unlike b v) (m * up e * (i * up d)) (down e * down d)) p.0 ∙ ap (λ (b : Bool). round binary64 (unlike s b) (m * up e * (i * up d)) (down e * down d)) q.0
    ∙ round_same binary64 (unlike s t) (m * up e * (i * up d)) (down e * down d) (n * k) (2 ^ 1074 * 2 ^ 1074) (mul-pos (down_pos e) (down_pos d)) (mul-pos (pow_pos 1074) (pow_pos 1074))
    (mul-mul-mul_comm (m * up e) (i * up d) (2 ^ 1074) (2 ^ 1074) ∙ ap (λ (z : ℕ). z * (i * up d * 2 ^ 1074)) p.1 ∙ ap (λ (z : ℕ). n * down e * z) q.1 ∙ mul-mul-mul_comm n (down e) k (down d))))
    (round_value (unlike s t) (n * k) (2 ^ 1074 * 2 ^ 1074) l)

div_opened : (s : Bool) (m : ℕ) (e : ℤ) (t : Bool) (n : ℕ) (d : ℤ) → 0 < n → div binary64 (fin s m e) (fin t n d) ≡ round binary64 (unlike s t) (m * up e * down d) (n * up d * down e)
unfolding div
div_opened s m e t n d h = go (eqb n 0) (eqb→eq n 0)
  where
    go : (b : Bool) → (T b → n ≡ 0) → cond b (cond (eqb m 0) nan (inf (unlike s t))) (round binary64 (unlike s t) (m * up e * down d) (n * up d * down e)) ≡ round binary64 (unlike s t) (m * up e * down d) (n * up d * down e)
    go true z = absurd (no_less n h (z tt))
    go false z = refl

pub div_val : (x y : Float) (s t : Bool) (n k : ℕ) → Val x s n → Val y t k → 0 < k → G n k < overflow binary64 → Val (div binary64 x y) (unlike s t) (G n k)
div_val nan y s t n k p q K l = absurd p
div_val (inf u) y s t n k p q K l = absurd p
div_val (fin u m e) nan s t n k p q K l = absurd q
div_val (fin u m e) (inf v) s t n k p q K l = absurd q
div_val (fin u m e) (fin v i d) s t n k p q K l =
    let I : 0 < i = first_pos i (up d) (first_pos (i * up d) (2 ^ 1074) (subst (λ (x : ℕ). 0 < x) (sym q.1) (mul-pos K (down_pos d)))) in
    subst (λ (z : Float). Val z (unlike s t) (G n k))
    (sym (div_opened u m e v i d I ∙ ap (λ (b : Bool). round binary64 (unlike b v) (m * up e * down d) (i * up d * down e)) p.0 ∙ ap (λ (b : Bool). round binary64 (unlike s b) (m * up e * down d) (i * up d * down e)) q.0
    ∙ round_same binary64 (unlike s t) (m * up e * down d) (i * up d * down e) n k (mul-pos (mul-pos I (up_pos d)) (down_pos e)) K
    (cancel (m * up e * down d * k) (n * (i * up d * down e)) (left ∙ sym right))))
    (round_value (unlike s t) n k l)
  where
    cancel : (a b : ℕ) → a * 2 ^ 1074 ≡ b * 2 ^ 1074 → a ≡ b
    cancel a b e = eq_of_mul-eq-mul_right (2 ^ 1074) (pow_pos 1074) a b e

    left : m * up e * down d * k * 2 ^ 1074 ≡ n * down e * (k * down d)
    left = mul_right_comm (m * up e * down d) k (2 ^ 1074) ∙ ap (λ (x : ℕ). x * k) (mul_right_comm (m * up e) (down d) (2 ^ 1074) ∙ ap (λ (x : ℕ). x * down d) p.1) ∙ mul_assoc (n * down e) (down d) k ∙ ap (λ (x : ℕ). n * down e * x) (mul_comm (down d) k)

    right : n * (i * up d * down e) * 2 ^ 1074 ≡ n * down e * (k * down d)
    right = mul_assoc n (i * up d * down e) (2 ^ 1074) ∙ ap (λ (x : ℕ). n * x) (mul_right_comm (i * up d) (down e) (2 ^ 1074) ∙ ap (λ (x : ℕ). x * down e) q.1 ∙ mul_comm (k * down d) (down e)) ∙ sym (mul_assoc n (down e) (k * down d))

-- the second one is the larger
pub add_opposite_r : (x y : Float) (s : Bool) (k n : ℕ) → Val x (not s) k → Val y s n → k < n → G (n - k) (2 ^ 1074) < overflow binary64 → Val (add binary64 x y) s (G (n - k) (2 ^ 1074))
add_opposite_r nan y s k n p q h l = absurd p
add_opposite_r (inf t) y s k n p q h l = absurd p
add_opposite_r (fin t m e) nan s k n p q h l = absurd q
add_opposite_r (fin t m e) (inf r) s k n p q h l = absurd q
add_opposite_r (fin t m e) (fin r i d) s k n p q h l =
    subst (λ (z : Float). Val z s (G (n - k) (2 ^ 1074)))
    (sym (opened t m e r i d ∙ ap (λ (b : Bool). sum binary64 b (m * up e * down d) r (i * up d * down e) (down e * down d)) p.0 ∙ ap (λ (b : Bool). sum binary64 (not s) (m * up e * down d) b (i * up d * down e) (down e * down d)) q.0
    ∙ opposite_r s (m * up e * down d) (i * up d * down e) (down e * down d) (lt_of_not-le (λ (g : i * up d * down e ≤ m * up e * down d). not-le_of_lt h (cross_back n k (down d) (down e) (i * up d) (m * up e) (down_pos d) (down_pos e) q.1 p.1 g)))
    ∙ ap (round binary64 s (i * up d * down e - m * up e * down d)) (mul_comm (down e) (down d))
    ∙ round_same binary64 s (i * up d * down e - m * up e * down d) (down d * down e) (n - k) (2 ^ 1074) (mul-pos (down_pos d) (down_pos e)) (pow_pos 1074) (in_units_sub n k (down d) (down e) (i * up d) (m * up e) q.1 p.1)))
    (round_value s (n - k) (2 ^ 1074) l)

-- ---- every finite value of the format has one
pub val_of : (x : Float) → T (fits binary64 x) → T (finite x) → (s : Bool) × ((n : ℕ) × Val x s n)
unfolding fits
val_of nan F h = absurd h
val_of (inf s) F h = absurd h
val_of (fin s zero e) F h = (s, (0, (refl, ap (λ (x : ℕ). x * 2 ^ 1074) (zero-mul (up e)) ∙ sym (zero-mul (down e)))))
val_of (fin s (suc m) e) F h =
    let a = eqb (suc m % 2) 1 && ltb (suc m) (2 ^ 53) in
    let b = leb (down e) (2 ^ 1074) in
    let w = whole_units (suc m) e (leb→le (down e) (2 ^ 1074) (and_r a b (and_l (a && b) (ltb (suc m * up e) (2 ^ 1024 * down e)) F))) in
    (s, (w.0, (refl, w.1)))

-- ---- comparison, with the signs apart
gone : (a n c d f : ℕ) → 0 < c → 0 < d → a * c ≡ n * d → 0 < f → a * f ≡ 0 → n ≡ 0
gone a n c d f C D e F z = elim (eq-zero-or-pos n) [
  | inl h ↦ h
  | inr p ↦ elim (eq-zero-or-pos a) [
    | inl k ↦ absurd (lt_irrefl 0 (subst (λ (x : ℕ). 0 < x) (sym e ∙ ap (λ (x : ℕ). x * c) k ∙ zero-mul c) (mul-pos p D)))
    | inr q ↦ absurd (lt_irrefl 0 (subst (λ (x : ℕ). 0 < x) z (mul-pos q F)))
  ]
]

none : (a n c d f : ℕ) → 0 < c → a * c ≡ n * d → n ≡ 0 → a * f ≡ 0
none a n c d f C e z = elim (eq-zero-or-pos a) [
  | inl k ↦ ap (λ (x : ℕ). x * f) k ∙ zero-mul f
  | inr p ↦ absurd (lt_irrefl 0 (subst (λ (x : ℕ). 0 < x) (e ∙ ap (λ (x : ℕ). x * d) z ∙ zero-mul d) (mul-pos p C)))
]

pub le_val : (x y : Float) (s t : Bool) (n k : ℕ) → Val x s n → Val y t k → T (le x y) → Le s n t k
le_val nan y s t n k p q h = absurd p
le_val (inf u) y s t n k p q h = absurd p
le_val (fin u m e) nan s t n k p q h = absurd q
le_val (fin u m e) (inf v) s t n k p q h = absurd q
le_val (fin u m e) (fin v i d) s t n k p q h = subst (λ (b : Bool). Le b n t k) p.0 (subst (λ (b : Bool). Le u n b k) q.0 (go u v (le_fin u m e v i d h)))
  where
    go : (u v : Bool) → Le u (m * up e * down d) v (i * up d * down e) → Le u n v k
    go false false g = cross_back n k (down e) (down d) (m * up e) (i * up d) (down_pos e) (down_pos d) p.1 q.1 g
    go true false g = tt
    go false true g = (gone (m * up e) n (2 ^ 1074) (down e) (down d) (pow_pos 1074) (down_pos e) p.1 (down_pos d) g.0, gone (i * up d) k (2 ^ 1074) (down d) (down e) (pow_pos 1074) (down_pos d) q.1 (down_pos e) g.1)
    go true true g = cross_back k n (down d) (down e) (i * up d) (m * up e) (down_pos d) (down_pos e) q.1 p.1 g

pub val_le : (x y : Float) (s t : Bool) (n k : ℕ) → Val x s n → Val y t k → Le s n t k → T (le x y)
val_le nan y s t n k p q h = absurd p
val_le (inf u) y s t n k p q h = absurd p
val_le (fin u m e) nan s t n k p q h = absurd q
val_le (fin u m e) (inf v) s t n k p q h = absurd q
val_le (fin u m e) (fin v i d) s t n k p q h = fin_le u m e v i d (go u v (subst (λ (b : Bool). Le b n v k) (sym p.0) (subst (λ (b : Bool). Le s n b k) (sym q.0) h)))
  where
    go : (u v : Bool) → Le u n v k → Le u (m * up e * down d) v (i * up d * down e)
    go false false g = cross n k (down e) (down d) (m * up e) (i * up d) p.1 q.1 g
    go true false g = tt
    go false true g = (none (m * up e) n (2 ^ 1074) (down e) (down d) (pow_pos 1074) p.1 g.0, none (i * up d) k (2 ^ 1074) (down d) (down e) (pow_pos 1074) q.1 g.1)
    go true true g = cross k n (down d) (down e) (i * up d) (m * up e) q.1 p.1 g
