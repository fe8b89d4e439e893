-- More on units: differences and products with no condition on zeros, negative differences, casts, exact results, and the error of a rounding.
use mathlib.Core.Path.{◌≡◌, refl, sym, ap, ◌∙◌, subst}
use mathlib.Core.Logic.{inl, inr}
use Prim.Native.Nat.{ℕ, zero, suc, ◌+◌, ◌-◌, ◌*◌, ◌/◌, ◌%◌, ◌^◌, ◌≤◌, ◌<◌, min}
use native.Mathlib.Nat.{le_trans, le_of_eq, lt_of_not-le, not-le_of_lt, eq-zero-or-pos, mul-one, zero-mul, mul_comm, mul_assoc, mul_right_comm, le_of_mul-le-mul_right, mul-pos, add-zero, sub-zero, eq_of_mul-eq-mul_right, zero-add, mul-le-mul_left, div-lt_iff_lt-mul, mul-lt-mul_of_pos_right, add-mul}
use native.Mathlib.Omega.{arith}
use mathlib.Core.Bool.{Bool, true, false, not, ◌&&◌, true≢false}
use lib.IntN.{ℤ, pos, negsuc}
use lib.Dec.{T, ltb, leb, eqb, ltb→lt, lt→ltb, leb→le}
use lib.Pow.{pow-add, pow_pos, pow_mono}
use lib.Ieee.{Float, nan, inf, fin, binary64, up, down, unlike, size, round, neg, add, sub, mul, lt, le, fits, is_nan, of_int, to_unsigned}
use lib.Ieee.Digits.{size-le, back}
use lib.Ieee.Fits.{up_pos, down_pos, and_l, and_r, round_is}
use lib.Ieee.Exact.{HasValue, units_val}
use lib.Ieee.Back.{round_whole}
use lib.Ieee.Nearest.{closest, div_same}
use lib.Ieee.Order.{drop, kept}
use lib.Ieee.Scale.{overflow, round_same}
use Rattle.float_rounding.proofs.Half.{closest_off}
use Rattle.float_rounding.proofs.Units.{G, G-exact, Units, add_units, sub_units, mul_units, lt_units, in_units_sub, cross_back, less_opened, zero_round, G-zero, first_zero, mul_opened, opposite_r, one_value}
use Rattle.float_rounding.proofs.Pattern.{pow_le_back}
use Rattle.float_rounding.proofs.Order.{fin_le, zero_le_fin, minus_one_lt}

-- ---- tests from facts
by_test : (b : Bool) → (T (not b) → ⊥) → T b
by_test true h = tt
by_test false h = h tt

pub lt_from : (x : Float) (m : ℕ) (e : ℤ) (n k : ℕ) → Units x n → Units (fin false m e) k → n < k → T (lt x (fin false m e))
lt_from x m e n k p q h = by_test (lt x (fin false m e)) (λ t. not-le_of_lt h ((lt_units x m e n k p q).1 t))

pub nonneg : (x : Float) (n : ℕ) → Units x n → T (le (fin false 0 (pos 0)) x)
nonneg nan n p = absurd p
nonneg (inf s) n p = absurd p
nonneg (fin false m e) n p = zero_le_fin m e
nonneg (fin true m e) n p = fin_le false 0 (pos 0) true m e (zero-mul (down e), mul-one (m * up e) ∙ ap (λ (x : ℕ). x * up e) p.0 ∙ zero-mul (up e))

pub above_minus_one : (x : Float) (n : ℕ) → Units x n → T (lt (fin true 1 (pos 0)) x)
unfolding lt
above_minus_one nan n p = absurd p
above_minus_one (inf s) n p = absurd p
above_minus_one (fin false m e) n p = minus_one_lt m e
above_minus_one (fin true m e) n p = lt→ltb (m * up e * 1) (1 * 1 * down e) (more (down e) (m * up e * 1) (down_pos e) (mul-one (m * up e) ∙ ap (λ (x : ℕ). x * up e) p.0 ∙ zero-mul (up e)))
  where
    more : (d n : ℕ) → 0 < d → n ≡ 0 → n < 1 * 1 * d
    more d n h e = omega arith

pub no_nan : (x : Float) (n : ℕ) → Units x n → T (not (is_nan x))
unfolding is_nan
no_nan nan n p = absurd p
no_nan (inf s) n p = tt
no_nan (fin s m e) n p = tt

-- ---- a product, with zeros
-- no units: m is 0
no_units : (s : Bool) (m : ℕ) (e : ℤ) → Units (fin s m e) 0 → m ≡ 0
no_units true m e p = p.0
no_units false m e p = first_zero m (up e) (up_pos e) (first_zero (m * up e) (2 ^ 1074) (pow_pos 1074) (p ∙ zero-mul (down e)))

zero_times : (s : Bool) (m : ℕ) (e : ℤ) (t : Bool) (n : ℕ) (d : ℤ) → m * up e * (n * up d) ≡ 0 → Units (mul binary64 (fin s m e) (fin t n d)) 0
zero_times s m e t n d z = subst (λ (x : Float). Units x 0) (sym (mul_opened s m e t n d ∙ ap (λ (x : ℕ). round binary64 (unlike s t) x (down e * down d)) z)) (zero_round (unlike s t) (down e * down d) (mul-pos (down_pos e) (down_pos d)))

pub mul_all : (x y : Float) (n k : ℕ) → Units x n → Units y k → G (n * k) (2 ^ 1074 * 2 ^ 1074) < overflow binary64 → Units (mul binary64 x y) (G (n * k) (2 ^ 1074 * 2 ^ 1074))
mul_all nan y n k p q l = absurd p
mul_all (inf s) y n k p q l = absurd p
mul_all (fin s m e) nan n k p q l = absurd q
mul_all (fin s m e) (inf t) n k p q l = absurd q
mul_all (fin s m e) (fin t i d) n k p q l = elim (eq-zero-or-pos n) [
  | inl z ↦
      subst (λ (g : ℕ). Units (mul binary64 (fin s m e) (fin t i d)) g) (sym (ap (λ (x : ℕ). G x (2 ^ 1074 * 2 ^ 1074)) (ap (λ (x : ℕ). x * k) z ∙ zero-mul k) ∙ G-zero (2 ^ 1074 * 2 ^ 1074) (pow_pos 2148)))
      (zero_times s m e t i d (ap (λ (x : ℕ). x * up e * (i * up d)) (no_units s m e (subst (λ (x : ℕ). Units (fin s m e) x) z p)) ∙ ap (λ (x : ℕ). x * (i * up d)) (zero-mul (up e)) ∙ zero-mul (i * up d)))
  | inr N ↦ elim (eq-zero-or-pos k) [
    | inl z ↦
        subst (λ (g : ℕ). Units (mul binary64 (fin s m e) (fin t i d)) g) (sym (ap (λ (x : ℕ). G x (2 ^ 1074 * 2 ^ 1074)) (ap (λ (x : ℕ). n * x) z ∙ mul_comm n 0 ∙ zero-mul n) ∙ G-zero (2 ^ 1074 * 2 ^ 1074) (pow_pos 2148)))
        (zero_times s m e t i d (mul_comm (m * up e) (i * up d) ∙ ap (λ (x : ℕ). x * up d * (m * up e)) (no_units t i d (subst (λ (x : ℕ). Units (fin t i d) x) z q)) ∙ ap (λ (x : ℕ). x * (m * up e)) (zero-mul (up d)) ∙ zero-mul (m * up e)))
    | inr K ↦ mul_units (fin s m e) (fin t i d) n k p q N K l
  ]
]

-- ---- a difference, with zeros
pub sub_is : (x y : Float) → sub binary64 x y ≡ add binary64 x (neg y)
unfolding sub
sub_is x y = refl

neg_zero : (y : Float) → Units y 0 → Units (neg y) 0
unfolding neg
neg_zero nan q = q
neg_zero (inf s) q = q
neg_zero (fin true m e) q = ap (λ (x : ℕ). x * up e * 2 ^ 1074) q.0 ∙ ap (λ (x : ℕ). x * 2 ^ 1074) (zero-mul (up e)) ∙ sym (zero-mul (down e))
neg_zero (fin false m e) q = (no_units false m e q, refl)

pub sub_all : (x y : Float) (n k : ℕ) → Units x n → Units y k → k ≤ n → G (n - k) (2 ^ 1074) < overflow binary64 → Units (sub binary64 x y) (G (n - k) (2 ^ 1074))
sub_all x y n k p q h l = elim (eq-zero-or-pos k) [
  | inl z ↦
      let e : n + 0 ≡ n - k = add-zero n ∙ sym (sub-zero n) ∙ ap (λ (i : ℕ). n - i) (sym z) in
      subst (λ (w : Float). Units w (G (n - k) (2 ^ 1074))) (sym (sub_is x y))
      (subst (λ (i : ℕ). Units (add binary64 x (neg y)) (G i (2 ^ 1074))) e
      (add_units x (neg y) n 0 p (neg_zero y (subst (λ (i : ℕ). Units y i) z q)) (subst (λ (i : ℕ). G i (2 ^ 1074) < overflow binary64) (sym e) l)))
  | inr K ↦ sub_units x y n k p q K h l
]

-- ---- casts
pub of_int_lem : (a : ℕ) → a ≤ 2 ^ 53 → Units (of_int binary64 (pos a)) (a * 2 ^ 1074)
unfolding of_int
of_int_lem a h = go (round binary64 false a 1) (round_whole binary64 false a h)
  where
    go : (x : Float) → HasValue x false a 1 → Units x (a * 2 ^ 1074)
    go nan v = v
    go (inf s) v = v
    go (fin true m e) v = absurd (true≢false v.0)
    go (fin false m e) v = ap (λ (x : ℕ). x * 2 ^ 1074) (sym (mul-one (m * up e)) ∙ v.1) ∙ mul_right_comm a (down e) (2 ^ 1074)

pub to_unsigned_lem : (w : ℕ) (x : Float) (n : ℕ) → Units x n → to_unsigned w x ≡ min (n / 2 ^ 1074) (2 ^ w - 1)
unfolding to_unsigned
to_unsigned_lem w nan n p = absurd p
to_unsigned_lem w (inf s) n p = absurd p
to_unsigned_lem w (fin true m e) n p = least (2 ^ w - 1) ∙ ap (λ (x : ℕ). min (x / 2 ^ 1074) (2 ^ w - 1)) (sym p.1)
  where
    least : (c : ℕ) → 0 ≡ min (0 / 2 ^ 1074) c
    least c = low (0 / 2 ^ 1074) c refl
      where
        low : (a c : ℕ) → a ≡ 0 → 0 ≡ min a c
        low a c e = omega arith
to_unsigned_lem w (fin false m e) n p = ap (λ (q : ℕ). min q (2 ^ w - 1)) (div_same (m * up e) (down e) n (2 ^ 1074) (down_pos e) (pow_pos 1074) p)

-- ---- numbers of units that are values of the format
abbrev pub Rep : ℕ → Type 0
Rep n = (q : ℕ) × (j : ℕ) × (q < 2 ^ 53) × (n ≡ q * 2 ^ j)

pub G-rep : (n : ℕ) → Rep n → G n (2 ^ 1074) ≡ n
G-rep n r = G-exact n (2 ^ 1074) r.0 r.1 (pow_pos 1074) r.2 (ap (λ (x : ℕ). x * 2 ^ 1074) r.3) ∙ sym r.3

rep_at : (m : ℕ) (e : ℤ) (n : ℕ) → m < 2 ^ 53 → down e ≤ 2 ^ 1074 → m * up e * 2 ^ 1074 ≡ n * down e → Rep n
rep_at m (pos k) n M h p = (m, k + 1074, M, sym (mul-one n) ∙ sym p ∙ mul_assoc m (2 ^ k) (2 ^ 1074) ∙ ap (λ (x : ℕ). m * x) (sym (pow-add 2 k 1074)))
rep_at m (negsuc k) n M h p = (
  m,
  1074 - suc k,
  M,
  eq_of_mul-eq-mul_right (2 ^ suc k) (pow_pos (suc k)) n (m * 2 ^ (1074 - suc k))
      (sym p ∙ ap (λ (x : ℕ). x * 2 ^ 1074) (mul-one m) ∙ ap (λ (x : ℕ). m * x) (ap (λ (x : ℕ). 2 ^ x) (sym (back 1074 (suc k) (pow_le_back (suc k) 1074 h))) ∙ pow-add 2 (1074 - suc k) (suc k)) ∙ sym (mul_assoc m (2 ^ (1074 - suc k)) (2 ^ suc k))),
)

pub rep_of : (x : Float) (n : ℕ) → T (fits binary64 x) → Units x n → Rep n
unfolding fits
rep_of nan n F p = absurd p
rep_of (inf s) n F p = absurd p
rep_of (fin true m e) n F p = (0, 0, pow_pos 53, p.1)
rep_of (fin false zero e) n F p = (0, 0, pow_pos 53, first_zero n (down e) (down_pos e) (sym p ∙ ap (λ (x : ℕ). x * 2 ^ 1074) (zero-mul (up e))))
rep_of (fin false (suc m) e) n F p =
    let a = eqb (suc m % 2) 1 in
    let b = ltb (suc m) (2 ^ 53) in
    let c = leb (down e) (2 ^ 1074) in
    let d = ltb (suc m * up e) (2 ^ 1024 * down e) in
    rep_at (suc m) e n (ltb→lt (suc m) (2 ^ 53) (and_r a b (and_l (a && b) c (and_l (a && b && c) d F)))) (leb→le (down e) (2 ^ 1074) (and_r (a && b) c (and_l (a && b && c) d F))) p

-- ---- a difference that is negative
pub round_value : (s : Bool) (a c : ℕ) → G a c < overflow binary64 → HasValue (round binary64 s a c) s (G a c) (2 ^ 1074)
round_value s a c h = subst (λ (z : Float). HasValue z s (G a c) (2 ^ 1074)) (sym (round_is binary64 s a c)) (units_val binary64 s (kept 53 (a * 2 ^ 1074) c) (drop 53 (a * 2 ^ 1074) c) h)

zero_minus : (m : ℕ) (e : ℤ) (n : ℕ) (d : ℤ) → m ≡ 0 → sub binary64 (fin true m e) (fin false n d) ≡ round binary64 true (n * up d * down e) (down e * down d)
unfolding sub
zero_minus m e n d z = ap (λ (x : ℕ). round binary64 true (x * up e * down d + n * up d * down e) (down e * down d)) z ∙ ap (λ (x : ℕ). round binary64 true (x * down d + n * up d * down e) (down e * down d)) (zero-mul (up e)) ∙ ap (λ (x : ℕ). round binary64 true (x + n * up d * down e) (down e * down d)) (zero-mul (down d)) ∙ ap (λ (x : ℕ). round binary64 true x (down e * down d)) (zero-add (n * up d * down e))

pub sub_negative : (x y : Float) (n k : ℕ) → Units x n → Units y k → n < k → G (k - n) (2 ^ 1074) < overflow binary64 → HasValue (sub binary64 x y) true (G (k - n) (2 ^ 1074)) (2 ^ 1074)
sub_negative nan y n k p q h l = absurd p
sub_negative (inf s) y n k p q h l = absurd p
sub_negative (fin s m e) nan n k p q h l = absurd q
sub_negative (fin s m e) (inf t) n k p q h l = absurd q
sub_negative (fin s m e) (fin true i d) n k p q h l = absurd (none n k q.1 h)
  where
    none : (n k : ℕ) → k ≡ 0 → n < k → ⊥
    none n k e h = omega arith
sub_negative (fin true m e) (fin false i d) n k p q h l =
    let z : k - n ≡ k = ap (λ (x : ℕ). k - x) p.1 ∙ sub-zero k in
    subst (λ (w : ℕ). HasValue (sub binary64 (fin true m e) (fin false i d)) true (G w (2 ^ 1074)) (2 ^ 1074)) (sym z)
    (subst (λ (w : Float). HasValue w true (G k (2 ^ 1074)) (2 ^ 1074))
    (sym (zero_minus m e i d p.0 ∙ round_same binary64 true (i * up d * down e) (down e * down d) k (2 ^ 1074) (mul-pos (down_pos e) (down_pos d)) (pow_pos 1074) (one_value i d k e q)))
    (round_value true k (2 ^ 1074) (subst (λ (w : ℕ). G w (2 ^ 1074) < overflow binary64) z l)))
sub_negative (fin false m e) (fin false i d) n k p q h l =
    subst (λ (w : Float). HasValue w true (G (k - n) (2 ^ 1074)) (2 ^ 1074))
    (sym (less_opened m e i d ∙ opposite_r true (m * up e * down d) (i * up d * down e) (down e * down d) (cross_lt n k (down e) (down d) (m * up e) (i * up d) p q (down_pos e) (down_pos d) h)
    ∙ ap (round binary64 true (i * up d * down e - m * up e * down d)) (mul_comm (down e) (down d))
    ∙ round_same binary64 true (i * up d * down e - m * up e * down d) (down d * down e) (k - n) (2 ^ 1074) (mul-pos (down_pos d) (down_pos e)) (pow_pos 1074) (in_units_sub k n (down d) (down e) (i * up d) (m * up e) q p)))
    (round_value true (k - n) (2 ^ 1074) l)
  where
    cross_lt : (a b de dd x y : ℕ) → x * 2 ^ 1074 ≡ a * de → y * 2 ^ 1074 ≡ b * dd → 0 < de → 0 < dd → a < b → x * dd < y * de
    cross_lt a b de dd x y p q E D h = lt_of_not-le (λ (g : y * de ≤ x * dd). not-le_of_lt h (cross_back b a dd de y x D E q p g))

-- ---- how far a rounding goes: half a unit in the last place, which is 2 ^ t units at most below 2 ^ (53 + t) units
drop_le : (a c t : ℕ) → 0 < c → a * 2 ^ 1074 < 2 ^ (53 + t) * c → drop 53 (a * 2 ^ 1074) c ≤ t
drop_le a c t C h = spare (size (a * 2 ^ 1074 / c)) t (size-le (a * 2 ^ 1074 / c) (53 + t) ((div-lt_iff_lt-mul C).1 h))
  where
    spare : (z t : ℕ) → z ≤ 53 + t → z - 53 ≤ t
    spare z t h = omega arith

pub G-error : (a c t : ℕ) → 0 < c → a * 2 ^ 1074 < 2 ^ (53 + t) * c → (G a c * c * 2 ≤ a * 2 ^ 1074 * 2 + c * 2 ^ t) × (a * 2 ^ 1074 * 2 ≤ G a c * c * 2 + c * 2 ^ t)
G-error a c t C h =
    let n = a * 2 ^ 1074 in
    let k = drop 53 n c in
    let o = closest_off n (c * 2 ^ k) (mul-pos C (pow_pos k)) in
    let u : c * 2 ^ k ≤ c * 2 ^ t = mul-le-mul_left c (pow_mono (drop_le a c t C h)) in
    let g : closest n (c * 2 ^ k) * (c * 2 ^ k) ≡ G a c * c = ap (λ (x : ℕ). closest n (c * 2 ^ k) * x) (mul_comm c (2 ^ k)) ∙ sym (mul_assoc (closest n (c * 2 ^ k)) (2 ^ k) c) in
    pair (closest n (c * 2 ^ k) * (c * 2 ^ k)) (G a c * c) n (c * 2 ^ k) (c * 2 ^ t) g u o.0 o.1
  where
    pair : (x y n u v : ℕ) → x ≡ y → u ≤ v → x * 2 ≤ n * 2 + u → n * 2 ≤ x * 2 + u → (y * 2 ≤ n * 2 + v) × (n * 2 ≤ y * 2 + v)
    pair x y n u v e h p q = omega arith

-- a sum or a difference: the exact result is n units
pub R-error : (n t : ℕ) → n < 2 ^ (53 + t) → (G n (2 ^ 1074) * 2 ≤ n * 2 + 2 ^ t) × (n * 2 ≤ G n (2 ^ 1074) * 2 + 2 ^ t)
R-error n t h = cancel (2 ^ 1074) (G n (2 ^ 1074)) n (2 ^ t) (pow_pos 1074) (G-error n (2 ^ 1074) t (pow_pos 1074) (mul-lt-mul_of_pos_right h (pow_pos 1074)))
  where
    cancel : (c g n v : ℕ) → 0 < c → (g * c * 2 ≤ n * c * 2 + c * v) × (n * c * 2 ≤ g * c * 2 + c * v) → (g * 2 ≤ n * 2 + v) × (n * 2 ≤ g * 2 + v)
    cancel c g n v C p = (
      le_of_mul-le-mul_right (le_trans (le_of_eq (mul_right_comm g 2 c)) (le_trans p.0 (le_of_eq (two n)))) C,
      le_of_mul-le-mul_right (le_trans (le_of_eq (mul_right_comm n 2 c)) (le_trans p.1 (le_of_eq (two g)))) C,
    )
      where
        two : (n : ℕ) → n * c * 2 + c * v ≡ (n * 2 + v) * c
        two n = ap (λ (x : ℕ). x + c * v) (mul_right_comm n c 2) ∙ ap (λ (x : ℕ). n * 2 * c + x) (mul_comm c v) ∙ sym (add-mul (n * 2) v c)
