-- A finite `f64` that is not negative as a whole number of units of 2 ^ -1074, and the operations on such numbers: `G a c` is a / c rounded, in units.
-- It keeps the order, and it is exact at q * 2 ^ j for a q of at most 53 digits.
use mathlib.Core.Path.{◌≡◌, refl, sym, ap, ◌∙◌, subst}
use mathlib.Core.Logic.{inl, inr}
use Prim.Native.Nat.{ℕ, zero, suc, ◌+◌, ◌-◌, ◌*◌, ◌/◌, ◌%◌, ◌^◌, ◌≤◌, ◌<◌, zero-le}
use native.Mathlib.Nat.{le_trans, le_of_eq, lt_of_lt_of_le, lt_of_le_of_lt, lt_of_not-le, not-le_of_lt, le_antisymm, eq-or-lt_of_le, eq-zero-or-pos, mul-one, zero-mul, mul_comm, mul_assoc, mul_right_comm, mul-mul-mul_comm, mul-le-mul_right, le_of_mul-le-mul_right, mul-pos, mul-div_cancel, mul-mod_left, add-mul, mul-sub, add-zero, zero-add, sub-zero, lt_irrefl, zero-lt-suc}
use native.Mathlib.Omega.{arith}
use mathlib.Core.Bool.{Bool, true, false, not, ◌&&◌, cond, true≢false}
use lib.IntN.{ℤ, pos, negsuc}
use lib.Dec.{T, ltb, leb, eqb, ltb→lt, nltb→le, lt→ltb, eqb→eq, leb→le}
use lib.Pow.{pow-add, pow_pos, pow_mono, shl_lt}
use lib.Ieee.{Float, nan, inf, fin, binary64, up, down, unlike, size, round, sum, add, sub, mul, lt, le, fits}
use lib.Ieee.Digits.{size-lt, size-le, back}
use lib.Ieee.Fits.{up_pos, down_pos, and_l, and_r}
use lib.Ieee.Exact.{HasValue, round_exact}
use lib.Ieee.Nearest.{closest, closest_mono, div_mono}
use lib.Ieee.Order.{drop, kept}
use lib.Ieee.Scale.{grid, overflow, round_same, round_val}
use Rattle.float_rounding.proofs.Pattern.{kept_le, kept_ge, pow_le_back}
use Rattle.float_rounding.proofs.Half.{closest_down}
use Rattle.float_rounding.proofs.Order.{le_out, le_out_no}

abbrev pub G : ℕ → ℕ → ℕ
G a c = grid binary64 a c

-- ---- order
size_mono : (a b : ℕ) → a ≤ b → size a ≤ size b
size_mono a b h = size-le a (size b) (lt_of_le_of_lt h (size-lt b))

same_drop : (k a b c d : ℕ) → 0 < b → 0 < d → a * d ≤ c * b → closest a (b * 2 ^ k) * 2 ^ k ≤ closest c (d * 2 ^ k) * 2 ^ k
same_drop k a b c d B D h =
    mul-le-mul_right (2 ^ k)
    (closest_mono a (b * 2 ^ k) c (d * 2 ^ k) (mul-pos B (pow_pos k)) (mul-pos D (pow_pos k))
    (le_trans (le_of_eq (sym (mul_assoc a d (2 ^ k)))) (le_trans (mul-le-mul_right (2 ^ k) h) (le_of_eq (mul_assoc c b (2 ^ k))))))

grid_mono : (p a b c d : ℕ) → 0 < p → 0 < b → 0 < d → a * d ≤ c * b → kept p a b * 2 ^ drop p a b ≤ kept p c d * 2 ^ drop p c d
grid_mono p a b c d P B D h =
    let j = drop p a b in
    let k = drop p c d in
    elim (eq-or-lt_of_le (fewer (size (a / b)) (size (c / d)) p (size_mono (a / b) (c / d) (div_mono a b c d B D h)))) [
      | inl e ↦ subst (λ (x : ℕ). closest a (b * 2 ^ x) * 2 ^ x ≤ kept p c d * 2 ^ k) (sym e) (same_drop k a b c d B D h)
      | inr l ↦
          le_trans (mul-le-mul_right (2 ^ j) (kept_le p a b))
          (le_trans (le_of_eq (sym (pow-add 2 p j)))
          (le_trans (pow_mono (room p j k P l))
          (le_trans (le_of_eq (pow-add 2 (p - 1) k)) (mul-le-mul_right (2 ^ k) (kept_ge p c d P (lt_of_le_of_lt zero-le l))))))
    ]
  where
    fewer : (x y p : ℕ) → x ≤ y → x - p ≤ y - p
    fewer x y p h = omega arith

    room : (p j k : ℕ) → 0 < p → j < k → p + j ≤ p - 1 + k
    room p j k P h = omega arith

pub G-mono : (a b c d : ℕ) → 0 < b → 0 < d → a * d ≤ c * b → G a b ≤ G c d
G-mono a b c d B D h =
    let l = 2 ^ 1074 in
    grid_mono 53 (a * l) b (c * l) d (zero-lt-suc 52) B D (le_trans (le_of_eq (mul_right_comm a l d)) (le_trans (mul-le-mul_right l h) (le_of_eq (mul_right_comm c b l))))

-- ---- where nothing is rounded
closest_whole : (r u : ℕ) → 0 < u → closest (r * u) u ≡ r
closest_whole r u h = sym (closest_down (r * u) u (subst (λ (x : ℕ). x * 2 < u) (sym (mul-mod_left r u)) h)) ∙ mul-div_cancel r h

pub G-exact : (a c q j : ℕ) → 0 < c → q < 2 ^ 53 → a * 2 ^ 1074 ≡ q * 2 ^ j * c → G a c ≡ q * 2 ^ j
G-exact a c q j C Q e =
    let n = a * 2 ^ 1074 in
    let e1 : n / c ≡ q * 2 ^ j = ap (λ (x : ℕ). x / c) e ∙ mul-div_cancel (q * 2 ^ j) C in
    let k = drop 53 n c in
    let k_le : k ≤ j = spare (size (n / c)) 53 j (size-le (n / c) (53 + j) (subst (λ (x : ℕ). x < 2 ^ (53 + j)) (sym e1) (shl_lt 53 j Q))) in
    let r = q * 2 ^ (j - k) in
    let e3 : r * 2 ^ k ≡ q * 2 ^ j = mul_assoc q (2 ^ (j - k)) (2 ^ k) ∙ ap (λ (x : ℕ). q * x) (sym (pow-add 2 (j - k) k) ∙ ap (λ (x : ℕ). 2 ^ x) (back j k k_le)) in
    let e2 : n ≡ r * (c * 2 ^ k) = e ∙ ap (λ (x : ℕ). x * c) (sym e3) ∙ mul_assoc r (2 ^ k) c ∙ ap (λ (x : ℕ). r * x) (mul_comm (2 ^ k) c) in
    ap (λ (x : ℕ). closest x (c * 2 ^ k) * 2 ^ k) e2 ∙ ap (λ (x : ℕ). x * 2 ^ k) (closest_whole r (c * 2 ^ k) (mul-pos C (pow_pos k))) ∙ e3
  where
    spare : (z p l : ℕ) → z ≤ p + l → z - p ≤ l
    spare z p l h = omega arith

pub G-ge : (a c q j : ℕ) → 0 < c → q < 2 ^ 53 → q * 2 ^ j * c ≤ a * 2 ^ 1074 → q * 2 ^ j ≤ G a c
G-ge a c q j C Q h = le_trans (le_of_eq (sym (G-exact (q * 2 ^ j) (2 ^ 1074) q j (pow_pos 1074) Q refl))) (G-mono (q * 2 ^ j) (2 ^ 1074) a c (pow_pos 1074) C h)

pub G-le : (a c q j : ℕ) → 0 < c → q < 2 ^ 53 → a * 2 ^ 1074 ≤ q * 2 ^ j * c → G a c ≤ q * 2 ^ j
G-le a c q j C Q h = le_trans (G-mono a c (q * 2 ^ j) (2 ^ 1074) C (pow_pos 1074) h) (le_of_eq (G-exact (q * 2 ^ j) (2 ^ 1074) q j (pow_pos 1074) Q refl))

pub G-zero : (c : ℕ) → 0 < c → G 0 c ≡ 0
G-zero c C = G-exact 0 c 0 0 C (pow_pos 53) (sym (zero-mul c))

-- ---- factors of nothing and of something
pub first_zero : (m u : ℕ) → 0 < u → m * u ≡ 0 → m ≡ 0
first_zero m u U e = elim (eq-zero-or-pos m) [ inl z ↦ z | inr p ↦ absurd (lt_irrefl 0 (subst (λ (x : ℕ). 0 < x) e (mul-pos p U))) ]

pub first_pos : (a b : ℕ) → 0 < a * b → 0 < a
first_pos a b h = elim (eq-zero-or-pos a) [ inl z ↦ absurd (lt_irrefl 0 (subst (λ (x : ℕ). 0 < x) (ap (λ (x : ℕ). x * b) z ∙ zero-mul b) h)) | inr p ↦ p ]

pub no_less : (n : ℕ) → 0 < n → n ≡ 0 → ⊥
no_less n h e = omega arith

-- ---- x is n units: finite, and not negative, -0 being 0 units
abbrev pub Units : Float → ℕ → Type 0
Units nan n = ⊥
Units (inf s) n = ⊥
Units (fin false m e) n = m * up e * 2 ^ 1074 ≡ n * down e
Units (fin true m e) n = (m ≡ 0) × (n ≡ 0)

pub of_value : (x : Float) (n : ℕ) → HasValue x false n (2 ^ 1074) → Units x n
of_value nan n v = v
of_value (inf s) n v = v
of_value (fin true m e) n v = absurd (true≢false v.0)
of_value (fin false m e) n v = v.1

pub rounded : (a c : ℕ) → G a c < overflow binary64 → Units (round binary64 false a c) (G a c)
rounded a c h = of_value (round binary64 false a c) (G a c) (round_val binary64 a c h)

-- A zero as num, with either sign
pub zero_round : (s : Bool) (c : ℕ) → 0 < c → Units (round binary64 s 0 c) 0
zero_round s c C = go (round binary64 s 0 c) (round_exact binary64 s 0 c 0 0 C (pow_pos 53) (pow_pos 2098) (sym (zero-mul c)))
  where
    first : (m u : ℕ) → 0 < u → m * u * c ≡ 0 → m ≡ 0
    first m u U e = first_zero m u U (first_zero (m * u) c C e)

    go : (x : Float) → HasValue x s 0 c → Units x 0
    go nan v = v
    go (inf t) v = v
    go (fin true m e) v = (first m (up e) (up_pos e) (v.1 ∙ zero-mul (down e)), refl)
    go (fin false m e) v = ap (λ (x : ℕ). x * up e * 2 ^ 1074) (first m (up e) (up_pos e) (v.1 ∙ zero-mul (down e))) ∙ ap (λ (x : ℕ). x * 2 ^ 1074) (zero-mul (up e)) ∙ sym (zero-mul (down e))

-- ---- a sum
sum_mixed : (b c : ℕ) → sum binary64 true 0 false b c ≡ round binary64 false b c
unfolding sum
sum_mixed b c = go (ltb 0 b) (nltb→le 0 b)
  where
    go : (t : Bool) → (T (not t) → b ≤ 0) → cond t (round binary64 false (b - 0) c) (round binary64 (true && ltb b 0) (0 - b) c) ≡ round binary64 false b c
    go true h = ap (λ (x : ℕ). round binary64 false x c) (sub-zero b)
    go false h = subst (λ (x : ℕ). round binary64 (true && ltb x 0) (0 - x) c ≡ round binary64 false x c) (sym (none b (h tt))) refl
      where
        none : (b : ℕ) → b ≤ 0 → b ≡ 0
        none b h = omega arith

pub sum_less : (a b c : ℕ) → b ≤ a → sum binary64 false a true b c ≡ round binary64 false (a - b) c
unfolding sum
sum_less a b c h = go (ltb a b) (ltb→lt a b)
  where
    go : (t : Bool) → (T t → a < b) → cond t (round binary64 true (b - a) c) (round binary64 false (a - b) c) ≡ round binary64 false (a - b) c
    go true k = absurd (not-le_of_lt (k tt) h)
    go false k = refl

-- one sign
pub same_sign : (s : Bool) (a b c : ℕ) → sum binary64 s a s b c ≡ round binary64 s (a + b) c
unfolding sum
same_sign true a b c = refl
same_sign false a b c = refl

-- two signs, the second one's size the larger
pub opposite_r : (s : Bool) (a b c : ℕ) → a < b → sum binary64 (not s) a s b c ≡ round binary64 s (b - a) c
unfolding sum
opposite_r true a b c h = go (ltb a b) (lt→ltb a b h)
  where
    go : (t : Bool) → T t → cond t (round binary64 true (b - a) c) (round binary64 false (a - b) c) ≡ round binary64 true (b - a) c
    go true w = refl
    go false w = absurd w
opposite_r false a b c h = go (ltb a b) (lt→ltb a b h)
  where
    go : (t : Bool) → T t → cond t (round binary64 false (b - a) c) (round binary64 (true && ltb b a) (a - b) c) ≡ round binary64 false (b - a) c
    go true w = refl
    go false w = absurd w

-- the same fraction, with its parts in units
pub in_units_lem : (a b de dd x y : ℕ) → x * 2 ^ 1074 ≡ a * de → y * 2 ^ 1074 ≡ b * dd → (x * dd + y * de) * 2 ^ 1074 ≡ (a + b) * (de * dd)
in_units_lem a b de dd x y p q =
    add-mul (x * dd) (y * de) (2 ^ 1074)
    ∙ ap (λ (z : ℕ). z + y * de * 2 ^ 1074) (mul_right_comm x dd (2 ^ 1074) ∙ ap (λ (z : ℕ). z * dd) p ∙ mul_assoc a de dd)
    ∙ ap (λ (z : ℕ). a * (de * dd) + z) (mul_right_comm y de (2 ^ 1074) ∙ ap (λ (z : ℕ). z * de) q ∙ mul_assoc b dd de ∙ ap (λ (z : ℕ). b * z) (mul_comm dd de))
    ∙ sym (add-mul a b (de * dd))

pub opened : (s : Bool) (m : ℕ) (e : ℤ) (t : Bool) (n : ℕ) (d : ℤ) → add binary64 (fin s m e) (fin t n d) ≡ sum binary64 s (m * up e * down d) t (n * up d * down e) (down e * down d)
unfolding add
opened s m e t n d = refl

gone : (m u d : ℕ) → m ≡ 0 → m * u * d ≡ 0
gone m u d e = ap (λ (x : ℕ). x * u * d) e ∙ ap (λ (x : ℕ). x * d) (zero-mul u) ∙ zero-mul d

pub one_value : (n : ℕ) (d : ℤ) (k : ℕ) (e : ℤ) → n * up d * 2 ^ 1074 ≡ k * down d → n * up d * down e * 2 ^ 1074 ≡ k * (down e * down d)
one_value n d k e q = mul_right_comm (n * up d) (down e) (2 ^ 1074) ∙ ap (λ (z : ℕ). z * down e) q ∙ mul_assoc k (down d) (down e) ∙ ap (λ (z : ℕ). k * z) (mul_comm (down d) (down e))

pub add_units : (x y : Float) (n k : ℕ) → Units x n → Units y k → G (n + k) (2 ^ 1074) < overflow binary64 → Units (add binary64 x y) (G (n + k) (2 ^ 1074))
add_units nan y n k p q h = absurd p
add_units (inf s) y n k p q h = absurd p
add_units (fin s m e) nan n k p q h = absurd q
add_units (fin s m e) (inf t) n k p q h = absurd q
add_units (fin false m e) (fin false l d) n k p q h =
    subst (λ (z : Float). Units z (G (n + k) (2 ^ 1074)))
    (sym (opened false m e false l d ∙ same_sign false (m * up e * down d) (l * up d * down e) (down e * down d) ∙ round_same binary64 false (m * up e * down d + l * up d * down e) (down e * down d) (n + k) (2 ^ 1074) (mul-pos (down_pos e) (down_pos d)) (pow_pos 1074) (in_units_lem n k (down e) (down d) (m * up e) (l * up d) p q)))
    (rounded (n + k) (2 ^ 1074) h)
add_units (fin true m e) (fin false l d) n k p q h =
    subst (λ (i : ℕ). Units (add binary64 (fin true m e) (fin false l d)) (G i (2 ^ 1074))) (sym (ap (λ (x : ℕ). x + k) p.1 ∙ zero-add k))
    (subst (λ (z : Float). Units z (G k (2 ^ 1074)))
    (sym (opened true m e false l d ∙ ap (λ (x : ℕ). sum binary64 true x false (l * up d * down e) (down e * down d)) (gone m (up e) (down d) p.0) ∙ sum_mixed (l * up d * down e) (down e * down d) ∙ round_same binary64 false (l * up d * down e) (down e * down d) k (2 ^ 1074) (mul-pos (down_pos e) (down_pos d)) (pow_pos 1074) (one_value l d k e q)))
    (rounded k (2 ^ 1074) (subst (λ (i : ℕ). G i (2 ^ 1074) < overflow binary64) (ap (λ (x : ℕ). x + k) p.1 ∙ zero-add k) h)))
add_units (fin false m e) (fin true l d) n k p q h =
    subst (λ (i : ℕ). Units (add binary64 (fin false m e) (fin true l d)) (G i (2 ^ 1074))) (sym (ap (λ (x : ℕ). n + x) q.1 ∙ add-zero n))
    (subst (λ (z : Float). Units z (G n (2 ^ 1074)))
    (sym (opened false m e true l d ∙ ap (λ (x : ℕ). sum binary64 false (m * up e * down d) true x (down e * down d)) (gone l (up d) (down e) q.0) ∙ sum_less (m * up e * down d) 0 (down e * down d) zero-le ∙ ap (λ (x : ℕ). round binary64 false x (down e * down d)) (sub-zero (m * up e * down d)) ∙ ap (round binary64 false (m * up e * down d)) (mul_comm (down e) (down d)) ∙ round_same binary64 false (m * up e * down d) (down d * down e) n (2 ^ 1074) (mul-pos (down_pos d) (down_pos e)) (pow_pos 1074) (one_value m e n d p)))
    (rounded n (2 ^ 1074) (subst (λ (i : ℕ). G i (2 ^ 1074) < overflow binary64) (ap (λ (x : ℕ). n + x) q.1 ∙ add-zero n) h)))
add_units (fin true m e) (fin true l d) n k p q h =
    subst (λ (i : ℕ). Units (add binary64 (fin true m e) (fin true l d)) i) (sym (ap (λ (i : ℕ). G i (2 ^ 1074)) (ap (λ (x : ℕ). x + k) p.1 ∙ zero-add k ∙ q.1) ∙ G-zero (2 ^ 1074) (pow_pos 1074)))
    (subst (λ (z : Float). Units z 0) (sym (opened true m e true l d ∙ ap (λ (x : ℕ). sum binary64 true x true (l * up d * down e) (down e * down d)) (gone m (up e) (down d) p.0) ∙ ap (λ (x : ℕ). sum binary64 true 0 true x (down e * down d)) (gone l (up d) (down e) q.0) ∙ same_sign true 0 0 (down e * down d)))
    (zero_round true (down e * down d) (mul-pos (down_pos e) (down_pos d))))

-- ---- a difference x - y for y ≤ x
pub in_units_sub : (a b de dd x y : ℕ) → x * 2 ^ 1074 ≡ a * de → y * 2 ^ 1074 ≡ b * dd → (x * dd - y * de) * 2 ^ 1074 ≡ (a - b) * (de * dd)
in_units_sub a b de dd x y p q =
    mul_comm (x * dd - y * de) (2 ^ 1074)
    ∙ mul-sub (2 ^ 1074) (x * dd) (y * de)
    ∙ ap (λ (z : ℕ). z - 2 ^ 1074 * (y * de)) (mul_comm (2 ^ 1074) (x * dd) ∙ mul_right_comm x dd (2 ^ 1074) ∙ ap (λ (z : ℕ). z * dd) p ∙ mul_assoc a de dd ∙ mul_comm a (de * dd))
    ∙ ap (λ (z : ℕ). de * dd * a - z) (mul_comm (2 ^ 1074) (y * de) ∙ mul_right_comm y de (2 ^ 1074) ∙ ap (λ (z : ℕ). z * de) q ∙ mul_assoc b dd de ∙ mul_comm b (dd * de) ∙ ap (λ (z : ℕ). z * b) (mul_comm dd de))
    ∙ sym (mul-sub (de * dd) a b)
    ∙ mul_comm (de * dd) (a - b)

-- x / de ≤ y / dd, in units
pub cross : (a b de dd x y : ℕ) → x * 2 ^ 1074 ≡ a * de → y * 2 ^ 1074 ≡ b * dd → a ≤ b → x * dd ≤ y * de
cross a b de dd x y p q h =
    le_of_mul-le-mul_right
    (le_trans (le_of_eq (mul_right_comm x dd (2 ^ 1074) ∙ ap (λ (z : ℕ). z * dd) p ∙ mul_assoc a de dd))
    (le_trans (mul-le-mul_right (de * dd) h)
    (le_of_eq (sym (mul_right_comm y de (2 ^ 1074) ∙ ap (λ (z : ℕ). z * de) q ∙ mul_assoc b dd de ∙ ap (λ (z : ℕ). b * z) (mul_comm dd de))))))
    (pow_pos 1074)

pub cross_back : (a b de dd x y : ℕ) → 0 < de → 0 < dd → x * 2 ^ 1074 ≡ a * de → y * 2 ^ 1074 ≡ b * dd → x * dd ≤ y * de → a ≤ b
cross_back a b de dd x y E D p q h =
    le_of_mul-le-mul_right
    (le_trans (le_of_eq (sym (mul_right_comm x dd (2 ^ 1074) ∙ ap (λ (z : ℕ). z * dd) p ∙ mul_assoc a de dd)))
    (le_trans (mul-le-mul_right (2 ^ 1074) h)
    (le_of_eq (mul_right_comm y de (2 ^ 1074) ∙ ap (λ (z : ℕ). z * de) q ∙ mul_assoc b dd de ∙ ap (λ (z : ℕ). b * z) (mul_comm dd de)))))
    (mul-pos E D)

pub less_opened : (m : ℕ) (e : ℤ) (n : ℕ) (d : ℤ) → sub binary64 (fin false m e) (fin false n d) ≡ sum binary64 false (m * up e * down d) true (n * up d * down e) (down e * down d)
unfolding sub
less_opened m e n d = refl

pub sub_units : (x y : Float) (n k : ℕ) → Units x n → Units y k → 0 < k → k ≤ n → G (n - k) (2 ^ 1074) < overflow binary64 → Units (sub binary64 x y) (G (n - k) (2 ^ 1074))
sub_units nan y n k p q K h l = absurd p
sub_units (inf s) y n k p q K h l = absurd p
sub_units (fin s m e) nan n k p q K h l = absurd q
sub_units (fin s m e) (inf t) n k p q K h l = absurd q
sub_units (fin true m e) (fin t i d) n k p q K h l = absurd (no_less n (lt_of_lt_of_le K h) p.1)
sub_units (fin false m e) (fin true i d) n k p q K h l = absurd (no_less k K q.1)
sub_units (fin false m e) (fin false i d) n k p q K h l =
    subst (λ (z : Float). Units z (G (n - k) (2 ^ 1074)))
    (sym (less_opened m e i d ∙ sum_less (m * up e * down d) (i * up d * down e) (down e * down d) (cross k n (down d) (down e) (i * up d) (m * up e) q p h)
    ∙ round_same binary64 false (m * up e * down d - i * up d * down e) (down e * down d) (n - k) (2 ^ 1074) (mul-pos (down_pos e) (down_pos d)) (pow_pos 1074) (in_units_sub n k (down e) (down d) (m * up e) (i * up d) p q)))
    (rounded (n - k) (2 ^ 1074) l)

-- ---- a product of two that are above zero
pub mul_opened : (s : Bool) (m : ℕ) (e : ℤ) (t : Bool) (n : ℕ) (d : ℤ) → mul binary64 (fin s m e) (fin t n d) ≡ round binary64 (unlike s t) (m * up e * (n * up d)) (down e * down d)
unfolding mul
mul_opened s m e t n d = refl

pub mul_units : (x y : Float) (n k : ℕ) → Units x n → Units y k → 0 < n → 0 < k → G (n * k) (2 ^ 1074 * 2 ^ 1074) < overflow binary64 → Units (mul binary64 x y) (G (n * k) (2 ^ 1074 * 2 ^ 1074))
mul_units nan y n k p q N K l = absurd p
mul_units (inf s) y n k p q N K l = absurd p
mul_units (fin s m e) nan n k p q N K l = absurd q
mul_units (fin s m e) (inf t) n k p q N K l = absurd q
mul_units (fin true m e) (fin t i d) n k p q N K l = absurd (no_less n N p.1)
mul_units (fin false m e) (fin true i d) n k p q N K l = absurd (no_less k K q.1)
mul_units (fin false m e) (fin false i d) n k p q N K l =
    subst (λ (z : Float). Units z (G (n * k) (2 ^ 1074 * 2 ^ 1074)))
    (sym (mul_opened false m e false i d ∙ round_same binary64 false (m * up e * (i * up d)) (down e * down d) (n * k) (2 ^ 1074 * 2 ^ 1074) (mul-pos (down_pos e) (down_pos d)) (mul-pos (pow_pos 1074) (pow_pos 1074))
    (mul-mul-mul_comm (m * up e) (i * up d) (2 ^ 1074) (2 ^ 1074) ∙ ap (λ (z : ℕ). z * (i * up d * 2 ^ 1074)) p ∙ ap (λ (z : ℕ). n * down e * z) q ∙ mul-mul-mul_comm n (down e) k (down d))))
    (rounded (n * k) (2 ^ 1074 * 2 ^ 1074) l)

-- ---- comparisons, the left one above zero for `le`
pub le_units : (m : ℕ) (e : ℤ) (y : Float) (n k : ℕ) → Units (fin false m e) n → 0 < n → Units y k → (T (le (fin false m e) y) → n ≤ k) × (T (not (le (fin false m e) y)) → k < n)
unfolding le
le_units m e nan n k p N q = absurd q
le_units m e (inf s) n k p N q = absurd q
le_units m e (fin true i d) n k p N q = (λ (t : T (eqb (m * up e * down d) (i * up d * down e) && eqb (m * up e * down d) 0)). absurd (no_less n N (zero_of (eqb→eq (m * up e * down d) 0 (and_r (eqb (m * up e * down d) (i * up d * down e)) (eqb (m * up e * down d) 0) t)))), λ t. subst (λ (x : ℕ). x < n) (sym q.1) N)
  where
    zero_of : m * up e * down d ≡ 0 → n ≡ 0
    zero_of z = le_antisymm (cross_back n 0 (down e) (down d) (m * up e) 0 (down_pos e) (down_pos d) p refl' (le_of_eq (z ∙ sym (zero-mul (down e))))) zero-le
      where
        refl' : 0 * 2 ^ 1074 ≡ 0 * down d
        refl' = sym (zero-mul (down d))
le_units m e (fin false i d) n k p N q = (
  λ t. cross_back n k (down e) (down d) (m * up e) (i * up d) (down_pos e) (down_pos d) p q (le_out false (m * up e * down d) false (i * up d * down e) t),
  λ t. lt_of_not-le (λ (h : n ≤ k). not-le_of_lt (le_out_no (m * up e * down d) (i * up d * down e) t) (cross n k (down e) (down d) (m * up e) (i * up d) p q h)),
)

pub lt_units : (x : Float) (m : ℕ) (e : ℤ) (n k : ℕ) → Units x n → Units (fin false m e) k → (T (lt x (fin false m e)) → n < k) × (T (not (lt x (fin false m e))) → k ≤ n)
unfolding lt
lt_units nan m e n k p q = absurd p
lt_units (inf s) m e n k p q = absurd p
lt_units (fin true i d) m e n k p q = (
  λ t. subst (λ (x : ℕ). x < k) (sym p.1) (lt_of_not-le (λ (h : k ≤ 0). bad (i * up d * down e) (m * up e * down d) (gone i (up d) (down e) p.0) (low h) (ltb→lt 0 (i * up d * down e + m * up e * down d) t))),
  λ t. le_trans (cross_back k 0 (down e) (down d) (m * up e) 0 (down_pos e) (down_pos d) q (sym (zero-mul (down d))) (le_trans (le_of (i * up d * down e) (m * up e * down d) (nltb→le 0 (i * up d * down e + m * up e * down d) t)) zero-le)) zero-le,
)
  where
    low : k ≤ 0 → m * up e * down d ≤ 0 * down e
    low h = cross k 0 (down e) (down d) (m * up e) 0 q (sym (zero-mul (down d))) h

    bad : (a b : ℕ) → a ≡ 0 → b ≤ 0 * down e → 0 < a + b → ⊥
    bad a b e0 h l = bad2 a b (0 * down e) e0 (zero-mul (down e)) h l
      where
        bad2 : (a b z : ℕ) → a ≡ 0 → z ≡ 0 → b ≤ z → 0 < a + b → ⊥
        bad2 a b z e0 e1 h l = omega arith

    le_of : (a b : ℕ) → a + b ≤ 0 → b ≤ 0
    le_of a b h = omega arith
lt_units (fin false i d) m e n k p q = (
  λ t. lt_of_not-le (λ (h : k ≤ n). not-le_of_lt (ltb→lt (i * up d * down e) (m * up e * down d) t) (cross k n (down e) (down d) (m * up e) (i * up d) q p h)),
  λ t. cross_back k n (down e) (down d) (m * up e) (i * up d) (down_pos e) (down_pos d) q p (nltb→le (i * up d * down e) (m * up e * down d) t),
)

-- ---- every value of the format that is finite and not negative is some number of units
pub whole_units : (m : ℕ) (e : ℤ) → down e ≤ 2 ^ 1074 → (n : ℕ) × (m * up e * 2 ^ 1074 ≡ n * down e)
whole_units m (pos k) h = (m * 2 ^ k * 2 ^ 1074, sym (mul-one (m * 2 ^ k * 2 ^ 1074)))
whole_units m (negsuc k) h = (m * 2 ^ (1074 - suc k), ap (λ (x : ℕ). x * 2 ^ 1074) (mul-one m) ∙ ap (λ (x : ℕ). m * x) (ap (λ (x : ℕ). 2 ^ x) (sym (back 1074 (suc k) (pow_le_back (suc k) 1074 h))) ∙ pow-add 2 (1074 - suc k) (suc k)) ∙ sym (mul_assoc m (2 ^ (1074 - suc k)) (2 ^ suc k)))

pub units_of : (x : Float) → T (fits binary64 x) → T (le (fin false 0 (pos 0)) x) → T (lt x (inf false)) → (n : ℕ) × Units x n
unfolding fits le lt
units_of nan F p h = absurd p
units_of (inf true) F p h = absurd p
units_of (inf false) F p h = absurd h
units_of (fin false zero e) F p h = (0, ap (λ (x : ℕ). x * 2 ^ 1074) (zero-mul (up e)) ∙ sym (zero-mul (down e)))
units_of (fin false (suc m) e) F p h = whole_units (suc m) e (leb→le (down e) (2 ^ 1074) (and_r (eqb (suc m % 2) 1 && ltb (suc m) (2 ^ 53)) (leb (down e) (2 ^ 1074)) (and_l (eqb (suc m % 2) 1 && ltb (suc m) (2 ^ 53) && leb (down e) (2 ^ 1074)) (ltb (suc m * up e) (2 ^ 1024 * down e)) F)))
units_of (fin true m e) F p h = (0, (first_zero m (up e) (up_pos e) (sym (mul-one (m * up e)) ∙ sym (eqb→eq (0 * 1 * down e) (m * up e * 1) (and_l (eqb (0 * 1 * down e) (m * up e * 1)) (eqb (0 * 1 * down e) 0) p)) ∙ zero-mul (down e)), refl))

pub lt_finite : (x : Float) (m : ℕ) (e : ℤ) → T (lt x (fin false m e)) → T (lt x (inf false))
unfolding lt
lt_finite nan m e t = t
lt_finite (inf true) m e t = tt
lt_finite (inf false) m e t = t
lt_finite (fin s n d) m e t = tt
