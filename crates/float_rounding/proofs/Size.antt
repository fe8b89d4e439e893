-- A float that is finite and at most b units of 2 ^ -1074 in size, and how sums, differences and remainders keep to such bounds.
use mathlib.Core.Path.{◌≡◌, refl, sym, ap, ◌∙◌, subst}
use mathlib.Core.Logic.{◌⊎◌, inl, inr}
use Prim.Native.Nat.{ℕ, zero, suc, ◌+◌, ◌-◌, ◌*◌, ◌%◌, ◌^◌, ◌≤◌, ◌<◌, zero-le}
use native.Mathlib.Nat.{le_refl, le_trans, le_of_eq, le_of_lt, lt_of_lt_of_le, lt_of_le_of_lt, eq-or-lt_of_le, zero-mul, mul_assoc, mul_right_comm, mul-le-mul_right, mul-le-mul, mul-pos, sub_self, le_antisymm, mul-lt-mul_of_pos_right, lt_of_mul-lt-mul_right}
use native.Mathlib.Omega.{arith}
use mathlib.Core.Bool.{Bool, true, false, not, ◌&&◌, cond}
use lib.IntN.{ℤ}
use lib.Dec.{T, leb, ltb, eqb, leb→le, nleb→lt, ltb→lt, lit<, lit≤}
use lib.Pow.{pow-add, pow_pos, pow_mono}
use lib.Ieee.{Float, nan, inf, fin, binary64, up, down, round, neg, sum, add, lt, fits}
use lib.Ieee.Digits.{back}
use lib.Ieee.Fits.{down_pos, and_r}
use lib.Ieee.Scale.{overflow, finite}
use Rattle.float_rounding.proofs.Units.{G, G-zero, G-le, Units, cross, units_of, sum_less, opened}
use Rattle.float_rounding.proofs.More.{Rep, rep_of, R-error, round_value}
use Rattle.float_rounding.proofs.Order.{zero_le_fin}
use Rattle.float_rounding.proofs.Val.{Val, neg_val, add_same, add_opposite, add_opposite_r}

abbrev pub Within : Float → ℕ → Type 0
Within x b = (s : Bool) × (n : ℕ) × Val x s n × (n ≤ b)

pub within_neg : (x : Float) (b : ℕ) → Within x b → Within (neg x) b
within_neg x b w = (not w.0, w.1, neg_val x w.0 w.1 w.2, w.3)

pub within_finite : (x : Float) (b : ℕ) → Within x b → T (finite x)
within_finite nan b w = w.2
within_finite (inf s) b w = w.2
within_finite (fin s m e) b w = tt

pub units_within : (x : Float) (n b : ℕ) → Units x n → n ≤ b → Within x b
units_within nan n b p h = absurd p
units_within (inf s) n b p h = absurd p
units_within (fin false m e) n b p h = (false, n, (refl, p), h)
units_within (fin true m e) n b p h = (true, 0, (refl, ap (λ (x : ℕ). x * up e * 2 ^ 1074) p.0 ∙ ap (λ (x : ℕ). x * 2 ^ 1074) (zero-mul (up e)) ∙ sym (zero-mul (down e))), zero-le)

-- ---- every finite value of the format is some number of units, below overflow, that is a value of the format
zero_eq : (u d : ℕ) → 0 * u * 2 ^ 1074 ≡ 0 * d
zero_eq u d = ap (λ (x : ℕ). x * 2 ^ 1074) (zero-mul u) ∙ sym (zero-mul d)

under_top : (m : ℕ) (e : ℤ) (n : ℕ) → T (fits binary64 (fin false (suc m) e)) → suc m * up e * 2 ^ 1074 ≡ n * down e → n < overflow binary64
unfolding fits
under_top m e n F p =
    lt_of_mul-lt-mul_right (down e)
    (lt_of_le_of_lt (le_of_eq (sym p))
    (lt_of_lt_of_le
    (mul-lt-mul_of_pos_right (ltb→lt (suc m * up e) (2 ^ 1024 * down e) (and_r (eqb (suc m % 2) 1 && ltb (suc m) (2 ^ 53) && leb (down e) (2 ^ 1074)) (ltb (suc m * up e) (2 ^ 1024 * down e)) F)) (pow_pos 1074))
    (le_of_eq (mul_right_comm (2 ^ 1024) (down e) (2 ^ 1074) ∙ ap (λ (x : ℕ). x * down e) (sym (pow-add 2 1024 1074))))))

pub record Number (x : Float) : Type 0 where
  pub sign : Bool
  pub count : ℕ
  pub is : Val x sign count
  pub exact : Rep count
  pub under : count < overflow binary64

pub number : (x : Float) → T (fits binary64 x) → T (finite x) → Number x
unfolding fits lt
number nan F h = absurd h
number (inf s) F h = absurd h
number (fin s zero e) F h = record { sign = s; count = 0; is = (refl, zero_eq (up e) (down e)); exact = (0, 0, pow_pos 53, refl); under = pow_pos 2098 }
number (fin s (suc m) e) F h =
    let u = units_of (fin false (suc m) e) F (zero_le_fin (suc m) e) tt in
    record { sign = s; count = u.0; is = (refl, u.1); exact = rep_of (fin false (suc m) e) u.0 F u.1; under = under_top m e u.0 F u.1 }

-- ---- sums. b is q * 2 ^ j, a value of the format
zero_sum : (s : Bool) (a c : ℕ) → sum binary64 s a (not s) a c ≡ round binary64 false 0 c
unfolding sum
zero_sum true a c = go (ltb a a) (ltb→lt a a)
  where
    no : (a : ℕ) → a < a → ⊥
    no a h = omega arith

    go : (t : Bool) → (T t → a < a) → cond t (round binary64 false (a - a) c) (round binary64 (true && t) (a - a) c) ≡ round binary64 false 0 c
    go true k = absurd (no a (k tt))
    go false k = ap (λ (x : ℕ). round binary64 false x c) (sub_self a)
zero_sum false a c = sum_less a a c (le_refl a) ∙ ap (λ (x : ℕ). round binary64 false x c) (sub_self a)

zero_val : (c : ℕ) → 0 < c → Val (round binary64 false 0 c) false 0
zero_val c C = subst (λ (g : ℕ). Val (round binary64 false 0 c) false g) (G-zero c C) (round_value false 0 c (lt_of_le_of_lt (le_of_eq (G-zero c C)) (pow_pos 2098)))

-- x + -x is +0
pub add_equal : (x y : Float) (s : Bool) (n : ℕ) → Val x s n → Val y (not s) n → Val (add binary64 x y) false 0
add_equal nan y s n p q = absurd p
add_equal (inf t) y s n p q = absurd p
add_equal (fin t m e) nan s n p q = absurd q
add_equal (fin t m e) (inf r) s n p q = absurd q
add_equal (fin t m e) (fin r i d) s n p q =
    subst (λ (w : Float). Val w false 0)
    (sym (opened t m e r i d ∙ ap (λ (b : Bool). sum binary64 b (m * up e * down d) r (i * up d * down e) (down e * down d)) p.0 ∙ ap (λ (b : Bool). sum binary64 s (m * up e * down d) b (i * up d * down e) (down e * down d)) q.0
    ∙ ap (λ (x : ℕ). sum binary64 s (m * up e * down d) (not s) x (down e * down d)) (le_antisymm (cross n n (down d) (down e) (i * up d) (m * up e) q.1 p.1 (le_refl n)) (cross n n (down e) (down d) (m * up e) (i * up d) p.1 q.1 (le_refl n)))
    ∙ zero_sum s (m * up e * down d) (down e * down d)))
    (zero_val (down e * down d) (mul-pos (down_pos e) (down_pos d)))

pub le_or_lt : (a b : ℕ) → (a ≤ b) ⊎ (b < a)
le_or_lt a b = go (leb a b) (leb→le a b) (nleb→lt a b)
  where
    go : (t : Bool) → (T t → a ≤ b) → (T (not t) → b < a) → (a ≤ b) ⊎ (b < a)
    go true h g = inl (h tt)
    go false h g = inr (g tt)

-- opposite signs, and sizes that differ by at most b
pub apart : (x y : Float) (s : Bool) (n k q j : ℕ) → q < 2 ^ 53 → q * 2 ^ j < overflow binary64 → Val x s n → Val y (not s) k → n ≤ k + q * 2 ^ j → k ≤ n + q * 2 ^ j → Within (add binary64 x y) (q * 2 ^ j)
apart x y s n k q j Q O X Y a b = elim (le_or_lt n k) [
  | inr l ↦
      let g = G-le (n - k) (2 ^ 1074) q j (pow_pos 1074) Q (mul-le-mul_right (2 ^ 1074) (diff n k (q * 2 ^ j) a)) in
      (s, G (n - k) (2 ^ 1074), add_opposite x y s n k X Y l (lt_of_le_of_lt g O), g)
  | inl h ↦ elim (eq-or-lt_of_le h) [
    | inl e ↦ (false, 0, add_equal x y s n X (subst (λ (i : ℕ). Val y (not s) i) (sym e) Y), zero-le)
    | inr l ↦
        let g = G-le (k - n) (2 ^ 1074) q j (pow_pos 1074) Q (mul-le-mul_right (2 ^ 1074) (diff k n (q * 2 ^ j) b)) in
        (not s, G (k - n) (2 ^ 1074), add_opposite_r x y (not s) n k (subst (λ (b : Bool). Val x b n) (sym (twice s)) X) Y l (lt_of_le_of_lt g O), g)
  ]
]
  where
    diff : (n k c : ℕ) → n ≤ k + c → n - k ≤ c
    diff n k c h = omega arith

    twice : (s : Bool) → not (not s) ≡ s
    twice true = refl
    twice false = refl

-- whatever the signs, sizes that sum to at most b
pub sum_within : (x y : Float) (b c q j : ℕ) → q < 2 ^ 53 → q * 2 ^ j < overflow binary64 → Within x b → Within y c → b + c ≤ q * 2 ^ j → Within (add binary64 x y) (q * 2 ^ j)
sum_within x y b c q j Q O X Y h = go X.0 Y.0 X.2 Y.2
  where
    both : (n k b c d : ℕ) → n ≤ b → k ≤ c → b + c ≤ d → n + k ≤ d
    both n k b c d N K h = omega arith

    one : (n k d : ℕ) → n + k ≤ d → n ≤ k + d
    one n k d h = omega arith

    other : (n k d : ℕ) → n + k ≤ d → k ≤ n + d
    other n k d h = omega arith

    all : X.1 + Y.1 ≤ q * 2 ^ j
    all = both X.1 Y.1 b c (q * 2 ^ j) X.3 Y.3 h

    go : (s t : Bool) → Val x s X.1 → Val y t Y.1 → Within (add binary64 x y) (q * 2 ^ j)
    go s t v w = elim (same_or_not s t) [
      | inl e ↦
          let g = G-le (X.1 + Y.1) (2 ^ 1074) q j (pow_pos 1074) Q (mul-le-mul_right (2 ^ 1074) all) in
          (s, G (X.1 + Y.1) (2 ^ 1074), add_same x y s X.1 Y.1 v (subst (λ (b : Bool). Val y b Y.1) e w) (lt_of_le_of_lt g O), g)
      | inr e ↦ apart x y s X.1 Y.1 q j Q O v (subst (λ (b : Bool). Val y b Y.1) e w) (one X.1 Y.1 (q * 2 ^ j) all) (other X.1 Y.1 (q * 2 ^ j) all)
    ]
      where
        same_or_not : (s t : Bool) → (t ≡ s) ⊎ (t ≡ not s)
        same_or_not true true = inl refl
        same_or_not true false = inr refl
        same_or_not false true = inr refl
        same_or_not false false = inl refl

-- ---- the largest finite value, and a sum with a small number
abbrev pub largest : ℕ
largest = 9007199254740991 * 2 ^ 2045

pub rep_largest : (n : ℕ) → Rep n → n < overflow binary64 → n ≤ largest
rep_largest n r h = elim (le_or_lt r.1 2045) [
  | inl l ↦ le_trans (le_of_eq r.3) (mul-le-mul (pred r.0 r.2) (pow_mono l))
  | inr g ↦
      let e : n ≡ r.0 * 2 ^ (r.1 - 2045) * 2 ^ 2045 = r.3 ∙ ap (λ (i : ℕ). r.0 * 2 ^ i) (sym (back r.1 2045 (le_of_lt g))) ∙ ap (λ (x : ℕ). r.0 * x) (pow-add 2 (r.1 - 2045) 2045) ∙ sym (mul_assoc r.0 (2 ^ (r.1 - 2045)) (2 ^ 2045)) in
      le_trans (le_of_eq e) (mul-le-mul_right (2 ^ 2045) (pred (r.0 * 2 ^ (r.1 - 2045)) (lt_of_mul-lt-mul_right (2 ^ 2045) (lt_of_le_of_lt (le_of_eq (sym e)) h))))
]
  where
    pred : (q : ℕ) → q < 2 ^ 53 → q ≤ 9007199254740991
    pred q h = omega arith

pub add_small : (x y : Float) (k : ℕ) → Number x → Val y false k → k ≤ 2 ^ 2043 → (s : Bool) × (n : ℕ) × Val (add binary64 x y) s n
add_small x y k N Y K = go N.sign N.is
  where
    n : ℕ
    n = N.count

    top : n ≤ largest
    top = rep_largest n N.exact N.under

    room : (g n k a : ℕ) → n ≤ 9007199254740991 * a → k * 4 ≤ a → 0 < a → g * 2 ≤ (n + k) * 2 + a → g < 9007199254740992 * a
    room g n k a h i p l = omega arith

    small : (n k a : ℕ) → n ≤ 9007199254740991 * a → k * 4 ≤ a → 0 < a → n + k < 9007199254740992 * a
    small n k a h i p = omega arith

    four : k * 4 ≤ 2 ^ 2045
    four = mul-le-mul_right 4 K

    go : (s : Bool) → Val x s n → (s : Bool) × (n : ℕ) × Val (add binary64 x y) s n
    go false v = (false, G (n + k) (2 ^ 1074), add_same x y false n k v Y (room (G (n + k) (2 ^ 1074)) n k (2 ^ 2045) top four (pow_pos 2045) (R-error (n + k) 2045 (small n k (2 ^ 2045) top four (pow_pos 2045))).0))
    go true v =
        let w = apart x y true n k 9007199254740991 2045 (lit< tt) (lit< tt) v Y (le_trans top (le_add k largest)) (le_trans (le_trans K (lit≤ {m = 2 ^ 2043} {n = largest} tt)) (le_add n largest)) in
        (w.0, w.1, w.2)
      where
        le_add : (a b : ℕ) → b ≤ a + b
        le_add a b = omega arith
