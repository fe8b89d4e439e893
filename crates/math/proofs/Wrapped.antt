-- The wraps keep a finite phase finite and bring it within PI of 0: `wrapped` for every finite phase, `once-wrapped` for one within 2 PI.
-- PI itself is reached (`wraps-to-pi`), though math.rs says "[-pi, pi)".
use Rattle.std.proofs.Common.{◌≡◌, ℕ, ◌+◌, ◌-◌, ◌*◌, ◌%◌, ◌^◌, ◌<◌, ◌≤◌, Bool, true, false, cond, not, ◌||◌, T, sym, refl, subst, inl, inr, zero-le, le_trans, lt_of_le_of_lt, le_of_lt, mul-le-mul_right, mod-lt, eq-or-lt_of_le, sub-le, arith, lit<, lit≤, ltb→lt, nltb→le, pow_pos}
use lib.Ieee.{Float, binary64, of_bits, add, sub, mul, neg, rem, lt, le, below, level, fits}
use lib.Ieee.Scale.{finite}
use Rattle.float_rounding.proofs.Units.{G, G-le, Units}
use Rattle.float_rounding.proofs.More.{sub_all, sub_negative, sub_is}
use Rattle.float_rounding.proofs.Val.{Val, val_units, minus_zero_lem, neg_val, add_opposite_r}
use Rattle.math.specs.Phase.{pi, two_pi, rem_euclid, phase_wrap, phase_wrap_once}
use Rattle.float_rounding.proofs.Order.{le_out, le_out_no}
use Rattle.float_rounding.proofs.Compared.{lt_val, le_val, no_level}
use Rattle.float_rounding.proofs.Size.{Within, Number, number, units_within, apart, add_equal, add_small, le_or_lt, largest, rep_largest}
use Rattle.float_rounding.proofs.Remainder.{rem_val}
use Rattle.math.proofs.Constants.{pi_units, two_pi_units, pi_val, minus_pi_val, two_pi_val}

-- ---- `phase_wrap_f64`
zero_is : Val (of_bits binary64 0) false 0
unfolding of_bits
zero_is = (refl, refl)

-- a remainder of at most 2 PI in size, with 2 PI added if it is negative
made_positive : (x : Float) (s : Bool) (g : ℕ) → Val x s g → g ≤ two_pi_units → (m : ℕ) × Units (cond (lt x (of_bits binary64 0)) (add binary64 x two_pi) x) m × (m ≤ two_pi_units)
made_positive x s g v h = go s (lt x (of_bits binary64 0)) (lt_val x (of_bits binary64 0) s false g 0 v zero_is) v
  where
    nothing : (g : ℕ) → g + 0 ≤ 0 → g ≡ 0
    nothing g h = omega arith

    none : (g : ℕ) → g < 0 → ⊥
    none g h = omega arith

    go : (s t : Bool) → t ≡ below s g false 0 → Val x s g → (m : ℕ) × Units (cond t (add binary64 x two_pi) x) m × (m ≤ two_pi_units)
    go false true e v = absurd (none g (ltb→lt g 0 (subst T e tt)))
    go false false e v = (g, val_units x g v, h)
    go true false e v =
        (0, minus_zero_lem x (subst (λ (i : ℕ). Val x true i) (nothing g (nltb→le 0 (g + 0) (subst (λ (b : Bool). T (not b)) e tt))) v), zero-le)
    go true true e v = elim (eq-or-lt_of_le h) [
      | inl d ↦ (0, val_units (add binary64 x two_pi) 0 (add_equal x two_pi true g v (subst (λ (i : ℕ). Val two_pi false i) (sym d) two_pi_val)), zero-le)
      | inr l ↦
          let b = G-le (two_pi_units - g) (2 ^ 1074) 884279719003555 1027 (pow_pos 1074) (lit< tt) (mul-le-mul_right (2 ^ 1074) (sub-le two_pi_units g)) in
          (G (two_pi_units - g) (2 ^ 1074), val_units (add binary64 x two_pi) (G (two_pi_units - g) (2 ^ 1074)) (add_opposite_r x two_pi false g two_pi_units v two_pi_val l (lt_of_le_of_lt b (lit< tt))), b)
    ]

remainder : (x : Float) (s : Bool) (n : ℕ) → Val x s n → (m : ℕ) × Units (rem_euclid x two_pi) m × (m ≤ two_pi_units)
unfolding rem_euclid
remainder x s n v =
    let b : G (n % two_pi_units) (2 ^ 1074) ≤ two_pi_units = G-le (n % two_pi_units) (2 ^ 1074) 884279719003555 1027 (pow_pos 1074) (lit< tt) (mul-le-mul_right (2 ^ 1074) (le_of_lt (mod-lt n (lit< tt)))) in
    made_positive (rem binary64 x two_pi) s (G (n % two_pi_units) (2 ^ 1074)) (rem_val x two_pi s false n two_pi_units v two_pi_val (lit< tt) (lt_of_le_of_lt b (lit< tt))) b

less_pi : (x : Float) (m : ℕ) → Units x m → m ≤ two_pi_units → Within (sub binary64 x pi) pi_units
less_pi x m u h = elim (le_or_lt pi_units m) [
  | inl l ↦
      let b = G-le (m - pi_units) (2 ^ 1074) 884279719003555 1026 (pow_pos 1074) (lit< tt) (mul-le-mul_right (2 ^ 1074) (diff m pi_units two_pi_units refl h)) in
      units_within (sub binary64 x pi) (G (m - pi_units) (2 ^ 1074)) pi_units (sub_all x pi m pi_units u (val_units pi pi_units pi_val) l (lt_of_le_of_lt b (lit< tt))) b
  | inr l ↦
      let b = G-le (pi_units - m) (2 ^ 1074) 884279719003555 1026 (pow_pos 1074) (lit< tt) (mul-le-mul_right (2 ^ 1074) (sub-le pi_units m)) in
      (true, G (pi_units - m) (2 ^ 1074), sub_negative x pi m pi_units u (val_units pi pi_units pi_val) l (lt_of_le_of_lt b (lit< tt)), b)
]
  where
    diff : (m p q : ℕ) → q ≡ 2 * p → m ≤ q → m - p ≤ p
    diff m p q e h = omega arith

pub wrapped : (x : Float) → T (fits binary64 x) → T (finite x) → Within (phase_wrap x) pi_units
unfolding phase_wrap
wrapped x F h =
    let a = add_small x pi pi_units (number x F h) pi_val (lit≤ tt) in
    let r = remainder (add binary64 x pi) a.0 a.1 a.2 in
    less_pi (rem_euclid (add binary64 x pi) two_pi) r.0 r.1 r.2

-- ---- `phase_wrap_once_f64`
-- its three cases, by the sign and the size of the phase
once_cases : (Holds : Float → Type 0) (x : Float) (s : Bool) (n : ℕ) → Val x s n
    → (Val x false n → pi_units ≤ n → Holds (sub binary64 x two_pi))
    → (Val x true n → pi_units < n → Holds (add binary64 x two_pi))
    → (n ≤ pi_units → Holds x)
    → Holds (phase_wrap_once x)
unfolding phase_wrap_once
once_cases Holds x s n v high low mid = go s v (le pi x) (le_val pi x false s pi_units n pi_val v) (lt x (neg pi)) (lt_val x (neg pi) s true n pi_units v minus_pi_val)
  where
    go : (s : Bool) → Val x s n → (a : Bool) → a ≡ (below false pi_units s n || level false pi_units s n) → (b : Bool) → b ≡ below s n true pi_units → Holds (cond a (sub binary64 x two_pi) (cond b (add binary64 x two_pi) x))
    go false v true e b f = high v (le_out false pi_units false n (subst T e tt))
    go false v false e true f = absurd (subst T f tt)
    go false v false e false f = mid (le_of_lt (le_out_no pi_units n (subst (λ (t : Bool). T (not t)) e tt)))
    go true v true e b f = absurd (no_level pi_units n (lit< tt) (subst T e tt))
    go true v false e true f = low v (ltb→lt pi_units n (subst T f tt))
    go true v false e false f = mid (nltb→le pi_units n (subst (λ (t : Bool). T (not t)) f tt))

pub once_wrapped : (x : Float) → Within x two_pi_units → Within (phase_wrap_once x) pi_units
once_wrapped x w =
    once_cases (λ (y : Float). Within y pi_units) x w.0 n w.2
    (λ v l. subst (λ (y : Float). Within y pi_units) (sym (sub_is x two_pi)) (apart x (neg two_pi) false n two_pi_units 884279719003555 1026 (lit< tt) (lit< tt) v (neg_val two_pi false two_pi_units two_pi_val) (near n pi_units two_pi_units w.3) (far n pi_units two_pi_units refl l)))
    (λ v l. apart x two_pi true n two_pi_units 884279719003555 1026 (lit< tt) (lit< tt) v two_pi_val (near n pi_units two_pi_units w.3) (far n pi_units two_pi_units refl (le_of_lt l)))
    (λ h. (w.0, n, w.2, h))
  where
    n : ℕ
    n = w.1

    near : (n p q : ℕ) → n ≤ q → n ≤ q + p
    near n p q h = omega arith

    far : (n p q : ℕ) → q ≡ 2 * p → p ≤ n → q ≤ n + p
    far n p q e h = omega arith

pub once_finite : (x : Float) → T (fits binary64 x) → T (finite x) → Within (phase_wrap_once x) largest
once_finite x F h =
    once_cases (λ (y : Float). Within y largest) x N.sign n N.is
    (λ v l. subst (λ (y : Float). Within y largest) (sym (sub_is x two_pi)) (apart x (neg two_pi) false n two_pi_units 9007199254740991 2045 (lit< tt) (lit< tt) v (neg_val two_pi false two_pi_units two_pi_val) (le_trans top (more two_pi_units largest)) (le_trans small (more n largest))))
    (λ v l. apart x two_pi true n two_pi_units 9007199254740991 2045 (lit< tt) (lit< tt) v two_pi_val (le_trans top (more two_pi_units largest)) (le_trans small (more n largest)))
    (λ l. (N.sign, n, N.is, top))
  where
    N : Number x
    N = number x F h

    n : ℕ
    n = N.count

    top : n ≤ largest
    top = rep_largest n N.exact N.under

    small : two_pi_units ≤ largest
    small = lit≤ tt

    more : (a b : ℕ) → b ≤ a + b
    more a b = omega arith

-- ---- one unit in the last place below -PI the wrap gives PI itself
pub wraps_to_pi : phase_wrap (neg (of_bits binary64 0x4009_21fb_5444_2d19)) ≡ pi
unfolding phase_wrap rem_euclid pi two_pi of_bits add sub mul neg rem lt
wraps_to_pi = refl

-- and -0.0 wraps to +0.0
pub wraps_minus_zero : phase_wrap (neg (of_bits binary64 0)) ≡ of_bits binary64 0
unfolding phase_wrap rem_euclid pi two_pi of_bits add sub mul neg rem lt
wraps_minus_zero = refl
