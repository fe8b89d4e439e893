-- The reduction of a phase from -PI to PI: what is left is finite and at most PI / 4 in size, which is below 0.786.
use Rattle.std.proofs.Common.{◌≡◌, ℕ, ◌+◌, ◌*◌, ◌^◌, ◌<◌, ◌≤◌, Bool, true, false, cond, not, T, sym, refl, subst, le_of_lt, arith, lit<, ltb→lt, nltb→le}
use lib.Ieee.{Float, binary64, of_bits, add, sub, mul, div, neg, lt}
use Rattle.float_rounding.proofs.Val.{Val, neg_val}
use Rattle.math.specs.declared.Reduced.{Reduced}
use Rattle.math.specs.Phase.{pi}
use Rattle.math.specs.Carrier.{half_pi, outer_limit, inner_limit, reduced}
use Rattle.float_rounding.proofs.Compared.{lt_val}
use Rattle.float_rounding.proofs.More.{sub_is}
use Rattle.float_rounding.proofs.Size.{Within, apart}
use Rattle.math.proofs.Constants.{quarter_units, pi_units, pi_val, half_pi_val, outer_val, inner_val}

-- five values by four tests
cases : (Holds : Reduced → Type 0) (a b c d : Bool) (v w x y z : Reduced)
    → (T a → Holds v)
    → (T (not a) → T b → Holds w)
    → (T (not b) → T c → Holds x)
    → (T (not c) → T d → Holds y)
    → (T (not c) → T (not d) → Holds z)
    → Holds (cond a v (cond b w (cond c x (cond d y z))))
cases Holds true b c d v w x y z p q r s t = p tt
cases Holds false true c d v w x y z p q r s t = q tt tt
cases Holds false false true d v w x y z p q r s t = r tt tt
cases Holds false false false true v w x y z p q r s t = s tt tt
cases Holds false false false false v w x y z p q r s t = t tt tt

-- n within u of 4 u, and of 2 u
four : (u n k : ℕ) → k ≡ 4 * u → n ≤ k → 3 * u ≤ n → (n ≤ k + u) × (k ≤ n + u)
four u n k e a b = omega arith

two : (u n : ℕ) → u ≤ n → n ≤ 3 * u → (n ≤ 2 * u + u) × (2 * u ≤ n + u)
two u n a b = omega arith

module _ (p : Float) (n : ℕ) (N : n ≤ pi_units) where
  -- p + y, for a y of the other sign whose size is within a quarter of that of p
  near : (y : Float) (s : Bool) (k : ℕ) → Val p s n → Val y (not s) k → (n ≤ k + quarter_units) × (k ≤ n + quarter_units) → Within (add binary64 p y) quarter_units
  near y s k v w h = apart p y s n k 884279719003555 1024 (lit< tt) (lit< tt) v w h.0 h.1

  less : (y : Float) (k : ℕ) → Val p false n → Val y false k → (n ≤ k + quarter_units) × (k ≤ n + quarter_units) → Within (sub binary64 p y) quarter_units
  less y k v w h = subst (λ (x : Float). Within x quarter_units) (sym (sub_is p y)) (near (neg y) false k v (neg_val y false k w) h)

  by_sign : (s : Bool) → Val p s n → Within (reduced p).r quarter_units
  unfolding reduced
  by_sign true v =
      let outer = lt_val p (neg outer_limit) true true n (3 * quarter_units) v (neg_val outer_limit false (3 * quarter_units) outer_val) in
      let inner = lt_val p (neg inner_limit) true true n quarter_units v (neg_val inner_limit false quarter_units inner_val) in
      let above = lt_val p inner_limit true false n quarter_units v inner_val in
      cases (λ (x : Reduced). Within x.r quarter_units) (lt p (neg outer_limit)) (lt p (neg inner_limit)) (lt p inner_limit) (lt p outer_limit) _ _ _ _ _
      (λ a. near pi true pi_units v pi_val (four quarter_units n pi_units refl N (le_of_lt (ltb→lt (3 * quarter_units) n (subst T outer a)))))
      (λ a b. near half_pi true (2 * quarter_units) v half_pi_val (two quarter_units n (le_of_lt (ltb→lt quarter_units n (subst T inner b))) (nltb→le (3 * quarter_units) n (subst (λ (x : Bool). T (not x)) outer a))))
      (λ b c. (true, n, v, nltb→le quarter_units n (subst (λ (x : Bool). T (not x)) inner b)))
      (λ c d. absurd (none n quarter_units (lit< tt) (nltb→le 0 (n + quarter_units) (subst (λ (x : Bool). T (not x)) above c))))
      (λ c d. absurd (none n quarter_units (lit< tt) (nltb→le 0 (n + quarter_units) (subst (λ (x : Bool). T (not x)) above c))))
    where
      none : (n u : ℕ) → 0 < u → n + u ≤ 0 → ⊥
      none n u h l = omega arith
  by_sign false v =
      let outer = lt_val p (neg outer_limit) false true n (3 * quarter_units) v (neg_val outer_limit false (3 * quarter_units) outer_val) in
      let inner = lt_val p (neg inner_limit) false true n quarter_units v (neg_val inner_limit false quarter_units inner_val) in
      let above = lt_val p inner_limit false false n quarter_units v inner_val in
      let last = lt_val p outer_limit false false n (3 * quarter_units) v outer_val in
      cases (λ (x : Reduced). Within x.r quarter_units) (lt p (neg outer_limit)) (lt p (neg inner_limit)) (lt p inner_limit) (lt p outer_limit) _ _ _ _ _
      (λ a. absurd (subst T outer a))
      (λ a b. absurd (subst T inner b))
      (λ b c. (false, n, v, le_of_lt (ltb→lt n quarter_units (subst T above c))))
      (λ c d. less half_pi (2 * quarter_units) v half_pi_val (two quarter_units n (nltb→le n quarter_units (subst (λ (x : Bool). T (not x)) above c)) (le_of_lt (ltb→lt n (3 * quarter_units) (subst T last d)))))
      (λ c d. less pi pi_units v pi_val (four quarter_units n pi_units refl N (nltb→le n (3 * quarter_units) (subst (λ (x : Bool). T (not x)) last d))))

pub reduced_within : (p : Float) → Within p pi_units → Within (reduced p).r quarter_units
reduced_within p w = by_sign p w.1 w.3 w.0 w.2

-- PI / 4 is below 0.786
pub quarter_below : quarter_units * 1000 < 786 * 2 ^ 1074
quarter_below = lit< tt

-- PI itself, which `phase_wrap_f64` can give, leaves 0 in quadrant 2
pub reduced_at_pi : reduced pi ≡ record { r = of_bits binary64 0; q = 2 }
unfolding reduced pi half_pi outer_limit inner_limit of_bits add sub mul div neg lt
reduced_at_pi = refl
