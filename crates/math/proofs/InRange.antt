-- From -b to b by the language's comparisons is finite and at most b units in size (`within-of-tests`, `tests-of-within`), and the laws of the wraps in
-- those terms: every finite phase wraps to -PI to PI, and so does one from -2 PI to 2 PI once wrapped.
use Rattle.std.proofs.Common.{◌≡◌, ℕ, ◌+◌, ◌*◌, ◌≤◌, Bool, true, false, ◌||◌, T, refl, arith, lit<}
use lib.Ieee.{Float, nan, inf, fin, binary64, add, neg, lt, eq, le, fits}
use lib.Ieee.Scale.{finite}
use Rattle.float_rounding.proofs.Val.{Val, neg_val, le_val, val_le}
use Rattle.math.specs.Phase.{pi, two_pi, phase_wrap, phase_wrap_once}
use Rattle.float_rounding.proofs.Size.{Within, number, sum_within}
use Rattle.math.proofs.Constants.{pi_units, two_pi_units, pi_val, two_pi_val}
use Rattle.math.proofs.Wrapped.{wrapped, once_wrapped}

-- x lies from -b to b
abbrev pub Between : Float → Float → Type 0
Between b x = T (le (neg b) x) × T (le x b)

pub lt→le : (x y : Float) → T (lt x y) → T (le x y)
unfolding le
lt→le x y t = go (lt x y) t
  where
    go : (a : Bool) → T a → T (a || eq x y)
    go true t = tt
    go false t = absurd t

-- ---- the tests give the bound
pub finite_of_tests : (x b : Float) (k : ℕ) → Val b false k → Between b x → T (finite x)
unfolding le lt eq neg
finite_of_tests x nan k v t = absurd v
finite_of_tests x (inf s) k v t = absurd v
finite_of_tests nan (fin s m e) k v t = t.1
finite_of_tests (inf true) (fin s m e) k v t = t.0
finite_of_tests (inf false) (fin s m e) k v t = t.1
finite_of_tests (fin u i d) (fin s m e) k v t = tt

pub within_of_tests : (x b : Float) (k : ℕ) → T (fits binary64 x) → Val b false k → Between b x → Within x k
within_of_tests x b k F v t =
    let N = number x F (finite_of_tests x b k v t) in
    (N.sign, N.count, N.is, go N.sign N.count N.is)
  where
    go : (s : Bool) (n : ℕ) → Val x s n → n ≤ k
    go false n w = le_val x b false false n k w v t.1
    go true n w = le_val (neg b) x true true k n (neg_val b false k v) w t.0

-- ---- and the bound the tests
pub tests_of_within : (x b : Float) (k : ℕ) → Val b false k → Within x k → Between b x
tests_of_within x b k v w = go w.0 w.2
  where
    n : ℕ
    n = w.1

    go : (s : Bool) → Val x s n → Between b x
    go false u = (val_le (neg b) x true false k n (neg_val b false k v) u tt, val_le x b false false n k u v w.3)
    go true u = (val_le (neg b) x true true k n (neg_val b false k v) u w.3, val_le x b true false n k u v tt)

-- ---- the wraps
pub wrapped_in_range : (x : Float) → T (fits binary64 x) → T (finite x) → Between pi (phase_wrap x)
wrapped_in_range x F h = tests_of_within (phase_wrap x) pi pi_units pi_val (wrapped x F h)

pub once_in_range : (x : Float) → T (fits binary64 x) → Between two_pi x → Between pi (phase_wrap_once x)
once_in_range x F t = tests_of_within (phase_wrap_once x) pi pi_units pi_val (once_wrapped x (within_of_tests x two_pi two_pi_units F two_pi_val t))

-- a phase and a step, each from -PI to PI, summed and wrapped once
pub stepped_within : (p r : Float) → Within p pi_units → Within r pi_units → Within (phase_wrap_once (add binary64 p r)) pi_units
stepped_within p r P R = once_wrapped (add binary64 p r) (sum_within p r pi_units pi_units 884279719003555 1027 (lit< tt) (lit< tt) P R (twice pi_units two_pi_units refl))
  where
    twice : (p q : ℕ) → q ≡ 2 * p → p + p ≤ q
    twice p q e = omega arith
