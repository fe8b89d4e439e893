-- A float that its format holds is what it rounds to (`rounds_to_itself`), and its sum with -0.0 is the float (`plus_minus_zero`).
use Prim.Native.Nat.{ℕ, zero, suc, ◌+◌, ◌-◌, ◌*◌, ◌^◌, ◌≤◌, ◌<◌, zero-le}
use native.Mathlib.Nat.{mul-one, zero-mul, add-zero, sub-zero, mul_assoc, lt_of_lt_of_le, zero-lt-suc}
use native.Mathlib.Omega.{arith}
use mathlib.Core.Path.{◌≡◌, refl, sym, ap, ◌∙◌, subst}
use mathlib.Core.Bool.{Bool, true, false, cond, ◌&&◌}
use borrow.Author.Tests.{le-ltb}
use lib.IntN.{ℤ, pos, negsuc}
use lib.Dec.{T, ltb}
use lib.Pow.{pow-add, pow_pos, pow_mono, shl_lt}
use lib.Ieee.{Float, nan, inf, fin, Format, binary32, binary64, prec, emax, low, up, down, round, sum, add, fits}
use lib.Ieee.Exact.{HasValue, round_exact}
use lib.Ieee.Fits.{round-fits}
use Rattle.float_rounding.proofs.Pattern.{pow_le_back}
use Rattle.float_remainder.proofs.Unique.{is_short, is_coarse, is_under, zero_exponent, same_float}

-- ---- a value that fits is what it rounds to
rounds : (f : Format) (s : Bool) (m : ℕ) (e : ℤ) → T (fits f (fin s (suc m) e)) → HasValue (round f s (suc m * up e) (down e)) s (suc m * up e) (down e)
rounds f s m (pos k) t =
    round_exact f s (suc m * 2 ^ k) 1 (suc m) (k + low f) (zero-lt-suc 0) (is_short f s m (pos k) t)
    (subst (λ (x : ℕ). x < 2 ^ (low f + suc (emax f))) (sym (grown (suc m))) (bound (suc m * 2 ^ k) (is_under f s m (pos k) t)))
    (grown_too (suc m))
  where
    grown : (q : ℕ) → q * 2 ^ (k + low f) ≡ q * 2 ^ k * 2 ^ low f
    grown q = ap (λ (x : ℕ). q * x) (pow-add 2 k (low f)) ∙ sym (mul_assoc q (2 ^ k) (2 ^ low f))

    grown_too : (q : ℕ) → q * 2 ^ k * 2 ^ low f ≡ q * 2 ^ (k + low f) * 1
    grown_too q = sym (grown q) ∙ sym (mul-one (q * 2 ^ (k + low f)))

    bound : (x : ℕ) → x < 2 ^ suc (emax f) * 1 → x * 2 ^ low f < 2 ^ (low f + suc (emax f))
    bound x h = subst (λ (y : ℕ). x * 2 ^ low f < 2 ^ y) (plus (suc (emax f)) (low f)) (shl_lt (suc (emax f)) (low f) (subst (λ (y : ℕ). x < y) (mul-one (2 ^ suc (emax f))) h))
      where
        plus : (i j : ℕ) → i + j ≡ j + i
        plus i j = omega arith
rounds f s m (negsuc k) t =
    round_exact f s (suc m * 1) (2 ^ suc k) (suc m) (low f - suc k) (pow_pos (suc k)) (is_short f s m (negsuc k) t) bound exact
  where
    fine : suc k ≤ low f
    fine = pow_le_back (suc k) (low f) (is_coarse f s m (negsuc k) t)

    split : 2 ^ low f ≡ 2 ^ (low f - suc k) * 2 ^ suc k
    split = ap (λ (x : ℕ). 2 ^ x) (sym (back (low f) (suc k) fine)) ∙ pow-add 2 (low f - suc k) (suc k)
      where
        back : (i j : ℕ) → j ≤ i → i - j + j ≡ i
        back i j h = omega arith

    exact : suc m * 1 * 2 ^ low f ≡ suc m * 2 ^ (low f - suc k) * 2 ^ suc k
    exact = ap (λ (x : ℕ). x * 2 ^ low f) (mul-one (suc m)) ∙ ap (λ (x : ℕ). suc m * x) split ∙ sym (mul_assoc (suc m) (2 ^ (low f - suc k)) (2 ^ suc k))

    bound : suc m * 2 ^ (low f - suc k) < 2 ^ (low f + suc (emax f))
    bound = lt_of_lt_of_le (subst (λ (y : ℕ). suc m * 2 ^ (low f - suc k) < 2 ^ y) refl (shl_lt (prec f) (low f - suc k) (is_short f s m (negsuc k) t))) (pow_mono (few f (low f) k))
      where
        few : (f : Format) (l k : ℕ) → prec f + (l - suc k) ≤ l + suc (emax f)
        few binary32 l k = omega arith
        few binary64 l k = omega arith

pub rounds_to_itself : (f : Format) (s : Bool) (m : ℕ) (e : ℤ) → T (fits f (fin s m e)) → round f s (m * up e) (down e) ≡ fin s m e
rounds_to_itself f s zero e t = nothing f s e (zero_exponent f s e t)
  where
    nothing : (f : Format) (s : Bool) (e : ℤ) → e ≡ pos 0 → round f s (zero * up e) (down e) ≡ fin s zero e
    nothing f s e h = ap (λ (z : ℤ). round f s (zero * up z) (down z)) h ∙ closed f s ∙ ap (λ (z : ℤ). fin s zero z) (sym h)
      where
        closed : (f : Format) (s : Bool) → round f s 0 1 ≡ fin s 0 (pos 0)
        closed binary32 true = unfold round in refl
        closed binary32 false = unfold round in refl
        closed binary64 true = unfold round in refl
        closed binary64 false = unfold round in refl
rounds_to_itself f s (suc m) e t = same_float f s m e (round f s (suc m * up e) (down e)) t (round-fits f s (suc m * up e) (down e)) (rounds f s m e t)

-- ---- the sum with -0.0
pub plus_minus_zero : (f : Format) (x : Float) → T (fits f x) → add f x (fin true 0 (pos 0)) ≡ x
unfolding add sum
plus_minus_zero f nan t = refl
plus_minus_zero f (inf s) t = refl
plus_minus_zero f (fin true m e) t = (λ i. round f true (mul-one (m * up e) i + zero-mul (down e) i) (mul-one (down e) i)) ∙ ap (λ (x : ℕ). round f true x (down e)) (add-zero (m * up e)) ∙ rounds_to_itself f true m e t
plus_minus_zero f (fin false m e) t =
    ap (λ (b : Bool). cond b (round f true (0 * down e - m * up e * 1) (down e * 1)) (round f (false && ltb (0 * down e) (m * up e * 1)) (m * up e * 1 - 0 * down e) (down e * 1))) less
    ∙ (λ i. round f false (mul-one (m * up e) i - zero-mul (down e) i) (mul-one (down e) i)) ∙ ap (λ (x : ℕ). round f false x (down e)) (sub-zero (m * up e)) ∙ rounds_to_itself f false m e t
  where
    less : ltb (m * up e * 1) (0 * down e) ≡ false
    less = ap (λ (x : ℕ). ltb (m * up e * 1) x) (zero-mul (down e)) ∙ le-ltb (m * up e * 1) 0 zero-le
