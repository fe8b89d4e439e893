-- Sums with zeros, of floats that their format holds: 0.0 and a number that is not -0.0 are that number (`zero_plus`), as any number and -0.0 are. So a number added to 0.0, and then another that is not -0.0, are the second and the first (`either_way`).
use Prim.Native.Nat.{ℕ, zero, suc, ◌+◌, ◌-◌, ◌*◌, ◌<◌}
use native.Mathlib.Nat.{mul-one, one-mul, zero-mul, zero-add, sub-zero, mul-pos, zero-lt-suc}
use mathlib.Core.Path.{◌≡◌, refl, sym, ap, ◌∙◌, subst}
use mathlib.Core.Bool.{Bool, true, false, not, cond, ◌&&◌}
use mathlib.Core.Logic.{◌≢◌, ◌⊎◌, inl, inr}
use lib.IntN.{ℤ}
use lib.Dec.{T, ltb, lt→ltb}
use lib.Ieee.{Float, nan, inf, fin, binary32, up, down, round, sum, add, fits}
use lib.Ieee.Bits.{is_true}
use lib.Ieee.Fits.{up_pos}
use Rattle.float_remainder.proofs.Unique.{zero_exponent}
use Rattle.float_remainder.proofs.Itself.{rounds_to_itself, plus_minus_zero}
use Rattle.run_theory.specs.FloatGenerator.{nought}
use Rattle.single_theorem.specs.Agreement.{minus_zero}
use Rattle.single_theory.proofs.Sums.{plus_comm}

pub zero_plus : (x : Float) → T (fits binary32 x) → x ≢ minus_zero → add binary32 nought x ≡ x
unfolding add sum
zero_plus nan t h = refl
zero_plus (inf s) t h = refl
zero_plus (fin false n d) t h =
    (λ i. round binary32 false (zero-mul (down d) i + n * up d * 1) (one-mul (down d) i)) ∙ (λ i. round binary32 false ((zero-add (n * up d * 1) ∙ mul-one (n * up d)) i) (down d)) ∙ rounds_to_itself binary32 false n d t
zero_plus (fin true zero d) t h = absurd (h (ap (λ (z : ℤ). fin true zero z) (zero_exponent binary32 true d t)))
zero_plus (fin true (suc n) d) t h =
    ap (λ (b : Bool). cond b (round binary32 true (suc n * up d * 1 - 0 * down d) (1 * down d)) (round binary32 (false && ltb (suc n * up d * 1) (0 * down d)) (0 * down d - suc n * up d * 1) (1 * down d))) some
    ∙ (λ i. round binary32 true (mul-one (suc n * up d) i - zero-mul (down d) i) (one-mul (down d) i)) ∙ ap (λ (x : ℕ). round binary32 true x (down d)) (sub-zero (suc n * up d)) ∙ rounds_to_itself binary32 true (suc n) d t
  where
    some : ltb (0 * down d) (suc n * up d * 1) ≡ true
    some = is_true (ltb (0 * down d) (suc n * up d * 1)) (lt→ltb (0 * down d) (suc n * up d * 1) (subst (λ (x : ℕ). x < suc n * up d * 1) (sym (zero-mul (down d))) (mul-pos (mul-pos (zero-lt-suc n) (up_pos d)) (zero-lt-suc 0))))

-- 0.0 and -0.0 are 0.0
zeros_are : add binary32 nought minus_zero ≡ nought
unfolding add sum round
zeros_are = refl

-- what -0.0 is not
abbrev NotFinite : Float → Type 0
NotFinite nan = Unit {0}
NotFinite (inf s) = Unit {0}
NotFinite (fin s m e) = ⊥

abbrev Clear : Float → Type 0
Clear nan = ⊥
Clear (inf s) = ⊥
Clear (fin s m e) = T (not s)

abbrev Sized : Float → Type 0
Sized nan = ⊥
Sized (inf s) = ⊥
Sized (fin s m e) = T (ltb 0 m)

is_minus_zero : (x : Float) → T (fits binary32 x) → (x ≡ minus_zero) ⊎ (x ≢ minus_zero)
is_minus_zero nan t = inr (λ e. subst NotFinite e tt)
is_minus_zero (inf s) t = inr (λ e. subst NotFinite e tt)
is_minus_zero (fin false m e) t = inr (λ q. subst Clear q tt)
is_minus_zero (fin true zero e) t = inl (ap (λ (z : ℤ). fin true zero z) (zero_exponent binary32 true e t))
is_minus_zero (fin true (suc m) e) t = inr (λ q. subst Sized q (lt→ltb 0 (suc m) (zero-lt-suc m)))

pub either_way : (z w : Float) → T (fits binary32 z) → T (fits binary32 w) → w ≢ minus_zero → add binary32 (add binary32 nought z) w ≡ add binary32 w z
either_way z w p q h = elim (is_minus_zero z p) [
  | inl e ↦ ap (λ (x : Float). add binary32 x w) (ap (λ (y : Float). add binary32 nought y) e ∙ zeros_are) ∙ zero_plus w q h ∙ sym (ap (λ (y : Float). add binary32 w y) e ∙ plus_minus_zero binary32 w q)
  | inr k ↦ ap (λ (x : Float). add binary32 x w) (zero_plus z p k) ∙ plus_comm binary32 z w
]
