-- A float's value as a signed fraction, and distances carried over from sizes to values.
use mathlib.Core.Path.{◌≡◌, refl, sym, ap, ◌∙◌, subst}
use Prim.Native.Nat.{ℕ, ◌+◌, ◌*◌, ◌<◌}
use native.Mathlib.Nat.{le_trans, le_of_eq, zero-mul, mul-zero, add-zero, zero-add}
use mathlib.Core.Bool.{Bool, true, false}
use lib.Ieee.{Float, nan, inf, fin, up, down, neg}
use lib.Ieee.Exact.{HasValue}
use lib.Ieee.Fits.{down_pos}
use Rattle.math_series.specs.Fraction.{Fraction, over, opposite, ◌⊕◌, ◌⊗◌, ◌⊑◌, Within, signed, value}
use Rattle.math_series.proofs.Ratio.{Ratio, ◌≤r◌, ◌+r◌, ◌*r◌, Near}
use Rattle.math_series.proofs.Signed.{◌≈◌, ≈-sym, ≈-trans, opposite_cong, ⊗-comm, ⊗-opposite, within_opposite}
use Rattle.math_series.proofs.Alternating.{plain, plain_times}

-- a size with a sign
abbrev pub with_sign : Bool → Ratio → Fraction
with_sign s x = signed s x.num x.den x.pos

pub value_is : (x : Float) (s : Bool) (a c : ℕ) (C : 0 < c) → HasValue x s a c → value x ≈ signed s a c C
unfolding value
value_is nan s a c C v = absurd v
value_is (inf t) s a c C v = absurd v
value_is (fin t m e) s a c C v = subst (λ (b : Bool). signed t (m * up e) (down e) (down_pos e) ≈ signed b a c C) v.0 (go t)
  where
    cross : (a b c d : ℕ) → a * d ≡ c * b → a * d + 0 * b ≡ c * b + 0 * d
    cross a b c d e = ap (λ (t : ℕ). a * d + t) (zero-mul b) ∙ add-zero (a * d) ∙ e ∙ sym (ap (λ (t : ℕ). c * b + t) (zero-mul d) ∙ add-zero (c * b))

    positive : value (fin false m e) ≈ over a c C
    positive = record { same = cross (m * up e) (down e) a c v.1 }

    go : (t : Bool) → value (fin t m e) ≈ signed t a c C
    go false = positive
    go true = opposite_cong positive

pub value_neg : (x : Float) → value (neg x) ≈ opposite (value x)
unfolding value neg
value_neg nan = record { same = refl }
value_neg (inf s) = record { same = refl }
value_neg (fin false m e) = record { same = refl }
value_neg (fin true m e) = record { same = refl }

-- ---- products
pub sign_times : (s : Bool) (x y : Ratio) → (with_sign s x ⊗ plain y) ≈ with_sign s (x *r y)
sign_times false x y = ≈-sym (plain_times x y)
sign_times true x y = ≈-trans (⊗-comm (opposite (plain x)) (plain y)) (≈-trans (⊗-opposite (plain y) (plain x)) (opposite_cong (≈-trans (⊗-comm (plain y) (plain x)) (≈-sym (plain_times x y)))))

pub sign_square : (s : Bool) (x : Ratio) → (with_sign s x ⊗ with_sign s x) ≈ plain (x *r x)
sign_square false x = ≈-sym (plain_times x x)
sign_square true x = record { same = go x.num x.den }
  where
    go : (a b : ℕ) → (0 * 0 + a * a) * (b * b) + 0 * (b * b) ≡ a * a * (b * b) + (0 * a + a * 0) * (b * b)
    go a b = simp (mul-zero, zero-mul, add-zero, zero-add)

-- ---- distances
plain_sum : (x y d : Ratio) → x ≤r (y +r d) → plain x ⊑ plain y ⊕ plain d
plain_sum x y d h = record { le = le_trans (le_of_eq (l (x.num * (y.den * d.den)) y.den d.den x.den)) (le_trans h.le (le_of_eq (sym (r ((y.num * d.den + d.num * y.den) * x.den) (y.den * d.den))))) }
  where
    l : (a b c d : ℕ) → a + (0 * c + 0 * b) * d ≡ a
    l a b c d = simp (zero-mul, add-zero)

    r : (a b : ℕ) → a + 0 * b ≡ a
    r a b = simp (zero-mul, add-zero)

pub sign_within : (s : Bool) (x y d : Ratio) → Near x y d → Within (plain d) (with_sign s x) (with_sign s y)
sign_within false x y d h = record { no_more = plain_sum x y d h.above; no_less = plain_sum y x d h.below }
sign_within true x y d h = within_opposite (record { no_more = plain_sum x y d h.above; no_less = plain_sum y x d h.below })
