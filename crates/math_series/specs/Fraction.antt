-- Fractions of whole numbers with a sign: sum, product, order and distance, and the value of a float as such a fraction.
use Rattle.std.specs.Prelude.{ℕ, ◌+◌, ◌*◌, ◌≤◌, ◌<◌, Bool, true, false, Float}
use Rattle.std.proofs.Common.{mul-pos, zero-lt-suc}
use Rattle.std.specs.Float.{nan, inf, fin}
use Rattle.std.specs.Float.Ieee.{up, down}
use Rattle.std.specs.Float.Ieee.Fits.{down_pos}

-- (plus - minus) / den
pub record Fraction : Type 0 where
  pub plus : ℕ
  pub minus : ℕ
  pub den : ℕ
  pub above : 0 < den

-- a / b, for a b above 0
abbrev pub over : (a b : ℕ) → 0 < b → Fraction
over a b B = record { plus = a; minus = 0; den = b; above = B }

abbrev pub nought : Fraction
nought = over 0 1 (zero-lt-suc 0)

abbrev pub one : Fraction
one = over 1 1 (zero-lt-suc 0)

abbrev pub opposite : Fraction → Fraction
opposite x = record { plus = x.minus; minus = x.plus; den = x.den; above = x.above }

infixl 60 ◌⊕◌
abbrev pub ◌⊕◌ : Fraction → Fraction → Fraction
x ⊕ y = record { plus = x.plus * y.den + y.plus * x.den; minus = x.minus * y.den + y.minus * x.den; den = x.den * y.den; above = mul-pos x.above y.above }

infixl 70 ◌⊗◌
abbrev pub ◌⊗◌ : Fraction → Fraction → Fraction
x ⊗ y = record { plus = x.plus * y.plus + x.minus * y.minus; minus = x.plus * y.minus + x.minus * y.plus; den = x.den * y.den; above = mul-pos x.above y.above }

-- x is at most y: the two brought to one denominator, and what is subtracted moved to the other side
infix 40 ◌⊑◌
pub record ◌⊑◌ (x y : Fraction) : Type 0 where
  pub le : x.plus * y.den + y.minus * x.den ≤ y.plus * x.den + x.minus * y.den

-- x and y are at most d apart
pub record Within (d x y : Fraction) : Type 0 where
  pub no_more : x ⊑ y ⊕ d
  pub no_less : y ⊑ x ⊕ d

-- a / b with a sign, which is true for negative
abbrev pub signed : Bool → (a b : ℕ) → 0 < b → Fraction
signed false a b B = over a b B
signed true a b B = opposite (over a b B)

-- The value of a finite float: `fin s m e` is m times 2^e with the sign s, and 2^e is up e / down e. A NaN and an infinity have none, and are given 0 here: a
-- claim on a value says beside it that the float is finite.
unfoldable pub value : Float → Fraction
value nan = nought
value (inf s) = nought
value (fin s m e) = signed s (m * up e) (down e) (down_pos e)
