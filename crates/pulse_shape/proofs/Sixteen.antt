-- Within 16 in size, as `floats` tests it, is the two comparisons of the definition.
use Rattle.std.proofs.Common.{◌≡◌, Bool, true, false, ◌&&◌, sym, refl, ◌∙◌}
use lib.Ieee.{Float, le, neg}
use Rattle.floats.specs.Range.{within}
use Rattle.floats.proofs.Ranges.{within_test}
use Rattle.pulse_shape.specs.Accepted.{sixteen, within16}

and_true : (b : Bool) → (b && true) ≡ b
and_true true = refl
and_true false = refl

and_false : (b : Bool) → (b && false) ≡ false
and_false true = refl
and_false false = refl

pub within_sixteen : (x : Float) → within x sixteen ≡ within16 x
unfolding within16
within_sixteen x = go (le x sixteen) refl
  where
    go : (b : Bool) → le x sixteen ≡ b → within x sixteen ≡ (le (neg sixteen) x && le x sixteen)
    go true e = sym ((λ i. le (neg sixteen) x && e i) ∙ (and_true (le (neg sixteen) x) ∙ (within_test x sixteen).0 e))
    go false e = sym ((λ i. le (neg sixteen) x && e i) ∙ (and_false (le (neg sixteen) x) ∙ (within_test x sixteen).1 e))
