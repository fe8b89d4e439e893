-- `sine_sum` meets its contract: each of its numbers is the coefficient.
use Rattle.std.proofs.Common.{sym, ap, ◌∙◌}
use lib.Ieee.{binary64, mul, neg, of_bits}
use Rattle.math.specs.Carrier.{sine_coefficient, horner_of, sine_sum}
use Rattle.math.proofs.Literals.{sine_0, sine_1, sine_2, sine_3, sine_4, sine_5, sine_6}
use Rattle.math.proofs.Horner.{horner_6}
use Rattle.math.proofs.sine_sum.Goals as goal

pub returns : goal.returns
unfolding sine_sum horner_of of_bits neg
returns c = ap (mul binary64 c.args.r) (c.polynomial.ensures ∙ sym (horner_6 sine_coefficient (mul binary64 c.args.r c.args.r) sine_0 sine_1 sine_2 sine_3 sine_4 sine_5 sine_6))
