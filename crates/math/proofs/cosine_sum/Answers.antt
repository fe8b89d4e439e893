-- `cosine_sum` meets its contract: each of its numbers is the coefficient.
use Rattle.std.proofs.Common.{sym, ◌∙◌}
use lib.Ieee.{binary64, mul, neg, of_bits}
use Rattle.math.specs.Carrier.{cosine_coefficient, horner_of, cosine_sum}
use Rattle.math.proofs.Literals.{cosine_0, cosine_1, cosine_2, cosine_3, cosine_4, cosine_5, cosine_6, cosine_7}
use Rattle.math.proofs.Horner.{horner_7}
use Rattle.math.proofs.cosine_sum.Goals as goal

pub returns : goal.returns
unfolding cosine_sum horner_of of_bits neg
returns c = c.polynomial.ensures ∙ sym (horner_7 cosine_coefficient (mul binary64 c.args.r c.args.r) cosine_0 cosine_1 cosine_2 cosine_3 cosine_4 cosine_5 cosine_6 cosine_7)
