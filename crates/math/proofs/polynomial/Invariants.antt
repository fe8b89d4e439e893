-- What is left of the coefficients, from the sum so far, is the whole sum.
use Rattle.std.proofs.Common.{◌≡◌, drop}
use Rattle.math.specs.Carrier.{horner_of}
use Rattle.math.proofs.polynomial.Given as goal

abbrev pub invariant-loop-a : goal.invariant-loop-a
invariant-loop-a l = horner_of l.sum (drop l.a-index l.others) l.z ≡ horner_of l.fn.highest l.others l.z
