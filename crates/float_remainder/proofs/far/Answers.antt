-- `far` meets its contract: what is left at the end is the remainder. The search finds the rest.
use Rattle.float_remainder.proofs.Steps.{all_taken}
use Rattle.float_remainder.proofs.far.Goals as goal

pub returns : goal.returns
returns c = all_taken _ _ _ _ c.loop-i.invariant c.loop-i-test.false c.well_formed.0.1
