-- `convolution` meets its contract.
use Rattle.std.proofs.Common.{arith, length}
use Rattle.pulse_shape.proofs.Fill.{filled}
use Rattle.pulse_shape.proofs.convolution.Goals as goal

pub returns : goal.returns
returns c = filled _ c.loop-j.out (length c.args.out.now) (omega arith) (λ k h. c.loop-j.invariant k (omega arith))
