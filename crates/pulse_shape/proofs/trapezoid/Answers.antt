-- `trapezoid` meets its contract, whatever the length and the edges.
use Rattle.std.proofs.Common.{arith}
use Rattle.pulse_shape.proofs.Fill.{filled}
use Rattle.pulse_shape.proofs.trapezoid.Goals as goal

pub returns : goal.returns
returns g c = filled _ c.loop-j.x-items g.row.N c.loop-j.invariant.0 (λ k h. c.loop-j.invariant.1 k (omega arith))
