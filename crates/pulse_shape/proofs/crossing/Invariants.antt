-- The first crossing of what is left is that of the whole.
use Rattle.std.proofs.Common.{◌≡◌, drop}
use Rattle.pulse_shape.specs.GroupDelay.{delay_from, group_delay}
use Rattle.pulse_shape.proofs.crossing.Given as goal

abbrev pub invariant-loop-j : goal.invariant-loop-j
invariant-loop-j l = delay_from l.level l.j (drop l.j l.prototype) ≡ group_delay l.level l.prototype
