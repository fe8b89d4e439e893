-- `mix_stretch`: the numbers so far are written.
use Rattle.std.proofs.Common.{◌≡◌, take}
use Rattle.run_call.specs.DueModel.{mix}
use Rattle.run_call.proofs.mix_stretch.Given as goal

abbrev pub invariant-loop-i : goal.invariant-loop-i
invariant-loop-i l = take l.i l.output ≡ mix l.memory (take l.i l.noise)
