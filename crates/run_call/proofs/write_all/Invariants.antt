-- `write_all`: each step writes one stretch more (`Writing`).
use Rattle.std.proofs.Common.{length, ◌-◌}
use Rattle.run_call.proofs.Stretches.{Writing}
use Rattle.run_call.proofs.write_all.Given as goal

abbrev pub invariant-loop-done : goal.invariant-loop-done
invariant-loop-done l = Writing l.fn.setting l.initial.memory l.noise l.written l.memory l.output l.p l.done

abbrev pub decreases-loop-done : goal.decreases-loop-done
decreases-loop-done l = length l.noise - l.done
