-- No more lines are wrong than were read.
use Rattle.std.proofs.Common.{◌≤◌}
use Rattle.test_floats.proofs.main.Given as goal

abbrev pub invariant-loop-lines : goal.invariant-loop-lines
invariant-loop-lines l = l.wrong ≤ l.lines
