-- `narrow_plainly` meets its contract. The loop's invariant: the first i values are narrowed.
use Rattle.floats.specs.Narrow.{narrow as narrowed}
use Rattle.floats.proofs.Written.{Written}
use Rattle.floats.proofs.narrow_plainly.Given as goal

abbrev pub invariant-loop-i : goal.invariant-loop-i
invariant-loop-i l = Written narrowed l.x l.initial.y l.y l.i
