-- What the loop keeps: what is left of x, and the multiple that comes next.
use Prim.Native.Nat.{◌-◌}
use Rattle.float_remainder.proofs.Steps.{Going}
use Rattle.float_remainder.proofs.far.Given as goal

abbrev pub invariant-loop-i : goal.invariant-loop-i
invariant-loop-i l = Going l.x l.r l.t (1022 - l.i)
