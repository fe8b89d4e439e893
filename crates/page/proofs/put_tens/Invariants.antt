-- `put_tens` meets its contract: the invariant is `Going`.
use Prim.Native.Nat.{◌-◌}
use Rattle.page.proofs.Columns as columns
use Rattle.page.proofs.put_tens.Given as goal

abbrev pub invariant-loop-i : goal.invariant-loop-i
invariant-loop-i l = columns.Going l.n l.width l.initial.out l.at l.out (l.width - l.i) l.rest
