-- `copy` meets its contract: the first i numbers are copied.
use borrow.Author.Rules.{rules}
use Rattle.rack.proofs.Rows.{copied_next, copied_end}
use Rattle.rack.proofs.copy.Goals as goal

pub loop-i-preserved : goal.loop-i-preserved
loop-i-preserved c = copied_next _ _ _ c.loop-i.i _ (search rules) (search rules) c.loop-i.invariant

pub returns : goal.returns
returns c = copied_end _ _ _ c.loop-i.i (search rules) (search rules) c.loop-i.invariant
