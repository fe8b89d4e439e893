-- `scale` meets its contract: the first i products are written.
use borrow.Author.Rules.{rules}
use Rattle.rack.proofs.Products.{scaled_next, scaled_end}
use Rattle.rack.proofs.scale.Goals as goal

pub loop-i-preserved : goal.loop-i-preserved
loop-i-preserved c = scaled_next _ _ _ _ c.loop-i.i c.loop-i.invariant (search rules) (search rules)

pub returns : goal.returns
returns c = scaled_end _ _ _ _ c.loop-i.i c.loop-i.invariant (search rules) (search rules)
