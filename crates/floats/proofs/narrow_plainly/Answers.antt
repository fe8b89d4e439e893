-- `narrow_plainly` meets its contract.
use Rattle.std.proofs.Common.{rules}
use lib.Ieee.{nan}
use Rattle.floats.specs.Narrow.{narrow as narrowed}
use Rattle.floats.proofs.Written.{written_next, written_all}
use Rattle.floats.proofs.narrow_plainly.Goals as goal

pub loop-i-preserved : goal.loop-i-preserved
loop-i-preserved c = written_next narrowed c.args.x.now _ c.loop-i.y c.loop-i.i nan nan _ c.loop-i.invariant c.narrow_normal.ensures (search rules) (search rules)

pub returns : goal.returns
returns c = written_all narrowed c.args.x.now _ c.loop-i.y c.loop-i.i c.loop-i.invariant (search rules) (search rules)
