-- `below` meets its contract.
use Rattle.block_rotate.proofs.Limits.{marks_are}
use Rattle.block_rotate.proofs.below.Goals as goal

pub returns : goal.returns
returns c = marks_are c.args.p c.args.limit c.fits-p.0
