-- `turned_cosines` meets its contract.
use Rattle.block_rotate.proofs.Quadrants.{cosines_are}
use Rattle.block_rotate.proofs.turned_cosines.Goals as goal

pub returns : goal.returns
returns c = cosines_are c.args.n c.fits-n.0 c.args.s c.args.c c.requires
