-- `turned_sines` meets its contract.
use Rattle.block_rotate.proofs.Quadrants.{sines_are}
use Rattle.block_rotate.proofs.turned_sines.Goals as goal

pub returns : goal.returns
returns c = sines_are c.args.n c.fits-n.0 c.args.s c.args.c c.requires
