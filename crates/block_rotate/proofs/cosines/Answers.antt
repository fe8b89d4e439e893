-- `cosines` meets its contract.
use Rattle.block_rotate.proofs.Sums.{cosines_are}
use Rattle.block_rotate.proofs.cosines.Goals as goal

pub returns : goal.returns
returns c = cosines_are 8 c.args.r c.fits-r.0
