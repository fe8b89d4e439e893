-- `sines` meets its contract.
use Rattle.block_rotate.proofs.Sums.{sines_are}
use Rattle.block_rotate.proofs.sines.Goals as goal

pub returns : goal.returns
returns c = sines_are 8 c.args.r c.fits-r.0
