-- `reduce` meets its contract.
use Rattle.block_rotate.proofs.Quarters.{turns_few}
use Rattle.block_rotate.proofs.Turns.{reduced_are}
use Rattle.block_rotate.proofs.reduce.Goals as goal

pub as_floats-requires : goal.as_floats-requires
as_floats-requires c = turns_few c.args.p c.args.n c.requires

pub returns : goal.returns
returns c = reduced_are 8 c.args.p c.fits-p.0 c.fits-p.1 c.requires c.as_floats.ensures
