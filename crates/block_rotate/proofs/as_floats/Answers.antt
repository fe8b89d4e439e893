-- `as_floats` meets its contract.
use Rattle.block_rotate.proofs.Limits.{no_nans, as_floats_are}
use Rattle.block_rotate.proofs.as_floats.Goals as goal

pub float_from_bits-result : goal.float_from_bits-result
float_from_bits-result c = no_nans 8 c.args.n c.requires

pub returns : goal.returns
returns c = as_floats_are 8 c.args.n c.fits-n.0 c.requires
