-- The goals of as_float.
use Rattle.block_values.proofs.Guess.{pattern_lem, pattern_number}
use Rattle.block_values.proofs.as_float.Goals as goal

pub float_from_bits-result : goal.float_from_bits-result
float_from_bits-result c = pattern_number c.args.a c.requires

pub returns : goal.returns
returns c = pattern_lem c.args.a c.requires
