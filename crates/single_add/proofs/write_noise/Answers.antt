-- `write_noise` meets its contract: the first i numbers are written.
use mathlib.Core.Path.{ap}
use borrow.Author.Rules.{rules}
use lib.Ieee.{binary32, mul}
use Rattle.run_call_model.proofs.FloatLaws.{scale_bits}
use Rattle.single_add.proofs.Loops.{scaled_next}
use Rattle.single_add.proofs.write_noise.Goals as goal

pub loop-i-preserved : goal.loop-i-preserved
loop-i-preserved c = scaled_next c.args.noise.now c.loop-i.output c.loop-i.i _ (ap (mul binary32 _) scale_bits) (search rules) (search rules) c.loop-i.invariant
