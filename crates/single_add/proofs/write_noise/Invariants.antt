-- `write_noise` meets its contract: the first i numbers are written.
use mathlib.Core.Path.{◌≡◌}
use lib.ListN.{take}
use Rattle.single_add.specs.Stretch.{scaled_noise}
use Rattle.single_add.proofs.write_noise.Given as goal

abbrev pub invariant-loop-i : goal.invariant-loop-i
invariant-loop-i l = take l.i l.output ≡ scaled_noise (take l.i l.noise)
