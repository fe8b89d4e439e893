-- `first_out_of_range` meets its contract. The loop's invariant: the first fault of the rest is that of all.
use mathlib.Core.Path.{◌≡◌}
use lib.ListN.{drop}
use Rattle.run_call.specs.NoiseModel.{out_of_range_from}
use Rattle.run_call.proofs.first_out_of_range.Given as goal

abbrev pub invariant-loop-k : goal.invariant-loop-k
invariant-loop-k l = out_of_range_from l.k (drop l.k l.noise) ≡ out_of_range_from 0 l.noise
