-- `all_in_range` meets its contract. The loop's invariant: the first fault of what is behind the rows tested is that of all.
use Rattle.std.proofs.Common.{◌≡◌, ◌*◌, drop}
use Rattle.run_call.specs.NoiseModel.{out_of_range_from}
use Rattle.run_call.proofs.all_in_range.Given as goal

abbrev pub invariant-loop-row : goal.invariant-loop-row
invariant-loop-row l = out_of_range_from (8 * l.row-index) (drop (8 * l.row-index) l.noise) ≡ out_of_range_from 0 l.noise
