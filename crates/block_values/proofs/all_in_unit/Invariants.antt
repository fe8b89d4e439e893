-- The loop of all_in_unit.
use Rattle.std.proofs.Common.{◌*◌}
use Rattle.block_values.specs.BlockValuesModel.{InUnit}
use Rattle.block_values.proofs.all_in_unit.Given as goal

abbrev pub invariant-loop-row : goal.invariant-loop-row
invariant-loop-row l = InUnit l.x (8 * l.row-index)
