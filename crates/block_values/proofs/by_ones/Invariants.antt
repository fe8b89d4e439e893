-- The loop of by_ones.
use Rattle.std.proofs.Common.{◌≡◌}
use Rattle.constants.specs.Setting.{per_pulse}
use Rattle.block_values.specs.BlockValues.{values_at}
use Rattle.block_values.proofs.Written.{first_of}
use Rattle.block_values.proofs.by_ones.Given as goal

abbrev pub invariant-loop-i : goal.invariant-loop-i
invariant-loop-i l = l.values ≡ first_of l.i (values_at (per_pulse l.setting) l.p l.padded l.block.phases l.block.indices) l.fn.values
