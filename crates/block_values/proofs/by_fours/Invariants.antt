-- The loop of by_fours.
use Rattle.std.proofs.Common.{◌≡◌, ◌-◌, ◌≤◌}
use Rattle.constants.specs.Setting.{per_pulse}
use Rattle.block_values.specs.BlockValues.{values_at}
use Rattle.block_values.proofs.Written.{first_of}
use Rattle.block_values.proofs.by_fours.Given as goal

abbrev pub invariant-loop-i : goal.invariant-loop-i
invariant-loop-i l = record {
  within : l.i ≤ l.n;
  so_far : l.values ≡ first_of l.i (values_at (per_pulse l.b.setting) l.b.prototype.now l.b.padded.now l.block.phases l.block.indices) l.fn.values;
}

abbrev pub decreases-loop-i : goal.decreases-loop-i
decreases-loop-i l = l.n - l.i
