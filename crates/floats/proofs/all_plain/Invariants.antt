-- `all_plain` meets its contract. The loop's invariant: each value of the rows before is zero or in the normal range.
use Rattle.std.proofs.Common.{ℕ, ◌*◌, ◌<◌, slice_index_or}
use lib.Ieee.{nan}
use Rattle.floats.specs.BlockModel.{Plain}
use Rattle.floats.proofs.all_plain.Given as goal

abbrev pub invariant-loop-row : goal.invariant-loop-row
invariant-loop-row l = (i : ℕ) → i < 8 * l.row-index → Plain (slice_index_or l.x i nan)
