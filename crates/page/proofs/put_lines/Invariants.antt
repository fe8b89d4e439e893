-- `put_lines` meets its contract: after k steps the lines of k records are put.
use mathlib.Core.Path.{◌≡◌}
use Rattle.le_read.specs.LeBytes.{overwritten}
use Rattle.page.specs.Pages.{record_lines}
use Rattle.page.proofs.put_lines.Given as goal

abbrev pub invariant-loop-k : goal.invariant-loop-k
invariant-loop-k l = l.out ≡ overwritten l.initial.out 0 (record_lines l.k l.records)
