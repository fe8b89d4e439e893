-- `put_blank_lines` meets its contract: after k steps k lines are put.
use mathlib.Core.Path.{◌≡◌}
use Rattle.le_read.specs.LeBytes.{overwritten}
use Rattle.page.specs.Pages.{blank_lines}
use Rattle.page.proofs.put_blank_lines.Given as goal

abbrev pub invariant-loop-k : goal.invariant-loop-k
invariant-loop-k l = l.out ≡ overwritten l.initial.out l.start (blank_lines l.k)
