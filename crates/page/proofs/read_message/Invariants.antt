-- `read_message` meets its contract: after k steps k bytes are read.
use mathlib.Core.Path.{◌≡◌}
use lib.ListN.{length}
use Rattle.page.specs.Fields.{shown_message}
use Rattle.page.proofs.read_message.Given as goal

abbrev pub invariant-loop-k : goal.invariant-loop-k
invariant-loop-k l = (length l.message ≡ 14) × (l.message ≡ shown_message l.kind l.line l.k)
