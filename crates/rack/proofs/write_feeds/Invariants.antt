-- `write_feeds` meets its contract: the first i feeds are written.
use Prim.Native.Nat.{◌*◌}
use mathlib.Core.Path.{◌≡◌}
use lib.ListN.{take}
use Rattle.rack.specs.Calls.{feeds_up_to}
use Rattle.rack.proofs.write_feeds.Given as goal

abbrev pub invariant-loop-i : goal.invariant-loop-i
invariant-loop-i l = take (l.i * l.n) l.room ≡ feeds_up_to l.i l.rack.delays l.rack.gains l.past.seen l.past.memory.now l.past.samples.now
