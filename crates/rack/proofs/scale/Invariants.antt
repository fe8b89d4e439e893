-- `scale` meets its contract: the first i products are written.
use mathlib.Core.List.{◌++◌}
use mathlib.Core.Path.{◌≡◌}
use lib.ListN.{take, drop}
use Rattle.rack.specs.Feeds.{scaled}
use Rattle.rack.proofs.scale.Given as goal

abbrev pub invariant-loop-i : goal.invariant-loop-i
invariant-loop-i l = l.to ≡ take l.i (scaled l.gain l.from) ++ drop l.i l.initial.to
