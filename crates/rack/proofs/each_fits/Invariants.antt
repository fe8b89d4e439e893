-- `each_fits` meets its contract: what is left decides.
use mathlib.Core.Path.{◌≡◌}
use lib.ListN.{length, drop}
use Rattle.rack.specs.Opening.{each_fits}
use Rattle.rack.proofs.each_fits.Given as goal

abbrev pub invariant-loop-delay : goal.invariant-loop-delay
invariant-loop-delay l = each_fits (drop (length l.yielded) l.delays) (drop (length l.yielded) l.gains) ≡ each_fits l.delays l.gains
