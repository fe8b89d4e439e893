-- `flipped_bit` meets its contract. The loop's invariant: the search from here on finds what that of all places finds.
use mathlib.Core.Path.{◌≡◌}
use Prim.Native.Nat.{◌-◌}
use Rattle.mode_s.specs.Change.{place_from, place_of}
use Rattle.mode_s.proofs.flipped_bit.Given as goal

abbrev pub invariant-loop-place : goal.invariant-loop-place
invariant-loop-place l = place_from (112 - l.place) l.place l.change ≡ place_of l.change
