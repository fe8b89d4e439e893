-- Each value below the index is written.
use Rattle.std.proofs.Common.{◌≡◌, ◌<◌, ℕ, length, get_or}
use lib.Ieee.{nan}
use Rattle.pulse_shape.specs.Trapezoid.{trapezoid_at}
use Rattle.pulse_shape.proofs.trapezoid.Given as goal

abbrev pub invariant-loop-j : goal.invariant-loop-j
invariant-loop-j g l =
    (length l.x-items ≡ g.row.N) × ((k : ℕ) → k < l.j → get_or l.x-items k nan ≡ trapezoid_at l.rise l.fall g.row.N k)
