-- What is left of the sum, from k on, makes it the whole.
use Rattle.std.proofs.Common.{◌≡◌, ◌-◌}
use lib.Ieee.{binary32, of_bits}
use Rattle.pulse_shape.specs.Convolve.{products_from}
use Rattle.pulse_shape.proofs.convolve_at.Given as goal

abbrev pub invariant-loop-k : goal.invariant-loop-k
invariant-loop-k l =
    products_from l.a l.b l.j (l.end - l.k) l.k l.sum ≡ products_from l.a l.b l.j (l.end - l.start) l.start (of_bits binary32 0)
