-- Each value below the index is written.
use Rattle.std.proofs.Common.{◌≡◌, ◌<◌, ℕ, get_or}
use lib.Ieee.{nan}
use Rattle.pulse_shape.specs.Convolve.{convolve_at}
use Rattle.pulse_shape.proofs.convolution.Given as goal

abbrev pub invariant-loop-j : goal.invariant-loop-j
invariant-loop-j l = (k : ℕ) → k < l.j → get_or l.out k nan ≡ convolve_at l.pulse l.lowpass k
