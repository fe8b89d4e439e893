-- The clock of `ApplyFilterbank`: a phase from 0 to below 1, in pulses, and the index of a pulse.
use Rattle.std.specs.Prelude.{ℕ, ◌+◌, ◌%◌, ◌^◌, Bool, true, false, pos, Float}
use Rattle.std.specs.Float.{binary64}
use Rattle.std.specs.Float.Ieee.{of_int, add, sub, mul, div, le}
use Rattle.filterbank.specs.declared.Clock.{Clock}

abbrev pub one : Float
one = of_int binary64 (pos 1)

-- what a sample adds to the phase: 1.0 / 4.0 * (1.0 + e)
unfoldable pub step_of : ℕ → Float → Float
step_of sps e = mul binary64 (div binary64 one (of_int binary64 (pos sps))) (add binary64 one e)

-- the clock before the first sample, from a phase in samples
unfoldable pub start_clock : ℕ → Float → Clock
start_clock sps phase = record { phase = div binary64 phase (of_int binary64 (pos sps)); index = 0 }

-- a whole pulse is taken off the phase and counted
unfoldable pub settle : Bool → Float → ℕ → Clock
settle true phase index = record { phase = sub binary64 phase one; index = index + 1 }
settle false phase index = record { phase = phase; index = index }

-- the clock after one sample more
unfoldable pub advance : Float → Clock → Clock
advance step clock = let q = add binary64 clock.phase step in settle (le one q) q clock.index

-- the same with an index of 64 bits, which never wraps below the indices that a reply has
abbrev pub in64 : Clock → Clock
in64 clock = record { phase = clock.phase; index = clock.index % 2 ^ 64 }
