-- `ApplyFilterbank`: the values that a sequence of pulses becomes, and their number apart from them.
-- Fuel makes the recursions total. It is idle for each clock error within 0.1 and first phase from 0 to 2 samples: see proofs/EndsByItself.antt.
use Rattle.std.specs.Prelude.{ℕ, zero, suc, ◌+◌, ◌*◌, Bool, cond, List, [], ◌∷◌, length, nat_lt, Float}
use Rattle.filterbank.specs.declared.Clock.{Clock}
use Rattle.filterbank.specs.Taps.{filter_taps}
use Rattle.filterbank.specs.PulseSum.{pulse_sum, reach}
use Rattle.filterbank.specs.Clocked.{step_of, start_clock, advance}

-- how many samples there are from a clock on, until its index is the limit
unfoldable pub clock_count : ℕ → ℕ → Float → Clock → ℕ
clock_count zero limit step clock = 0
clock_count (suc fuel) limit step clock = cond (nat_lt clock.index limit) (suc (clock_count fuel limit step (advance step clock))) 0

-- the value at each of these clocks
unfoldable pub clock_values : ℕ → ℕ → Float → (Clock → Float) → Clock → List Float
clock_values zero limit step value clock = []
clock_values (suc fuel) limit step value clock = cond (nat_lt clock.index limit) (value clock ∷ clock_values fuel limit step value (advance step clock)) []

-- the indices of n pulses: six more than there are pulses, and none for no pulse
abbrev pub limit_of : ℕ → ℕ
limit_of zero = 0
limit_of (suc n) = suc n + reach

abbrev pub fuel_of : ℕ → ℕ → ℕ
fuel_of sps limit = (sps + 1) * limit

-- the samples of n pulses, from a first phase in samples and a clock error
unfoldable pub sample_count : ℕ → ℕ → Float → Float → ℕ
sample_count sps n phase e = clock_count (fuel_of sps (limit_of n)) (limit_of n) (step_of sps e) (start_clock sps phase)

unfoldable pub value_at : ℕ → List Float → List Bool → Clock → Float
value_at sps prototype pulses clock = pulse_sum (filter_taps sps prototype clock.phase) pulses clock.index

unfoldable pub apply_filterbank : ℕ → List Float → List Bool → Float → Float → List Float
apply_filterbank sps prototype pulses phase e =
    let limit = limit_of (length pulses) in
    clock_values (fuel_of sps limit) limit (step_of sps e) (value_at sps prototype pulses) (start_clock sps phase)
