-- The sum of the taps whose pulses are on: `convolve_taps_pulses` of the Rust.
use Rattle.std.specs.Prelude.{ℕ, ◌+◌, ◌-◌, Bool, false, cond, ◌&&◌, List, [], ◌∷◌, from_bits, nat_le, slice_index_or, Float}
use Rattle.std.specs.Float.{binary32}
use Rattle.std.specs.Float.Ieee.{add}
use Rattle.constants.specs.Rate.{taps_per_branch, longest_pulses}

-- sum, and then each tap added whose number, counted from k, is on
unfoldable pub sum_where : (ℕ → Bool) → List Float → ℕ → Float → Float
sum_where on [] k sum = sum
sum_where on (tap ∷ taps) k sum = sum_where on taps (k + 1) (cond (on k) (add binary32 sum tap) sum)

-- there is a pulse k positions before an index
unfoldable pub pulse_back : List Bool → ℕ → ℕ → Bool
pulse_back pulses index k = nat_le k index && slice_index_or pulses (index - k) false

-- the sum from 0.0, in the order of the taps
unfoldable pub pulse_sum : List Float → List Bool → ℕ → Float
pulse_sum taps pulses index = sum_where (pulse_back pulses index) taps 0 (from_bits binary32 0)

-- the taps beside the first, which reach back past a pulse: 6
abbrev pub reach : ℕ
reach = taps_per_branch - 1

-- the indices of the longest message: 246
abbrev pub longest_index : ℕ
longest_index = longest_pulses + reach
