-- A model of code: pulses padded by six positions, so that a sum tests no bounds, and the sum over them. proofs/PaddedSum says that it is the plain `pulse_sum`.
use Rattle.std.specs.Prelude.{ℕ, ◌+◌, ◌-◌, Bool, false, cond, List, ◌++◌, length, replicate, from_bits, nat_lt, slice_index_or, Float}
use Rattle.std.specs.Float.{binary32}
use Rattle.filterbank.specs.PulseSum.{sum_where, reach, longest_index}

-- pulses behind six positions that are off, and before others, 252 in all
unfoldable pub pad_pulses : List Bool → List Bool
pad_pulses pulses = replicate reach false ++ (pulses ++ replicate (longest_index - length pulses) false)

-- the sum over padded pulses, tap k meeting position index + 6 - k. It is `pulse_sum` of up to 240 pulses: see proofs/PaddedSum.antt
unfoldable pub padded_sum : List Float → List Bool → ℕ → Float
padded_sum taps padded_pulses index =
    cond (nat_lt index longest_index) (sum_where (λ k. slice_index_or padded_pulses (index + reach - k) false) taps 0 (from_bits binary32 0)) (from_bits binary32 0)
