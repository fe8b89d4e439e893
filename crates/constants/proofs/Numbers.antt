-- At 4 samples per pulse the definitions give the specification's numbers, and at 8 those of the doubled rate.
use mathlib.Core.Path.{◌≡◌, refl}
use Prim.Native.Nat.{ℕ}
use mathlib.Core.List.{List, [], ◌∷◌}
use Rattle.constants.specs.Rate.{four, sample_rate, branches, prototype_length, mode_s_pulse, mode_ac_pulse, mode_s_taps, mode_ac_taps, reply_limit, hold_back, working_memory, largest_offset}

abbrev pub of : ℕ → List ℕ
of sps = sample_rate sps ∷ branches sps ∷ prototype_length sps ∷ mode_s_pulse sps ∷ mode_ac_pulse sps ∷ mode_s_taps sps ∷ mode_ac_taps sps ∷ reply_limit sps ∷ hold_back sps ∷ working_memory sps ∷ largest_offset sps ∷ []

pub numbers : of four ≡ (8000000 ∷ 256 ∷ 1792 ∷ 307 ∷ 278 ∷ 1486 ∷ 1515 ∷ 1094 ∷ 32 ∷ 2252 ∷ 4000000 ∷ [])
numbers = refl

pub numbers_doubled : of 8 ≡ (16000000 ∷ 512 ∷ 3584 ∷ 614 ∷ 556 ∷ 2971 ∷ 3029 ∷ 2187 ∷ 64 ∷ 4502 ∷ 8000000 ∷ [])
numbers_doubled = refl
