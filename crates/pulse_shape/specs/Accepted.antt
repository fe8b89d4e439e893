-- Which taps and prototype values a run takes. A list that these do not accept is refusal 5 for taps, and 6 for a prototype (SPECIFICATION 3.1).
use Rattle.std.specs.Prelude.{ℕ, Bool, true, ◌&&◌, List, [], ◌∷◌, length, ◌==◌, from_bits, Float}
use Rattle.std.specs.Float.{binary32}
use Rattle.std.specs.Float.Ieee.{neg, le}
use Rattle.constants.specs.Rate.{mode_s_taps, mode_ac_taps}

abbrev pub sixteen : Float
sixteen = from_bits binary32 0x4180_0000

-- finite, and at most 16 in size: no comparison with a NaN holds
unfoldable pub within16 : Float → Bool
within16 x = le (neg sixteen) x && le x sixteen

unfoldable pub all_within16 : List Float → Bool
all_within16 [] = true
all_within16 (x ∷ xs) = within16 x && all_within16 xs

-- a Mode S lowpass has 1,486 taps at 4 samples per pulse and 2,971 at 8, a Mode A/C lowpass 1,515 and 3,029
unfoldable pub mode_s_taps_accepted : ℕ → List Float → Bool
mode_s_taps_accepted sps taps = length taps == mode_s_taps sps && all_within16 taps

unfoldable pub mode_ac_taps_accepted : ℕ → List Float → Bool
mode_ac_taps_accepted sps taps = length taps == mode_ac_taps sps && all_within16 taps
