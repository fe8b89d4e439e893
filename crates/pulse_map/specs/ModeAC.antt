-- The pulses of a Mode A/C reply.
use Rattle.std.specs.Prelude.{ℕ, zero, suc, Bool, true, false, List, [], ◌∷◌, ◌++◌}
use Rattle.mode_ac.specs.Data.{bit_of}
use Rattle.mode_ac.specs.Positions.{position_of}
use Rattle.pulse_map.specs.declared.Pulses.{Pulses}
use Rattle.pulse_map.specs.Map.{map_of}

-- 52 positions with SPI, else 43
unfoldable pub mode_ac_length : Bool → ℕ
mode_ac_length true = 52
mode_ac_length false = 43

abbrev pub only_if : Bool → ℕ → List ℕ
only_if true p = p ∷ []
only_if false p = []

-- the positions of those bits that are set, of k bits from bit n on
unfoldable pub data_positions : ℕ → ℕ → ℕ → List ℕ
data_positions d zero n = []
data_positions d (suc left) n = only_if (bit_of d n) (position_of n) ++ data_positions d left (suc n)

-- pulses 0, the twelve bits', 42, and 51 for SPI
unfoldable pub mode_ac_positions : ℕ → Bool → List ℕ
mode_ac_positions d spi = 0 ∷ (data_positions d 12 0 ++ (42 ∷ only_if spi 51))

unfoldable pub mode_ac_pulses : ℕ → Bool → Pulses
mode_ac_pulses d spi = map_of (mode_ac_positions d spi) (mode_ac_length spi)
