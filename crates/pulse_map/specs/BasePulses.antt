-- What is claimed of the pulse maps of Mode A/C: they are the base's, whose twelve positions come from a list. No contract cites these.
use Rattle.std.specs.Prelude.{ℕ, zero, suc, ◌≡◌, Bool, List, [], ◌∷◌, ◌++◌, get_or}
use Rattle.mode_ac.specs.Data.{bit_of}
use Rattle.mode_ac.specs.BasePlaces.{base_places}
use Rattle.pulse_map.specs.declared.Pulses.{Pulses}
use Rattle.pulse_map.specs.Map.{map_of}
use Rattle.pulse_map.specs.ModeAC.{mode_ac_length, only_if, mode_ac_pulses}

-- as `data_positions`, each position from the list
unfoldable pub base_data_places : ℕ → ℕ → ℕ → List ℕ
base_data_places d zero n = []
base_data_places d (suc left) n = only_if (bit_of d n) (get_or base_places n 0) ++ base_data_places d left (suc n)

-- the map and the length of a reply in the base
unfoldable pub base_pulses : ℕ → Bool → Pulses
base_pulses d spi = map_of (0 ∷ (base_data_places d 12 0 ++ (42 ∷ only_if spi 51))) (mode_ac_length spi)

-- map and length, for any data and SPI: all 8,192 that a reply can have are among them
abbrev pub PulsesOfTheBase : Type 0
PulsesOfTheBase = (d : ℕ) (spi : Bool) → mode_ac_pulses d spi ≡ base_pulses d spi
