-- Theorem `pulses-of-the-base`: the pulse maps and lengths of Mode A/C are those of the base. Of the positions only this is used: each is the one that the base lists.
use mathlib.Core.Path.{◌≡◌, refl, ap}
use mathlib.Core.List.{List, ◌∷◌, ◌++◌}
use Prim.Native.Nat.{ℕ, zero, suc}
use Rattle.mode_ac.specs.Data.{bit_of}
use Rattle.mode_ac.proofs.BasePlaces.{places_of_the_base}
use Rattle.pulse_map.specs.Map.{map_of}
use Rattle.pulse_map.specs.ModeAC.{mode_ac_length, only_if, data_positions, mode_ac_positions, mode_ac_pulses}
use Rattle.pulse_map.specs.BasePulses.{base_data_places, base_pulses, PulsesOfTheBase}

data_places : (d left n : ℕ) → data_positions d left n ≡ base_data_places d left n
unfolding data_positions base_data_places
data_places d zero n = refl
data_places d (suc left) n = λ i. only_if (bit_of d n) (places_of_the_base n i) ++ data_places d left (suc n) i

pub pulses_of_the_base : PulsesOfTheBase
unfolding mode_ac_pulses mode_ac_positions base_pulses
pulses_of_the_base d spi =
    ap (λ (ps : List ℕ). map_of (0 ∷ (ps ++ (42 ∷ only_if spi 51))) (mode_ac_length spi)) (data_places d 12 0)
