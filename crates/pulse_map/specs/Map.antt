-- A pulse map, from the list of the positions where pulses stand.
use Rattle.std.specs.Prelude.{ℕ, zero, suc, Bool, false, ◌||◌, List, [], ◌∷◌, eqb}
use Rattle.pulse_map.specs.declared.Pulses.{Pulses}

-- a pulse stands at position k: k is one of the positions
unfoldable pub pulse_at : List ℕ → ℕ → Bool
pulse_at [] k = false
pulse_at (p ∷ ps) k = eqb p k || pulse_at ps k

-- the same for each of n positions, from k on
unfoldable pub map_from : List ℕ → ℕ → ℕ → List Bool
map_from ps k zero = []
map_from ps k (suc n) = pulse_at ps k ∷ map_from ps (suc k) n

-- the map of a reply: 240 positions, of which it takes len
unfoldable pub map_of : List ℕ → ℕ → Pulses
map_of ps positions = record { on = map_from ps 0 240; len = positions }
