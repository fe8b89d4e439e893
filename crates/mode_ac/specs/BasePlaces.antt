-- What is claimed of the positions by rule: they are the base's, which lists them. No contract cites the list.
use Rattle.std.specs.Prelude.{ℕ, ◌≡◌, List, [], ◌∷◌, get_or}
use Rattle.mode_ac.specs.Positions.{position_of}

-- the positions of C1 A1 C2 A2 C4 A4 B1 D1 B2 D2 B4 D4 in the base
abbrev pub base_places : List ℕ
base_places = 3 ∷ 6 ∷ 9 ∷ 12 ∷ 15 ∷ 18 ∷ 24 ∷ 27 ∷ 30 ∷ 33 ∷ 36 ∷ 39 ∷ []

-- the position of every bit, and 0 from the thirteenth on
abbrev pub PlacesOfTheBase : Type 0
PlacesOfTheBase = (n : ℕ) → position_of n ≡ get_or base_places n 0
