-- The filterbank's value at each of some clock phases and indices, and what a call leaves of the values that it is passed.
use Rattle.std.specs.Prelude.{ℕ, Bool, List, [], ◌∷◌, ◌++◌, length, take, drop, Float}
use Rattle.filterbank.specs.Taps.{filter_taps}
use Rattle.filterbank.specs.PaddedPulsesModel.{padded_sum}

unfoldable pub values_at : ℕ → List Float → List Bool → List Float → List ℕ → List Float
values_at sps prototype padded [] is = []
values_at sps prototype padded (p ∷ ps) [] = []
values_at sps prototype padded (p ∷ ps) (i ∷ is) = padded_sum (filter_taps sps prototype p) padded i ∷ values_at sps prototype padded ps is

-- written over the first entries of a list, as many as both have
unfoldable pub values_left : List Float → List Float → List Float
values_left vs old = take (length old) vs ++ drop (length vs) old
