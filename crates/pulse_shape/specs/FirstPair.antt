-- What the finder of crossings promises (SPECIFICATION 6.3): the delay is that of the first pair of values of which the level is at or above the first and below the second.
use Rattle.std.specs.Prelude.{ℕ, suc, ◌<◌, T, List, length, slice_index_or, Float, Option, Some, None}
use Rattle.std.specs.Float.{nan}
use Rattle.std.specs.Float.Ieee.{lt, le}
use Rattle.pulse_shape.specs.GroupDelay.{delay_at}

-- the level is at or above value i and below value i + 1; equal to the first counts, equal to the second does not, and a falling pair never does
abbrev pub PairAt : Float → List Float → ℕ → Type 0
PairAt level p i = (suc i < length p) × T (le (slice_index_or p i nan) level) × T (lt level (slice_index_or p (suc i) nan))

-- such a pair, and none before it
pub record FirstPair (level : Float) (p : List Float) (i : ℕ) : Type 0 where
  pub here : PairAt level p i
  pub none_before : (k : ℕ) → k < i → PairAt level p k → ⊥

-- what is found: the delay of the first pair, or nothing where there is no pair
pub data Finds (level : Float) (p : List Float) : Option Float → Type 0 where
  first : (i : ℕ) → FirstPair level p i → Finds level p (Some (delay_at level i (slice_index_or p i nan) (slice_index_or p (suc i) nan)))
  nowhere : ((i : ℕ) → PairAt level p i → ⊥) → Finds level p None
