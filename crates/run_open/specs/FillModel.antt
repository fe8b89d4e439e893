-- A list written over another.
use Rattle.std.specs.Prelude.{min, List, ◌++◌, length, take, drop, Float}

-- the first values of a list replaced by those of another, as far as either goes
unfoldable pub over : List Float → List Float → List Float
over from to = take (min (length from) (length to)) from ++ drop (min (length from) (length to)) to
