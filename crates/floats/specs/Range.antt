-- The size of a value, and whether it is at most a limit (SPECIFICATION 1.4).
use Rattle.std.specs.Prelude.{Bool, false, Float}
use Rattle.std.specs.Float.{nan, inf, fin}
use Rattle.std.specs.Float.Ieee.{le}

-- x without its sign
unfoldable pub abs : Float → Float
abs nan = nan
abs (inf s) = inf false
abs (fin s m e) = fin false m e

-- the size of x is at most limit; false where either is a NaN
unfoldable pub within : Float → Float → Bool
unfolding abs le
within x limit = le (abs x) limit
