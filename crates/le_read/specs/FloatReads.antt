-- What each read of a float answers: the value of its bytes as an IEEE 754 pattern, unless that is a NaN's.
use Rattle.std.specs.Prelude.{ℕ, cond, List, Float, Result, Ok, Err}
use Rattle.std.specs.Float.{Format, binary64}
use Rattle.std.specs.Float.Ieee.{nan_bits, of_bits}
use Rattle.le_read.specs.LeBytes.{read_at, number_at}
use Rattle.le_read.specs.declared.FloatFault.{FloatFault}
use Rattle.le_read.specs.declared.FloatFault.TheVariants.{Nan, OutOfBounds}

-- what a pattern n of a format stands for, unless n is a NaN's; value says what a pattern stands for
unfoldable pub found : {X : Type 0} → Format → (ℕ → X) → ℕ → Result X FloatFault
found f value n = cond (nan_bits f n) (Err Nan) (Ok (value n))

-- the float that a pattern n stands for, unless n is a NaN's
abbrev pub float_of : Format → ℕ → Result Float FloatFault
float_of f = found f (of_bits f)

-- the float of the pattern in n bytes from at, unless they run past the end
abbrev pub read_float : Format → ℕ → List ℕ → ℕ → Result Float FloatFault
read_float f n s at = read_at n (float_of f) (Err OutOfBounds) s at

-- the float at an offset, 0.0 past the end
abbrev pub f64_at : List ℕ → ℕ → Float
f64_at s at = of_bits binary64 (number_at 8 s at)
