-- How the answer of the level function crosses to C: a number, and a float that is written or left.
use Rattle.std.specs.Prelude.{Result, Ok, Err, ℕ, Float}
use Rattle.refusals.specs.declared.Refusal.{Refusal}
use Rattle.refusals.specs.Number.{number_of}

-- 0 where the level is accepted, else the refusal's number
unfoldable pub refusal_of : Result Float Refusal → ℕ
refusal_of (Ok amplitude) = 0
refusal_of (Err refusal) = number_of refusal

-- the amplitude, or what was there before
unfoldable pub amplitude_left : Result Float Refusal → Float → Float
amplitude_left (Ok amplitude) before = amplitude
amplitude_left (Err refusal) before = before
