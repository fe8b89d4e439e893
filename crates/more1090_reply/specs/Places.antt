-- How the place of a flipped bit crosses to C.
use Rattle.std.specs.Prelude.{Option, Some, None, ℕ}

-- the place, or 2^64 - 1 for none
unfoldable pub place_number : Option ℕ → ℕ
place_number None = 0xffff_ffff_ffff_ffff
place_number (Some place) = place
