-- Rows of f32 values in little-endian bytes, as a tape has its taps and its noise, and as samples are written for other tools.
use Rattle.std.specs.Prelude.{ℕ, zero, suc, List, [], ◌∷◌, ◌++◌, drop, Float}
use Rattle.std.specs.Float.{binary32}
use Rattle.std.specs.Float.Ieee.{of_bits, to_bits}
use Rattle.le_read.specs.LeBytes.{le_at, bytes_of}

-- the first n values
unfoldable pub floats_of : ℕ → List ℕ → List Float
floats_of zero bytes = []
floats_of (suc n) bytes = of_bits binary32 (le_at 4 bytes 0) ∷ floats_of n (drop 4 bytes)

-- the bytes of values
unfoldable pub float_bytes : List Float → List ℕ
float_bytes [] = []
float_bytes (x ∷ xs) = bytes_of 4 (to_bits binary32 x) ++ float_bytes xs
