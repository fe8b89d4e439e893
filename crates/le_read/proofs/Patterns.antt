-- The one test that finds a NaN's pattern, at both formats.
use Prim.Native.Nat.{ℕ, ◌%◌}
use mathlib.Core.Path.{◌≡◌, sym}
use lib.Dec.{ltb}
use lib.Ieee.{binary32, binary64, nan_bits}
use lib.Ieee.Bits.{nan_bits_above}

-- a pattern, with the sign's bit taken off, above the infinity's
pub nan32 : (n : ℕ) → ltb 0x7f80_0000 (n % 0x8000_0000) ≡ nan_bits binary32 n
nan32 n = sym (nan_bits_above binary32 n)

pub nan64 : (n : ℕ) → ltb 0x7ff0_0000_0000_0000 (n % 0x8000_0000_0000_0000) ≡ nan_bits binary64 n
nan64 n = sym (nan_bits_above binary64 n)
