-- What the test of a row of noise values says. No public contract cites this file.
use Rattle.std.specs.Prelude.{T, List, from_bits, Float}
use Rattle.std.specs.Float.{binary32}
use Rattle.std.specs.Simd.Lanes.{Each1}
use Rattle.floats.specs.Range.{within}

-- each value is at most 64 in size
abbrev pub AllWithin : List Float → Type 0
AllWithin row = Each1 (λ x. T (within x (from_bits binary32 0x4280_0000))) row
