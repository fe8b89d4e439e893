-- Which patterns and values of a block the short way of narrowing takes. No public contract cites this file.
use Rattle.std.specs.Prelude.{ℕ, ◌≡◌, ◌⊎◌, ◌%◌, ◌<◌, ◌≤◌, T, not, List, is_nan, to_bits, slice_index_or, Float}
use Rattle.std.specs.Float.{binary64, nan}

-- a pattern of zero, or in the normal range of f32
abbrev pub IsPlain : ℕ → Type 0
IsPlain bits = (bits % 0x8000_0000_0000_0000 ≡ 0) ⊎ ((0x3810_0000_0000_0000 ≤ bits % 0x8000_0000_0000_0000) × (bits % 0x8000_0000_0000_0000 < 0x47e0_0000_0000_0000))

abbrev pub Plain : Float → Type 0
Plain x = T (not (is_nan x)) × IsPlain (to_bits binary64 x)

abbrev pub AllPlain : List Float → Type 0
AllPlain xs = (i : ℕ) → i < 32 → Plain (slice_index_or xs i nan)
