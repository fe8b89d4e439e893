-- The widths, in bytes, of the numbers that are read and written.
use Rattle.std.specs.Prelude.{ℕ, ◌≡◌, refl, ◌⊎◌}
use mathlib.Core.Logic.{inl, inr}

abbrev pub IsWidth : ℕ → Type 0
IsWidth n = (n ≡ 2) ⊎ ((n ≡ 4) ⊎ (n ≡ 8))

pub two_wide : IsWidth 2
two_wide = inl refl

pub four_wide : IsWidth 4
four_wide = inr (inl refl)

pub eight_wide : IsWidth 8
eight_wide = inr (inr refl)
