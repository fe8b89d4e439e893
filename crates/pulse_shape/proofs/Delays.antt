-- The numbers that the code divides by are those of the definitions.
use Rattle.std.proofs.Common.{◌≡◌, pos, refl}
use lib.Ieee.{Float, binary64, of_bits, of_int, div}
use Rattle.pulse_shape.specs.GroupDelay.{mode_ac_ratio}

-- 64.0, as the code divides
pub sixty_four : of_bits binary64 4634204016564240384 ≡ of_int binary64 (pos 64)
unfolding of_bits of_int
sixty_four = refl

-- 1500.0 and 1450.0
abbrev f1500 : Float
f1500 = of_bits binary64 4654311885213007872

abbrev f1450 : Float
f1450 = of_bits binary64 4654091982887452672

-- 1500.0 / 1450.0, as the code divides
pub ratio_is : div binary64 f1500 f1450 ≡ mode_ac_ratio
unfolding mode_ac_ratio of_bits of_int
ratio_is = refl
