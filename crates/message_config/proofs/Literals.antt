-- The numbers that the definitions name are those written in the code, computed.
use Rattle.std.proofs.Common.{◌≡◌, refl}
use lib.Ieee.{binary64, of_bits, of_int, div}
use Rattle.pulse_shape.specs.GroupDelay.{mode_ac_ratio}
use Rattle.message_config.specs.Timing.{one}

pub one_is : one ≡ of_bits binary64 0x3ff0_0000_0000_0000
unfolding of_int of_bits
one_is = refl

pub mode_ac_ratio_is : mode_ac_ratio ≡ of_bits binary64 0x3ff0_8d3d_cb08_d3dd
unfolding mode_ac_ratio of_int of_bits div
mode_ac_ratio_is = refl
