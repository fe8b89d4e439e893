-- The level is an f32, widened, computed: at 0.1 the worked tape's Mode S prototype (SPECIFICATION 11.3), which rises by 1/38 a value, is crossed between values 3 and 4, and its delay has the bits 3fae66666dffffed. Of 0.1 as an f64 they would be 3fae666666666667.
use Rattle.std.proofs.Common.{◌≡◌, true, refl}
use lib.Ieee.{Float, binary32, binary64, of_bits, of_int, add, sub, div, lt, le}
use Rattle.pulse_shape.specs.Trapezoid.{ratio}
use Rattle.pulse_shape.specs.GroupDelay.{crosses, delay_at}

abbrev tenth : Float
tenth = of_bits binary32 0x3dcc_cccd

pub crossed : crosses tenth (ratio 3 38) (ratio 4 38) ≡ true
unfolding crosses of_bits of_int div lt le
crossed = refl

pub widened : delay_at tenth 3 (ratio 3 38) (ratio 4 38) ≡ of_bits binary64 0x3fae_6666_6dff_ffed
unfolding delay_at of_bits of_int add sub div
widened = refl
