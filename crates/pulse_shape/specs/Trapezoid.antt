-- The trapezoid pulses (SPECIFICATION 6.1), `trapezoidal_pulse` in the Rust.
use Rattle.std.specs.Prelude.{ℕ, ◌+◌, ◌-◌, cond, List, pos, from_bits, nat_lt, Float}
use Rattle.std.specs.Float.{binary32}
use Rattle.std.specs.Float.Ieee.{of_int, sub, div}
use Rattle.constants.specs.Rate.{mode_s_rise, mode_s_fall, mode_s_pulse, mode_ac_rise, mode_ac_fall, mode_ac_pulse}
use Rattle.pulse_shape.specs.Values.{values}

abbrev pub one : Float
one = from_bits binary32 0x3f80_0000

-- m / n, each a whole number taken as an f32
abbrev pub ratio : ℕ → ℕ → Float
ratio m n = div binary32 (of_int binary32 (pos m)) (of_int binary32 (pos n))

-- value j of the pulse: j / rise on the rising edge, 1.0 on the top, and 1.0 - i / fall at index i of the falling edge, counted from 1
unfoldable pub trapezoid_at : ℕ → ℕ → ℕ → ℕ → Float
trapezoid_at rise fall total j =
    cond (nat_lt j rise) (ratio j rise)
    (cond (nat_lt j (total - fall)) one (sub binary32 one (ratio (j - (total - fall) + 1) fall)))

unfoldable pub mode_s_trapezoid : ℕ → List Float
mode_s_trapezoid sps = values (trapezoid_at (mode_s_rise sps) (mode_s_fall sps) (mode_s_pulse sps)) (mode_s_pulse sps)

unfoldable pub mode_ac_trapezoid : ℕ → List Float
mode_ac_trapezoid sps = values (trapezoid_at (mode_ac_rise sps) (mode_ac_fall sps) (mode_ac_pulse sps)) (mode_ac_pulse sps)
