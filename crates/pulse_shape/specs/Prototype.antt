-- The prototypes (SPECIFICATION 6.2): the full convolution of a trapezoid pulse and a lowpass, 1,792 values at 4 samples per pulse and 3,584 at 8.
use Rattle.std.specs.Prelude.{ℕ, List, Float}
use Rattle.constants.specs.Rate.{prototype_length}
use Rattle.pulse_shape.specs.Values.{values}
use Rattle.pulse_shape.specs.Trapezoid.{mode_s_trapezoid, mode_ac_trapezoid}
use Rattle.pulse_shape.specs.Convolve.{convolve_at}

-- the first n values of the convolution, 0.0 past its end
abbrev pub first_values : ℕ → List Float → List Float → List Float
first_values n pulse lowpass = values (convolve_at pulse lowpass) n

-- the first values, as many as a prototype has. For a lowpass of the right length it is `convolve_full`: see `prototype-whole` of proofs/Whole.antt.
unfoldable pub prototype_of : ℕ → List Float → List Float → List Float
prototype_of sps pulse lowpass = first_values (prototype_length sps) pulse lowpass

abbrev pub mode_s_prototype : ℕ → List Float → List Float
mode_s_prototype sps lowpass = prototype_of sps (mode_s_trapezoid sps) lowpass

abbrev pub mode_ac_prototype : ℕ → List Float → List Float
mode_ac_prototype sps lowpass = prototype_of sps (mode_ac_trapezoid sps) lowpass
