-- For a lowpass of the right length the prototype is the whole convolution.
use Rattle.std.proofs.Common.{◌≡◌, ℕ, zero, suc, ◌+◌, ◌-◌, List, length, sym, refl, ap}
use lib.Ieee.{Float}
use Rattle.constants.specs.declared.SamplesPerPulse.{SamplesPerPulse}
use Rattle.constants.specs.declared.SamplesPerPulse.TheVariants.{Four, Eight}
use Rattle.constants.specs.Setting.{per_pulse}
use Rattle.constants.specs.Rate.{prototype_length, mode_s_pulse, mode_ac_pulse, mode_s_taps, mode_ac_taps}
use Rattle.pulse_shape.specs.Values.{values_from, values}
use Rattle.pulse_shape.specs.Trapezoid.{mode_s_trapezoid, mode_ac_trapezoid}
use Rattle.pulse_shape.specs.Convolve.{convolve_at, convolve_full}
use Rattle.pulse_shape.specs.Prototype.{prototype_of, mode_s_prototype, mode_ac_prototype}

pub length_values : (f : ℕ → Float) (n k : ℕ) → length (values_from f n k) ≡ n
unfolding values_from
length_values f zero k = refl
length_values f (suc n) k = ap suc (length_values f n (k + 1))

-- every prototype has 1,792 values at 4 samples per pulse, 3,584 at 8
pub length_prototype : (sps : ℕ) (pulse lowpass : List Float) → length (prototype_of sps pulse lowpass) ≡ prototype_length sps
unfolding prototype_of
length_prototype sps pulse lowpass = length_values (convolve_at pulse lowpass) (prototype_length sps) 0

pub prototype_whole : (sps : ℕ) (pulse lowpass : List Float) → length pulse + length lowpass - 1 ≡ prototype_length sps → prototype_of sps pulse lowpass ≡ convolve_full pulse lowpass
unfolding prototype_of convolve_full
prototype_whole sps pulse lowpass e = ap (values (convolve_at pulse lowpass)) (sym e)

length_mode_s : (sps : ℕ) → length (mode_s_trapezoid sps) ≡ mode_s_pulse sps
unfolding mode_s_trapezoid
length_mode_s sps = length_values _ (mode_s_pulse sps) 0

length_mode_ac : (sps : ℕ) → length (mode_ac_trapezoid sps) ≡ mode_ac_pulse sps
unfolding mode_ac_trapezoid
length_mode_ac sps = length_values _ (mode_ac_pulse sps) 0

-- a lowpass of the right length has as many taps as a prototype has values beyond its pulse, and one more
mode_s_fits : (s : SamplesPerPulse) → mode_s_pulse (per_pulse s) + mode_s_taps (per_pulse s) - 1 ≡ prototype_length (per_pulse s)
mode_s_fits Four = refl
mode_s_fits Eight = refl

mode_ac_fits : (s : SamplesPerPulse) → mode_ac_pulse (per_pulse s) + mode_ac_taps (per_pulse s) - 1 ≡ prototype_length (per_pulse s)
mode_ac_fits Four = refl
mode_ac_fits Eight = refl

-- 307 values and 1,486 taps at 4 samples per pulse, 614 and 2,971 at 8
pub mode_s_whole : (s : SamplesPerPulse) (lowpass : List Float) → length lowpass ≡ mode_s_taps (per_pulse s) → mode_s_prototype (per_pulse s) lowpass ≡ convolve_full (mode_s_trapezoid (per_pulse s)) lowpass
mode_s_whole s lowpass e = prototype_whole (per_pulse s) (mode_s_trapezoid (per_pulse s)) lowpass (rw (length_mode_s (per_pulse s), e) (mode_s_fits s))

-- 278 values and 1,515 taps at 4 samples per pulse, 556 and 3,029 at 8
pub mode_ac_whole : (s : SamplesPerPulse) (lowpass : List Float) → length lowpass ≡ mode_ac_taps (per_pulse s) → mode_ac_prototype (per_pulse s) lowpass ≡ convolve_full (mode_ac_trapezoid (per_pulse s)) lowpass
mode_ac_whole s lowpass e = prototype_whole (per_pulse s) (mode_ac_trapezoid (per_pulse s)) lowpass (rw (length_mode_ac (per_pulse s), e) (mode_ac_fits s))
