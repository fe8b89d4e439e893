-- The samples of a message at the nominal clock rate, by the samples per pulse.
use Rattle.std.specs.Prelude.{ℕ, ◌+◌, ◌*◌, ◌/◌, Bool}
use Rattle.pulse_map.specs.ModeS.{mode_s_length}
use Rattle.pulse_map.specs.ModeAC.{mode_ac_length}

-- each position of a Mode S message lasts one pulse
unfoldable pub mode_s_num_samples : ℕ → Bool → ℕ
mode_s_num_samples sps long = mode_s_length long * sps

-- each position of a Mode A/C reply lasts 1450 of 1500 parts of one; to the nearest, a half upwards
unfoldable pub mode_ac_num_samples : ℕ → Bool → ℕ
mode_ac_num_samples sps spi = (mode_ac_length spi * sps * 1450 + 750) / 1500
