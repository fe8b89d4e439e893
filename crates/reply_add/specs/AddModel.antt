-- What functions within this crate give, as their contracts name it. No public contract cites this file.
use Rattle.std.specs.Prelude.{ℕ, ◌≡◌, Bool, List, length, Float}
use Rattle.constants.specs.Setting.{per_pulse}
use Rattle.message_config.specs.Config.{config_clock_phase, config_clock_error, config_rate, config_phase}
use Rattle.filterbank.specs.declared.Clock.{Clock}
use Rattle.filterbank.specs.Taps.{filter_taps}
use Rattle.filterbank.specs.PaddedPulsesModel.{padded_sum}
use Rattle.filterbank.specs.Clocked.{step_of, start_clock}
use Rattle.filterbank.specs.Apply.{clock_values, limit_of, fuel_of}
use Rattle.reply_samples.specs.declared.Sample.{Sample}
use Rattle.reply_add.specs.declared.ReplySignal.{ReplySignal}
use Rattle.reply_add.specs.declared.Wave.{Wave}
use Rattle.reply_samples.specs.Samples.{rotated}
use Rattle.reply_samples.specs.RingModel.{added_reply, added_count}

-- the filterbank's value at a clock, over padded pulses
unfoldable pub padded_value : ℕ → List Float → List Bool → Clock → Float
padded_value sps prototype padded clock = padded_sum (filter_taps sps prototype clock.phase) padded clock.index

-- the filterbank's values from a clock on, over padded pulses
abbrev pub padded_values : ℕ → List Float → List Bool → ℕ → Float → Clock → List Float
padded_values sps prototype padded limit step first = clock_values (fuel_of sps limit) limit step (padded_value sps prototype padded) first

-- the wave of a reply, as one of n positions
unfoldable pub wave_of : ReplySignal → ℕ → Wave
wave_of r len =
    record {
      clock = start_clock (per_pulse r.setting) (config_clock_phase r.delays r.config);
      step = step_of (per_pulse r.setting) (config_clock_error r.config);
      limit = limit_of len;
      carrier = record { amplitude = r.amplitude; rate = config_rate (per_pulse r.setting) r.config; phase = config_phase (per_pulse r.setting) r.delays r.config };
    }

unfoldable pub wave_samples : ℕ → List Float → List Bool → Wave → List Sample
wave_samples sps prototype padded w = rotated w.carrier.amplitude w.carrier.rate w.carrier.phase (padded_values sps prototype padded w.limit w.step w.clock)

-- samples added into memory from a slot on, and their number answered
abbrev pub Adds : ℕ → List Float → ℕ → List Sample → List Float → ℕ → Type 0
Adds sps m slot zs m' r = (m' ≡ added_reply sps m slot zs) × (r ≡ added_count sps m slot (length zs))
