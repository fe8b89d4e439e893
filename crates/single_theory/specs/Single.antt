-- One reply alone (SPECIFICATION 14): its checks in order, and what it leaves in the output.
use Rattle.std.specs.Prelude.{Option, Some, None, option_map, Result, Ok, Err}
use Rattle.std.specs.Result.{result_and}
use Rattle.std.specs.Prelude.{ℕ, ◌*◌, ◌%◌, Bool, cond, not, ◌&&◌, ◌||◌, List, eqb, length, Float}
use Rattle.constants.specs.Setting.{per_pulse}
use Rattle.constants.specs.declared.SamplesPerPulse.{SamplesPerPulse}
use Rattle.pulse_shape.specs.Prototype.{mode_s_prototype, mode_ac_prototype}
use Rattle.refusals.specs.declared.Refusal.{Refusal}
use Rattle.refusals.specs.declared.Refusal.TheVariants as Refused
use Rattle.refusals.specs.Answer.{unless}
use Rattle.settings_duration.specs.Duration.{samples_of, duration_of}
use Rattle.settings.specs.Settings.{settings_of}
use Rattle.settings.specs.Accepted.{setting_at, at_setting}
use Rattle.message_config.specs.Config.{config_start}
use Rattle.draw.specs.declared.Draw.{Draw}
use Rattle.draw.specs.Draw.{draw_length, draw_at}
use Rattle.draw.specs.Fault.{first_fault}
use Rattle.draw.specs.Config.{time_after, config_of}
use Rattle.reply_samples.specs.Samples.{reply_samples}
use Rattle.run_theory.specs.FloatGenerator.{nought}
use Rattle.run_generator.specs.Instance.{Filters, pulse_samples}
use Rattle.run_call.specs.NoiseModel.{out_of_range_from}
use Rattle.run_call.specs.declared.State.{State}
use Rattle.run_call.specs.StateGenerator.{filters_of}
use Rattle.run_call.specs.Given.{refusal_given}
use Rattle.run_open.specs.Opening.{opened_at}
use Rattle.single_add.specs.Stretch.{scaled_noise, with_reply}

-- ---- the samples
-- noise and the reply of a draw added, the draw's gap being the reply's time
unfoldable pub single_samples : Filters → Draw → List Float → List Float
single_samples f d noise =
    let c = config_of f.distributions (time_after nought d) d in
    with_reply (config_start f.delays c) (reply_samples (pulse_samples f) f.mode_s f.mode_ac f.delays d.amplitude c) (scaled_noise noise)

-- ---- the checks
-- the samples of the settings' duration by the formula alone, whatever its seconds and nanoseconds
abbrev pub samples_asked : ℕ → List ℕ → ℕ
samples_asked sps settings = samples_of sps (settings_of settings).seconds (settings_of settings).nanoseconds

-- refusal 9: a draw of another length, output of odd length, or empty though the duration has samples
unfoldable pub wrong_lengths : ℕ → List ℕ → ℕ → ℕ → Bool
wrong_lengths sps settings draw output =
    not (eqb draw draw_length) || not (eqb (output % 2) 0) || (eqb output 0 && not (eqb (samples_asked sps settings) 0))

-- refusal 12: output or noise that is not two numbers for each of n samples
unfoldable pub wrong_stretch : ℕ → ℕ → ℕ → Bool
wrong_stretch n output noise = not (eqb output (2 * n)) || not (eqb noise (2 * n))

-- refusal 1, of the duration; then 12, of the lengths of noise and output
unfoldable pub stretch_then : ℕ → ℕ → Result ℕ Refusal → Result (Unit {0}) Refusal
stretch_then noise output (Ok n) = cond (wrong_stretch n output noise) (Err Refused.StretchLength) (Ok tt)
stretch_then noise output (Err q) = Err q

-- refusal 9, of the lengths of draw and output; then 1 and 12
unfoldable pub lengths_checked : ℕ → List ℕ → ℕ → ℕ → ℕ → Result (Unit {0}) Refusal
lengths_checked sps settings draw noise output =
    cond (wrong_lengths sps settings draw output) (Err Refused.Length) (stretch_then noise output (duration_of sps (settings_of settings).seconds (settings_of settings).nanoseconds))

-- refusal 7, of the draw; then 8, of the first noise value at fault
unfoldable pub draw_then : List Float → (Option (ℕ × ℕ)) → Result (Unit {0}) Refusal
draw_then noise None = unless (option_map refusal_given (out_of_range_from 0 noise)) tt
draw_then noise (Some (k, field)) = Err (Refused.Draw k field)

-- the draw and the noise of a run
unfoldable pub values_checked : State → List ℕ → List Float → Result (Unit {0}) Refusal
values_checked state draw noise = draw_then noise (first_fault state.rates state.distributions draw)

-- refusals 2, 3, 4, 14, 5 and 6, of opening; then 7 and 8
unfoldable pub opened_then : List ℕ → List Float → Result State Refusal → Result State Refusal
opened_then draw noise (Ok state) = result_and (values_checked state draw noise) (Ok state)
opened_then draw noise (Err q) = Err q

-- ---- the call
-- the settings, the two lowpasses, the draw's bytes and the noise
module _ (settings : List ℕ) (taps_s taps_ac : List Float) (draw : List ℕ) (noise : List Float) where
  -- the run of which the reply is one, or the refusal, given an output of this length. Opening's own buffers have their lengths: nothing is asked of them
  unfoldable pub single_at : ℕ → SamplesPerPulse → Result State Refusal
  single_at output setting = result_and (lengths_checked (per_pulse setting) settings (length draw) (length noise) output) (opened_then draw noise (opened_at taps_s taps_ac settings setting))

  -- refusal 15 first, but for 9 for settings of another length
  unfoldable pub single_run : ℕ → Result State Refusal
  single_run output = at_setting (single_at output) (setting_at settings)

  -- what it leaves in the output: a refusal changes nothing
  unfoldable pub left_in : List Float → Result State Refusal → List Float
  left_in output (Ok state) = single_samples (filters_of state (mode_s_prototype (per_pulse state.setting) taps_s) (mode_ac_prototype (per_pulse state.setting) taps_ac)) (draw_at draw) noise
  left_in output (Err q) = output

  unfoldable pub single_output : List Float → List Float
  single_output output = left_in output (single_run (length output))
