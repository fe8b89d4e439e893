-- Opening a run (SPECIFICATION 8.2): its checks in order, and what it fills.
use Rattle.std.specs.Prelude.{Option, None, Result, Ok, Err, ℕ, Bool, false, ◌&&◌, cond, List, eqb, length, take, Float}
use Rattle.constants.specs.Rate.{prototype_length, working_memory}
use Rattle.constants.specs.Setting.{per_pulse}
use Rattle.constants.specs.declared.SamplesPerPulse.{SamplesPerPulse}
use Rattle.run_theory.specs.FloatGenerator.{nought}
use Rattle.run_theory.specs.Zeros.{zeros}
use Rattle.pulse_shape.specs.Prototype.{mode_s_prototype, mode_ac_prototype}
use Rattle.pulse_shape.specs.Accepted.{all_within16, mode_s_taps_accepted, mode_ac_taps_accepted}
use Rattle.pulse_shape.specs.GroupDelay.{group_delay, mode_ac_group_delay, crossing_answer}
use Rattle.refusals.specs.declared.Refusal as Refusal
use Rattle.run_call.specs.declared.State.{State}
use Rattle.settings.specs.declared.MessagesPerSecond.{MessagesPerSecond}
use Rattle.settings.specs.declared.Distributions.{Distributions}
use Rattle.settings.specs.declared.Settings.{Settings}
use Rattle.settings.specs.Settings.{settings_of}
use Rattle.settings.specs.Accepted.{setting_at, at_setting, accepted_of}
use Rattle.run_open.specs.declared.Prepared.{Prepared}

-- the buffers that opening writes: the two prototypes and working memory
pub record OpenBuffers : Type 0 where
  pub mode_s : List Float
  pub mode_ac : List Float
  pub memory : List Float

-- the state before the first run call: no sample written, no draw taken, no time by whose start a sample was written
unfoldable pub first_state : SamplesPerPulse → MessagesPerSecond → ℕ → Distributions → Float → Float → State
first_state setting rates total all mode_s mode_ac = record {
  written = 0;
  total = total;
  time = nought;
  latest = nought;
  ended = false;
  rates = rates;
  delays = record { mode_s = mode_s; mode_ac = mode_ac };
  distributions = all;
  setting = setting;
}

-- the lengths of the two prototypes and of working memory are 1,792, 1,792 and 2,252 at 4 samples per pulse
unfoldable pub buffers_fit : ℕ → ℕ → ℕ → ℕ → Bool
buffers_fit sps mode_s mode_ac memory = eqb memory (working_memory sps) && eqb mode_s (prototype_length sps) && eqb mode_ac (prototype_length sps)

-- the delay of a prototype; nowhere where a value is not finite or above 16 in size
unfoldable pub mode_s_delay : Float → List Float → Option Float
mode_s_delay level prototype = cond (all_within16 prototype) (group_delay level prototype) None

unfoldable pub mode_ac_delay : Float → List Float → Option Float
mode_ac_delay level prototype = cond (all_within16 prototype) (mode_ac_group_delay level prototype) None

-- the run's first state, or the refusal of the first prototype without a delay
unfoldable pub delays_given : SamplesPerPulse → MessagesPerSecond → ℕ → Distributions → Result Float Refusal.Refusal → Result Float Refusal.Refusal → Result State Refusal.Refusal
delays_given setting rates total all (Ok a) (Ok b) = Ok (first_state setting rates total all a b)
delays_given setting rates total all (Ok a) (Err refusal) = Err refusal
delays_given setting rates total all (Err refusal) b = Err refusal

-- refusal 6 (SPECIFICATION 6.2, 6.3), or the run's first state
unfoldable pub delays_then : SamplesPerPulse → MessagesPerSecond → ℕ → Distributions → Option Float → Option Float → Result State Refusal.Refusal
delays_then setting rates total all mode_s mode_ac = delays_given setting rates total all (crossing_answer mode_s) (crossing_answer mode_ac)

-- the samples per pulse, the trigger level, and the two lowpasses
module _ (setting : SamplesPerPulse) (level : Float) (taps_s taps_ac : List Float) where
  unfoldable pub delays_of : MessagesPerSecond → ℕ → Distributions → Result State Refusal.Refusal
  delays_of rates total all = delays_then setting rates total all (mode_s_delay level (mode_s_prototype (per_pulse setting) taps_s)) (mode_ac_delay level (mode_ac_prototype (per_pulse setting) taps_ac))

  -- refusal 5 (SPECIFICATION 4.3), then 6
  unfoldable pub taps_of : MessagesPerSecond → ℕ → Distributions → Result State Refusal.Refusal
  taps_of rates total all = cond (mode_s_taps_accepted (per_pulse setting) taps_s && mode_ac_taps_accepted (per_pulse setting) taps_ac) (delays_of rates total all) (Err Refusal.TheVariants.Taps)

module _ (taps_s taps_ac : List Float) where
  -- refusals 1 to 4 and 14, of the settings; then 5 and 6, both prototypes at the settings' trigger level
  unfoldable pub settings_then : SamplesPerPulse → Settings → Result (ℕ × Distributions) Refusal.Refusal → Result State Refusal.Refusal
  settings_then setting s (Ok (total, all)) = taps_of setting s.trigger_level taps_s taps_ac s.rates total all
  settings_then setting s (Err refusal) = Err refusal

  -- what opening answers at the settings' samples per pulse where every length is right
  unfoldable pub opened_at : List ℕ → SamplesPerPulse → Result State Refusal.Refusal
  opened_at bytes setting = settings_then setting (settings_of bytes) (accepted_of (per_pulse setting) (settings_of bytes))

  -- given prototypes and working memory of these lengths: refusal 9, "working memory not 2,252 f32, a prototype not 1,792 f32", or of the lengths at 8; then the others
  unfoldable pub lengths_then : List ℕ → ℕ → ℕ → ℕ → SamplesPerPulse → Result State Refusal.Refusal
  lengths_then bytes mode_s mode_ac memory setting = cond (buffers_fit (per_pulse setting) mode_s mode_ac memory) (opened_at bytes setting) (Err Refusal.TheVariants.Length)

  -- 15 comes before all others, but for 9 for settings of another length than 124 bytes (docs/DECISIONS.md)
  unfoldable pub opened_for : List ℕ → ℕ → ℕ → ℕ → Result State Refusal.Refusal
  opened_for bytes mode_s mode_ac memory = at_setting (lengths_then bytes mode_s mode_ac memory) (setting_at bytes)

  unfoldable pub opened_of : List ℕ → OpenBuffers → Result State Refusal.Refusal
  opened_of bytes lent = opened_for bytes (length lent.mode_s) (length lent.mode_ac) (length lent.memory)

-- a run that is opened, with the prototypes that it is opened with
pub record Opened : Type 0 where
  pub state : State
  pub mode_s : List Float
  pub mode_ac : List Float

unfoldable pub with_prototypes : List Float → List Float → Result State Refusal.Refusal → Result Opened Refusal.Refusal
with_prototypes taps_s taps_ac (Ok state) = Ok (record { state = state; mode_s = mode_s_prototype (per_pulse state.setting) taps_s; mode_ac = mode_ac_prototype (per_pulse state.setting) taps_ac })
with_prototypes taps_s taps_ac (Err refusal) = Err refusal

-- the code's answer so read: of each array the values in use
unfoldable pub prepared_read : Result Prepared Refusal.Refusal → Result Opened Refusal.Refusal
prepared_read (Ok p) = Ok (record { state = p.state; mode_s = take (prototype_length (per_pulse p.state.setting)) p.mode_s; mode_ac = take (prototype_length (per_pulse p.state.setting)) p.mode_ac })
prepared_read (Err refusal) = Err refusal

-- what opening leaves (SPECIFICATION 8.2): a refusal changes no buffer
unfoldable pub left_by : List Float → List Float → Result State Refusal.Refusal → OpenBuffers → OpenBuffers
left_by taps_s taps_ac (Ok state) lent =
    record { mode_s = mode_s_prototype (per_pulse state.setting) taps_s; mode_ac = mode_ac_prototype (per_pulse state.setting) taps_ac; memory = zeros (working_memory (per_pulse state.setting)) }
left_by taps_s taps_ac (Err refusal) lent = lent
