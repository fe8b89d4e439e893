-- Which answer of opening is right: refusals 15, 9, 1 to 4, 14, 5 and 6 each for its cause, and for the first cause in the order of SPECIFICATION 3.2.
use Rattle.std.specs.Prelude.{Some, Result, Ok, Err, ℕ, suc, ◌<◌, ◌≡◌, true, List, length, get_or, Float}
use Rattle.run_call.specs.declared.State.{State}
use Rattle.std.specs.Float.{nan}
use Rattle.constants.specs.Rate.{prototype_length, working_memory, mode_s_taps, mode_ac_taps}
use Rattle.constants.specs.Setting.{per_pulse}
use Rattle.constants.specs.declared.SamplesPerPulse.{SamplesPerPulse}
use Rattle.pulse_shape.specs.Prototype.{mode_s_prototype, mode_ac_prototype}
use Rattle.pulse_shape.specs.Accepted.{within16}
use Rattle.pulse_shape.specs.GroupDelay.{crosses, group_delay, mode_ac_group_delay}
use Rattle.refusals.specs.declared.Refusal.{Refusal}
use Rattle.refusals.specs.declared.Refusal.TheVariants as Cause
use Rattle.settings.specs.declared.Distributions.{Distributions}
use Rattle.settings.specs.Settings.{settings_length, settings_of}
use Rattle.settings.specs.FirstCause as Settings
use Rattle.run_open.specs.Opening.{OpenBuffers, first_state}

-- settings of the right length whose last byte says these samples per pulse
pub record SettingIs (bytes : List ℕ) (s : SamplesPerPulse) : Type 0 where
  pub long : length bytes ≡ settings_length
  pub byte : get_or bytes 123 0 ≡ per_pulse s

-- the lengths of opening's buffers
pub record Fits (s : SamplesPerPulse) (mode_s mode_ac memory : ℕ) : Type 0 where
  pub mode_s_is : mode_s ≡ prototype_length (per_pulse s)
  pub mode_ac_is : mode_ac ≡ prototype_length (per_pulse s)
  pub memory_is : memory ≡ working_memory (per_pulse s)

-- every value is finite and at most 16 in size
abbrev pub AllWithin16 : List Float → Type 0
AllWithin16 l = (i : ℕ) → i < length l → within16 (get_or l i nan) ≡ true

-- no cause for 5 (SPECIFICATION 3.1): the list has its length, and each tap is at most 16 in size
pub record GoodTaps (count : ℕ) (taps : List Float) : Type 0 where
  pub count_is : length taps ≡ count
  pub within : AllWithin16 taps

-- somewhere the level is at or above a value and below the next
abbrev pub Crosses : Float → List Float → Type 0
Crosses level l = (i : ℕ) × (suc i < length l) × (crosses level (get_or l i nan) (get_or l (suc i) nan) ≡ true)

-- no cause for 6 (SPECIFICATION 3.1): each value is at most 16 in size, and the level is crossed
pub record GoodPrototype (level : Float) (prototype : List Float) : Type 0 where
  pub within : AllWithin16 prototype
  pub crossing : Crosses level prototype

-- no cause for 9 (SPECIFICATION 3.1)
abbrev pub BuffersFit : SamplesPerPulse → OpenBuffers → Type 0
BuffersFit s l = Fits s (length l.mode_s) (length l.mode_ac) (length l.memory)

-- refusals 15, 9, 1 to 4 and 14 do not apply: the run has these samples per pulse, n samples and the distributions d
pub record NoEarlierCause (bytes : List ℕ) (l : OpenBuffers) (s : SamplesPerPulse) (n : ℕ) (d : Distributions) : Type 0 where
  pub setting : SettingIs bytes s
  pub lent : BuffersFit s l
  pub settings : Settings.Answered (per_pulse s) (settings_of bytes) (Ok (n, d))

-- of both filters
abbrev pub BothTaps : SamplesPerPulse → List Float → List Float → Type 0
BothTaps s taps_s taps_ac = GoodTaps (mode_s_taps (per_pulse s)) taps_s × GoodTaps (mode_ac_taps (per_pulse s)) taps_ac

abbrev pub BothPrototypes : SamplesPerPulse → Float → List Float → List Float → Type 0
BothPrototypes s level taps_s taps_ac = GoodPrototype level (mode_s_prototype (per_pulse s) taps_s) × GoodPrototype level (mode_ac_prototype (per_pulse s) taps_ac)

-- the settings' trigger level, one for both prototypes
abbrev pub level_of : List ℕ → Float
level_of bytes = (settings_of bytes).trigger_level

-- which answer is right: each refusal for its cause, where no earlier one applies, and a run where none does. `refused_settings` is refusals 1 to 4 and 14, in the order of `Settings.Answered`.
pub data Answered (taps_s taps_ac : List Float) (bytes : List ℕ) (l : OpenBuffers) : Result State Refusal → Type 0 where
  refused_settings_length : (length bytes ≡ settings_length → ⊥) → Answered taps_s taps_ac bytes l (Err Cause.Length)
  refused_15 : length bytes ≡ settings_length → ((s : SamplesPerPulse) → get_or bytes 123 0 ≡ per_pulse s → ⊥) → Answered taps_s taps_ac bytes l (Err Cause.SamplesPerPulse)
  refused_9 : {s : SamplesPerPulse} → SettingIs bytes s → (BuffersFit s l → ⊥) → Answered taps_s taps_ac bytes l (Err Cause.Length)
  refused_settings : {s : SamplesPerPulse} {q : Refusal} → SettingIs bytes s → BuffersFit s l → Settings.Answered (per_pulse s) (settings_of bytes) (Err q) → Answered taps_s taps_ac bytes l (Err q)
  refused_5 : {s : SamplesPerPulse} {n : ℕ} {d : Distributions} → NoEarlierCause bytes l s n d → (BothTaps s taps_s taps_ac → ⊥) → Answered taps_s taps_ac bytes l (Err Cause.Taps)
  refused_6 : {s : SamplesPerPulse} {n : ℕ} {d : Distributions} → NoEarlierCause bytes l s n d → BothTaps s taps_s taps_ac → (BothPrototypes s (level_of bytes) taps_s taps_ac → ⊥)
      → Answered taps_s taps_ac bytes l (Err Cause.Prototype)
  accepted : {s : SamplesPerPulse} {n : ℕ} {d : Distributions} {a b : Float} → NoEarlierCause bytes l s n d → BothTaps s taps_s taps_ac → BothPrototypes s (level_of bytes) taps_s taps_ac
      → group_delay (level_of bytes) (mode_s_prototype (per_pulse s) taps_s) ≡ Some a → mode_ac_group_delay (level_of bytes) (mode_ac_prototype (per_pulse s) taps_ac) ≡ Some b
      → Answered taps_s taps_ac bytes l (Ok (first_state s (settings_of bytes).rates n d a b))
