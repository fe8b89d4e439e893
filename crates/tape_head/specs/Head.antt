-- A tape up to its noise (SPECIFICATION 4.6), its faults in the order of SPECIFICATION 11.2.
use Rattle.std.specs.Prelude.{ℕ, ◌+◌, ◌*◌, Option, Some, None, Result, Ok, Err, List, take, drop, Float}
use Rattle.constants.specs.Rate.{mode_s_taps}
use Rattle.constants.specs.Setting.{per_pulse}
use Rattle.constants.specs.declared.SamplesPerPulse.{SamplesPerPulse}
use Rattle.le_read.specs.LeBytes.{read_at}
use Rattle.refusals.specs.declared.Refusal.{Refusal}
use Rattle.refusals.specs.declared.Refusal.TheVariants.{Draw, Tape}
use Rattle.settings.specs.declared.Distributions.{Distributions}
use Rattle.settings.specs.Settings.{settings_length, settings_of}
use Rattle.settings.specs.Accepted.{setting_at, at_setting, accepted_of}
use Rattle.draw.specs.Fault.{first_fault}
use Rattle.run_call.specs.declared.State.{State}
use Rattle.run_open.specs.Opening.{OpenBuffers, opened_of, left_by}
use Rattle.tape_sections.specs.Floats.{floats_of}
use Rattle.tape_sections.specs.Sections.{most_draws, taps_offset, taps_count, draws_offset, noise_offset, section_at}
use Rattle.tape_head.specs.declared.Beginning.{Beginning}

-- a run begins, with this state, n draws and a count of noise values
abbrev pub run_of : State → ℕ → ℕ → (Result Beginning Refusal)
run_of s n count = Ok (record { state = s; draws = n; noise = count })

module _ (sps : ℕ) (tape : List ℕ) where
  -- the noise's count, behind n draws
  unfoldable pub noise_then : State → ℕ → (Result Beginning Refusal)
  noise_then s n = read_at 4 (run_of s n) (Err Tape) tape (noise_offset sps n)

  -- refusal 7, then the noise
  unfoldable pub fault_then : State → ℕ → (Option (ℕ × ℕ)) → (Result Beginning Refusal)
  fault_then s n None = noise_then s n
  fault_then s n (Some (k, field)) = Err (Draw k field)

  -- the draws, 65 bytes each (SPECIFICATION 4.4)
  unfoldable pub draws_then : State → (Option ℕ) → (Result Beginning Refusal)
  draws_then s (Some n) = fault_then s n (first_fault s.rates s.distributions (take (65 * n) (drop (draws_offset sps + 4) tape)))
  draws_then s None = Err Tape

  -- refusals 5 and 6, then the draws
  unfoldable pub opened_then : (Result State Refusal) → (Result Beginning Refusal)
  opened_then (Ok s) = draws_then s (section_at tape (draws_offset sps) 0 most_draws 65)
  opened_then (Err q) = Err q

  -- the taps (SPECIFICATION 4.6): Mode S, then Mode A/C
  unfoldable pub taps : List Float
  taps = floats_of (taps_count sps) (drop (taps_offset + 4) tape)

  unfoldable pub taps_s : List Float
  taps_s = take (mode_s_taps sps) taps

  unfoldable pub taps_ac : List Float
  taps_ac = drop (mode_s_taps sps) taps

-- the settings' bytes
unfoldable pub settings_bytes : List ℕ → List ℕ
settings_bytes tape = take settings_length (drop 4 tape)

-- behind the settings' count and length: refusal 15, or their samples per pulse
unfoldable pub setting_then : List ℕ → (Option ℕ) → (Result SamplesPerPulse Refusal)
setting_then tape (Some n) = setting_at (settings_bytes tape)
setting_then tape None = Err Tape

-- the taps' count and length
unfoldable pub taps_then : (Option ℕ) → (Result (Unit {0}) Refusal)
taps_then (Some n) = Ok tt
taps_then None = Err Tape

-- what stands before the taps' values, at the settings' samples per pulse: refusals 1 to 4 and 14, then the taps' count and length
module _ (sps : ℕ) (tape : List ℕ) where
  unfoldable pub checked_then : (Result (ℕ × Distributions) Refusal) → (Result (Unit {0}) Refusal)
  checked_then (Ok (samples, all)) = taps_then (section_at tape taps_offset (taps_count sps) (taps_count sps) 4)
  checked_then (Err q) = Err q

  unfoldable pub early_of : Result (Unit {0}) Refusal
  early_of = checked_then (accepted_of sps (settings_of (settings_bytes tape)))

  -- opening, given the taps of a tape
  unfoldable pub opened_from : OpenBuffers → (Result State Refusal)
  opened_from lent = opened_of (taps_s sps tape) (taps_ac sps tape) (settings_bytes tape) lent

-- a tape's beginning, and what is left in the buffers of opening
pub record Begun : Type 0 where
  pub head : Result Beginning Refusal
  pub left : OpenBuffers

module _ (tape : List ℕ) (lent : OpenBuffers) where
  unfoldable pub early_then : ℕ → (Result (Unit {0}) Refusal) → (Result Beginning Refusal)
  early_then sps (Ok u) = opened_then sps tape (opened_from sps tape lent)
  early_then sps (Err q) = Err q

  unfoldable pub at_rate : SamplesPerPulse → Result Beginning Refusal
  at_rate setting = early_then (per_pulse setting) (early_of (per_pulse setting) tape)

  -- settings, taps, draws, and the noise's count
  unfoldable pub beginning_of : Result Beginning Refusal
  beginning_of = at_setting at_rate (setting_then tape (section_at tape 0 1 1 settings_length))

  -- a run leaves what opening does; a refusal leaves every buffer as it was (SPECIFICATION 3.3)
  unfoldable pub left_then : (Result Beginning Refusal) → OpenBuffers
  left_then (Ok b) = left_by (taps_s (per_pulse b.state.setting) tape) (taps_ac (per_pulse b.state.setting) tape) (Ok b.state) lent
  left_then (Err q) = lent

  -- a tape up to its noise
  unfoldable pub head_of : Begun
  head_of = record { head = beginning_of; left = left_then beginning_of }
