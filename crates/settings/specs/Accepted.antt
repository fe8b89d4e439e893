-- Refusals 15, 1 to 4 and 14 of settings, in that order (SPECIFICATION 3.2), or what is accepted: the run's samples and its distributions.
use Rattle.std.specs.Prelude.{Option, Some, None, Result, Ok, Err, ℕ, suc, Bool, ◌&&◌, cond, eqb, List, [], ◌∷◌, length, get_or, Float}
use Rattle.constants.specs.declared.SamplesPerPulse.{SamplesPerPulse}
use Rattle.constants.specs.declared.SamplesPerPulse.TheVariants.{Four, Eight}
use Rattle.settings.specs.declared.Distributions.{Distributions}
use Rattle.std.specs.Float.{binary32, binary64}
use Rattle.std.specs.Float.Ieee.{of_bits, add, lt, le}
use Rattle.std.specs.Float.Ieee.Scale.{finite}
use Rattle.distributions.specs.Accepted.{finite_not_negative, carrier_offset, carrier_phase, clock_error}
use Rattle.distributions.specs.declared.CarrierOffset.{CarrierOffset}
use Rattle.distributions.specs.declared.CarrierPhase.{CarrierPhase}
use Rattle.distributions.specs.declared.ClockError.{ClockError}
use Rattle.settings_duration.specs.Duration.{duration_of}
use Rattle.refusals.specs.declared.Refusal as Refusal
use Rattle.settings.specs.declared.Settings.{Settings}
use Rattle.settings.specs.Settings.{settings_length, rates_of}

-- the samples per pulse that a byte says; another value than 4 and 8 is refusal 15
unfoldable pub setting_by : ℕ → Result SamplesPerPulse Refusal.Refusal
setting_by n = cond (eqb n 4) (Ok Four) (cond (eqb n 8) (Ok Eight) (Err Refusal.TheVariants.SamplesPerPulse))

-- those of settings, their last byte: all other numbers are read by it, so that it comes before every other refusal but 9 for settings of another length, which have no such byte (docs/DECISIONS.md)
unfoldable pub setting_at : List ℕ → Result SamplesPerPulse Refusal.Refusal
setting_at s = cond (eqb (length s) settings_length) (setting_by (get_or s 123 0)) (Err Refusal.TheVariants.Length)

-- what follows at the samples per pulse of settings, where they have any
unfoldable pub at_setting : {X : Type 0} → (SamplesPerPulse → Result X Refusal.Refusal) → Result SamplesPerPulse Refusal.Refusal → Result X Refusal.Refusal
at_setting next (Ok setting) = next setting
at_setting next (Err q) = Err q

-- the first rate that is negative or not finite, the rates counted from k
unfoldable pub first_bad_rate : ℕ → List Float → Option ℕ
first_bad_rate k [] = None
first_bad_rate k (r ∷ rs) = cond (finite_not_negative r) (first_bad_rate (suc k) rs) (Some k)

-- the rates' total, summed in order from the first on, as the Rust does
unfoldable pub sum_from : Float → List Float → Float
sum_from t [] = t
sum_from t (r ∷ rs) = sum_from (add binary64 t r) rs

unfoldable pub total_of : List Float → Float
total_of [] = of_bits binary64 0
total_of (r ∷ rs) = sum_from r rs

-- a total that is above 0 and finite
unfoldable pub total_fits : Float → Bool
total_fits t = lt (of_bits binary64 0) t && finite t

-- the refusal of the first distribution at fault, in the order of the settings, or all three
unfoldable pub with_clock : ℕ → CarrierOffset → CarrierPhase → Result ClockError Refusal.Refusal → Result (ℕ × Distributions) Refusal.Refusal
with_clock n carrier phase (Ok clock) = Ok (n, (record { carrier = carrier; phase = phase; clock = clock }))
with_clock n carrier phase (Err q) = Err q

unfoldable pub with_phase : ℕ → CarrierOffset → Result CarrierPhase Refusal.Refusal → Result ClockError Refusal.Refusal → Result (ℕ × Distributions) Refusal.Refusal
with_phase n carrier (Ok phase) clock = with_clock n carrier phase clock
with_phase n carrier (Err q) clock = Err q

unfoldable pub with_offset : ℕ → Result CarrierOffset Refusal.Refusal → Result CarrierPhase Refusal.Refusal → Result ClockError Refusal.Refusal → Result (ℕ × Distributions) Refusal.Refusal
with_offset n (Ok carrier) phase clock = with_phase n carrier phase clock
with_offset n (Err q) phase clock = Err q

unfoldable pub distributions_of : ℕ → ℕ → Settings → Result (ℕ × Distributions) Refusal.Refusal
distributions_of sps n s = with_offset n (carrier_offset sps s.carrier) (carrier_phase s.phase) (clock_error s.clock)

-- refusal 2, with the first rate at fault; then 3; then 4
unfoldable pub total_then : ℕ → ℕ → Settings → Option ℕ → Result (ℕ × Distributions) Refusal.Refusal
total_then sps n s None = cond (total_fits (total_of (rates_of s.rates))) (distributions_of sps n s) (Err Refusal.TheVariants.Total)
total_then sps n s (Some k) = Err (Refusal.TheVariants.Rate k)

unfoldable pub rates_then : ℕ → ℕ → Settings → Result (ℕ × Distributions) Refusal.Refusal
rates_then sps n s = total_then sps n s (first_bad_rate 0 (rates_of s.rates))

-- refusal 1, then the others
unfoldable pub duration_then : ℕ → Settings → Result ℕ Refusal.Refusal → Result (ℕ × Distributions) Refusal.Refusal
duration_then sps s (Ok n) = rates_then sps n s
duration_then sps s (Err q) = Err q

unfoldable pub values_of : ℕ → Settings → Result (ℕ × Distributions) Refusal.Refusal
values_of sps s = duration_then sps s (duration_of sps s.seconds s.nanoseconds)

-- the nearest f32 of 0.1 and of 0.9
abbrev pub least_level : Float
least_level = of_bits binary32 0x3dcc_cccd

abbrev pub greatest_level : Float
greatest_level = of_bits binary32 0x3f66_6666

-- a trigger level from 0.1 to 0.9, both ends allowed: no comparison with a NaN holds
unfoldable pub level_in_range : Float → Bool
level_in_range level = le least_level level && le level greatest_level

-- refusal 14, where none of 1 to 4 was found
unfoldable pub level_then : Float → Result (ℕ × Distributions) Refusal.Refusal → Result (ℕ × Distributions) Refusal.Refusal
level_then level (Ok (n, d)) = cond (level_in_range level) (Ok (n, d)) (Err Refusal.TheVariants.TriggerLevel)
level_then level (Err q) = Err q

unfoldable pub accepted_of : ℕ → Settings → Result (ℕ × Distributions) Refusal.Refusal
accepted_of sps s = level_then s.trigger_level (values_of sps s)
