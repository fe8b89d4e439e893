-- Settings worked out from their bytes, computed: the worked tape (SPECIFICATION 11.3), which says 4 samples per pulse, is accepted with 8,000 samples, at 8 with 16,000, and each of refusals 15, 1 to 4 and 14 is met while all that comes after it is wrong too.
use Rattle.std.specs.Prelude.{Result, Ok, Err}
use Rattle.settings.specs.declared.Distributions.{Distributions}
use Rattle.refusals.specs.declared.Refusal.{Refusal}
use Prim.Native.Nat.{ℕ, ◌+◌, ◌-◌}
use mathlib.Core.Path.{◌≡◌, refl}
use mathlib.Core.List.{List, [], ◌∷◌, ◌++◌}
use lib.Ieee.{binary64, of_bits, of_int, add, lt, le, eq}
use Rattle.constants.specs.declared.SamplesPerPulse.TheVariants.{Four}
use Rattle.constants.specs.Setting.{per_pulse}
use Rattle.floats.specs.Range.{abs, within}
use Rattle.math.specs.Phase.{phase_wrap}
use Rattle.le_read.specs.LeBytes.{bytes_of, le_of, le_at, read_at}
use Rattle.distributions.specs.Accepted.{finite_not_negative, up_to, offset_limit, tenth, by_kind, clamped_normal, carrier_offset, carrier_phase, clock_error}
use Rattle.distributions.specs.declared.CarrierOffset.TheVariants as Offset
use Rattle.distributions.specs.declared.CarrierPhase.TheVariants as Phase
use Rattle.distributions.specs.declared.ClockError.TheVariants as Clock
use Rattle.settings_duration.specs.Duration.{duration_of}
use Rattle.settings.specs.Settings.{rates_at, raw_distribution_at, settings_of, rates_of}
use Rattle.settings.specs.Accepted.{setting_by, setting_at, at_setting, first_bad_rate, sum_from, total_of, total_fits, with_clock, with_phase, with_offset, distributions_of, total_then, rates_then, duration_then, values_of, level_in_range, level_then, accepted_of}

-- a rate of 1.0 and one of -1.0
abbrev pub one : ℕ
one = 0x3ff0_0000_0000_0000

abbrev pub minus : ℕ
minus = 0xbff0_0000_0000_0000

-- a trigger level of 0.5, the least and the greatest one, and those beside them
abbrev pub half : ℕ
half = 0x3f00_0000

abbrev pub least : ℕ
least = 0x3dcc_cccd

abbrev pub greatest : ℕ
greatest = 0x3f66_6666

-- a distribution of a kind whose numbers are 0
abbrev pub asked : ℕ → List ℕ
asked kind = (kind ∷ []) ++ bytes_of 8 0 ++ bytes_of 8 0

-- settings of 0 s and n nanoseconds, six rates and a seventh, the kinds of the three distributions, the bits of the trigger level, and the samples per pulse
abbrev pub bytes_asked : ℕ → ℕ → ℕ → ℕ → ℕ → ℕ → ℕ → ℕ → List ℕ
bytes_asked nanoseconds rate last carrier phase clock level samples =
    bytes_of 8 0
    ++ bytes_of 4 nanoseconds
    ++ bytes_of 8 rate
    ++ bytes_of 8 rate
    ++ bytes_of 8 rate
    ++ bytes_of 8 rate
    ++ bytes_of 8 rate
    ++ bytes_of 8 rate
    ++ bytes_of 8 last
    ++ asked carrier
    ++ asked phase
    ++ asked clock
    ++ bytes_of 4 level
    ++ (samples ∷ [])

-- what is answered to such settings
abbrev pub answer : ℕ → ℕ → ℕ → ℕ → ℕ → ℕ → ℕ → ℕ → Result (ℕ × Distributions) Refusal
answer nanoseconds rate last carrier phase clock level samples =
    at_setting (λ s. accepted_of (per_pulse s) (settings_of (bytes_asked nanoseconds rate last carrier phase clock level samples)))
    (setting_at (bytes_asked nanoseconds rate last carrier phase clock level samples))

abbrev pub answers : List (Result (ℕ × Distributions) Refusal)
answers =
    answer 1000000 one one 0 0 0 half 4
    ∷ answer 1000000 one one 0 0 0 least 4
    ∷ answer 1000000 one one 0 0 0 greatest 4
    ∷ answer 1000000 one one 0 0 0 half 8
    ∷ answer 1000000000 minus minus 2 2 2 0 5
    ∷ answer 1000000000 minus minus 2 2 2 0 4
    ∷ answer 999999999 one minus 2 2 2 0 4
    ∷ answer 999999999 0 0 2 2 2 0 4
    ∷ answer 999999999 0 one 2 2 2 0 4
    ∷ answer 999999999 0 one 1 2 2 0 4
    ∷ answer 999999999 0 one 1 1 2 0 4
    ∷ answer 999999999 0 one 1 1 1 (least - 1) 4
    ∷ answer 999999999 0 one 1 1 1 (greatest + 1) 4
    ∷ answer 999999999 0 one 1 1 1 0x7fc0_0000 4
    ∷ []

abbrev pub as_worked : ℕ → Result (ℕ × Distributions) Refusal
as_worked n = Ok (n, (record { carrier = Offset.Constant (of_bits binary64 0); phase = Phase.Constant (phase_wrap (of_bits binary64 0)); clock = Clock.Constant (of_bits binary64 0) }))

-- the worked tape's samples per pulse
pub worked_setting : setting_at (bytes_asked 1000000 one one 0 0 0 half 4) ≡ Ok Four
unfolding setting_at setting_by bytes_of
worked_setting = refl

pub worked : answers
    ≡ (as_worked 8000
    ∷ as_worked 8000
    ∷ as_worked 8000
    ∷ as_worked 16000
    ∷ Err Refusal.SamplesPerPulse
    ∷ Err Refusal.Duration
    ∷ Err (Refusal.Rate 6)
    ∷ Err Refusal.Total
    ∷ Err (Refusal.Distribution 0)
    ∷ Err (Refusal.Distribution 1)
    ∷ Err (Refusal.Distribution 2)
    ∷ Err Refusal.TriggerLevel
    ∷ Err Refusal.TriggerLevel
    ∷ Err Refusal.TriggerLevel
    ∷ [])
unfolding at_setting setting_at setting_by accepted_of level_then level_in_range values_of duration_then duration_of rates_then total_then first_bad_rate finite_not_negative total_fits total_of sum_from distributions_of with_offset with_phase with_clock carrier_offset carrier_phase clock_error clamped_normal by_kind up_to offset_limit tenth within abs settings_of rates_at rates_of raw_distribution_at read_at le_at le_of bytes_of of_bits of_int add lt le eq
worked = refl
