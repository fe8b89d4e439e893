-- The samples of a duration are those of SPECIFICATION 5.1 at 4 samples per pulse; at 8 they are seconds times 16,000,000 and twice the nanoseconds / 125, rounded down once.
use mathlib.Core.Path.{◌≡◌}
use Prim.Native.Nat.{ℕ, ◌+◌, ◌*◌, ◌/◌}
use native.Mathlib.Omega.{arith}
use Rattle.constants.specs.declared.SamplesPerPulse.TheVariants.{Four, Eight}
use Rattle.constants.specs.Setting.{per_pulse}
use Rattle.settings_duration.specs.Duration.{samples_of}

pub samples_at_four : (seconds nanoseconds : ℕ) → samples_of (per_pulse Four) seconds nanoseconds ≡ seconds * 8000000 + nanoseconds / 125
samples_at_four seconds nanoseconds = omega arith

pub samples_at_eight : (seconds nanoseconds : ℕ) → samples_of (per_pulse Eight) seconds nanoseconds ≡ seconds * 16000000 + 2 * nanoseconds / 125
samples_at_eight seconds nanoseconds = omega arith
