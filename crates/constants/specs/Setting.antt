-- The setting of a run's samples per pulse: what stands below over `s` holds for both of its values.
use Rattle.std.specs.Prelude.{ℕ, cond, eqb}
use Rattle.constants.specs.declared.SamplesPerPulse.{SamplesPerPulse}
use Rattle.constants.specs.declared.SamplesPerPulse.TheVariants.{Four, Eight}
use Rattle.constants.specs.declared.Mode.{Mode}
use Rattle.constants.specs.declared.Mode.TheVariants.{S, Ac}

-- the number of samples that a pulse of 500 ns has
abbrev pub per_pulse : SamplesPerPulse → ℕ
per_pulse Four = 4
per_pulse Eight = 8

-- the setting that a number stands for where it is not refused: 8 for 8 samples per pulse, any other for 4
abbrev pub setting_from : ℕ → SamplesPerPulse
setting_from n = cond (eqb n 8) Eight Four

-- the first of two numbers at 4, and the second at 8
unfoldable pub either : SamplesPerPulse → ℕ → ℕ → ℕ
either Four a b = a
either Eight a b = b

-- the first of two where the mode is Mode S, and the second where it is Mode A/C
unfoldable pub by_mode : {A : Type 0} → Mode → A → A → A
by_mode S a b = a
by_mode Ac a b = b
