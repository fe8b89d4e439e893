-- The samples of a duration, by the samples per pulse, and what a duration answers.
use Rattle.std.specs.Prelude.{Result, Ok, Err, ℕ, ◌+◌, ◌*◌, ◌/◌, ◌^◌, cond, ltb, leb}
use Rattle.refusals.specs.declared.Refusal.{Refusal}
use Rattle.refusals.specs.declared.Refusal.TheVariants.{Duration}
use Rattle.constants.specs.Rate.{sample_rate}

-- seconds times 8,000,000 plus nanoseconds / 125 rounded down at 4 samples per pulse of 500 ns; at 8, seconds times 16,000,000 plus 2 * nanoseconds / 125, the quotient rounded down once
abbrev pub samples_of : ℕ → ℕ → ℕ → ℕ
samples_of sps seconds nanoseconds = seconds * sample_rate sps + nanoseconds * sps / 500

-- the most samples of a run
abbrev pub most_samples : ℕ
most_samples = 2 ^ 52

-- nanoseconds 1,000,000,000 or more, or duration above 2^52 samples: refusal 1
unfoldable pub duration_of : ℕ → ℕ → ℕ → Result ℕ Refusal
duration_of sps seconds nanoseconds =
    cond (leb 1000000000 nanoseconds) (Err Duration)
    (cond (ltb most_samples (samples_of sps seconds nanoseconds)) (Err Duration) (Ok (samples_of sps seconds nanoseconds)))
