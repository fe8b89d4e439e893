-- A model of code: samples that are due, written at once as numbers, and working memory after them. What they mean in plain terms is shown in `run_call_model`.
use Rattle.std.specs.Prelude.{Bool, cond, ◌&&◌, List, ℕ, ◌+◌, ◌*◌, eqb, leb, length, take, drop, Float}
use Rattle.std.specs.Float.{nan}
use Rattle.run_theory.specs.Generator.{Generator}
use Rattle.run_theory.specs.PlainBench.{pairs, flatten}
use Rattle.le_read.specs.LeBytes.{overwritten}
use Rattle.run_call_model.specs.Batch.{written, cleared, mixed}
use Rattle.constants.specs.Rate.{working_memory}
use Rattle.constants.specs.Setting.{per_pulse}
use Rattle.constants.specs.declared.SamplesPerPulse.{SamplesPerPulse}
use Rattle.constants.specs.declared.SamplesPerPulse.TheVariants.{Four}
use Rattle.run_theory.specs.FloatGenerator.{no_draws, generator}

-- a generator without draws: samples that are due do not depend on them
abbrev pub gen : SamplesPerPulse → Generator
gen setting = generator no_draws (per_pulse setting) 0

-- numbers of memory with their noise: they do not depend on the samples per pulse, so that either setting gives them
abbrev pub mix : List Float → List Float → List Float
mix xs vs = mixed (gen Four) nan xs vs

-- the numbers of the samples written from memory m on, the next being sample w, with this noise
unfoldable pub samples_of : SamplesPerPulse → List Float → ℕ → List Float → List Float
samples_of setting m w xs = flatten (written (gen setting) nan m w (pairs xs))

-- memory after n of them
unfoldable pub clear_of : SamplesPerPulse → List Float → ℕ → ℕ → List Float
clear_of setting m w n = cleared (gen setting) nan m w n

-- memory has its length, and noise and output hold k samples and n more
unfoldable pub fits_of : SamplesPerPulse → ℕ → ℕ → ℕ → ℕ → ℕ → Bool
fits_of setting memory noise output k n = eqb memory (working_memory (per_pulse setting)) && leb (2 * (k + n)) noise && leb (2 * (k + n)) output

-- what is written
pub record DueBuffers : Type 0 where
  pub memory : List Float
  pub output : List Float

-- n samples that are due, from sample w on, after k samples of the call; where they do not fit, nothing is changed
unfoldable pub due_of : SamplesPerPulse → List Float → ℕ → ℕ → ℕ → DueBuffers → DueBuffers
due_of setting noise w k n l =
    cond (fits_of setting (length l.memory) (length noise) (length l.output) k n)
    (record { memory = clear_of setting l.memory w n; output = overwritten l.output (2 * k) (samples_of setting l.memory w (take (2 * n) (drop (2 * k) noise))) })
    l
