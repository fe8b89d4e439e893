-- A model of code: the steps of a run call's loop, read as `run_call_model` has them. Only contracts within this crate cite it.
use Rattle.std.specs.Prelude.{ℕ, ◌+◌, ◌*◌, ◌≤◌, ◌<◌, List, ◌≡◌, length, drop, Float}
use Rattle.std.specs.Float.{nan}
use Rattle.run_theory.specs.Generator.{Generator}
use Rattle.run_call_model.specs.Progress as Theory
use Rattle.run_call_model.specs.Progress.{Within, step_fuel}
use Rattle.run_call.specs.declared.State.{State}
use Rattle.run_steps.specs.declared.Progress.{Progress}
use Rattle.run_steps.specs.declared.LastStep as LastStep
use Rattle.run_steps.specs.PlanModel.{stop_read}
use Rattle.run_steps.specs.ProgressModel.{added_of}
use Rattle.run_call.specs.StateGenerator.{gen_of}

-- the counts lie within the buffers; each draw taken adds at most what a u16 counts
pub record Inside (t : Progress) (noise output records : ℕ) : Type 0 where
  pub output_in : 2 * t.samples ≤ output
  pub noise_in_lem : 2 * t.samples ≤ noise
  pub records_in_lem : 66 * t.records ≤ records
  pub added_in : added_of t ≤ 65535 * t.taken

-- progress with working memory, the draw bytes that are left, and the two buffers
abbrev pub progress_read : (s : State) (mode_s mode_ac : List Float) → Progress → List Float → List ℕ → List Float → List ℕ → Theory.Progress (gen_of s mode_s mode_ac) nan
progress_read s mode_s mode_ac t memory rest output records = record {
  state = record { memory = memory; written = t.written; time = t.time; over = t.ended; mark = t.latest };
  taken = t.taken;
  samples = t.samples;
  lines = t.records;
  added = added_of t;
  rest = rest;
  output = output;
  records = records;
}

-- the draw bytes that are left after a step
abbrev pub rest_after : LastStep.LastStep → List ℕ → List ℕ
rest_after LastStep.TheVariants.SamplesWritten rest = rest
rest_after LastStep.TheVariants.DrawTaken rest = drop 65 rest
rest_after (LastStep.TheVariants.StopReached w) rest = rest

-- what a step yields, z before it and z' after it: the rest of the call is as it was, and nearer to its end; or the call is at its stop
module _ (G : Generator) (noise : List G.Value) (o : G.Value) where
  pub record Went (z z' : Theory.Progress G o) : Type 0 where
    pub same : Theory.rest_of G o noise z ≡ Theory.rest_of G o noise z'
    pub within : Within G o noise z'
    pub less : step_fuel G o noise z' < step_fuel G o noise z

  abbrev pub StepSays : LastStep.LastStep → Theory.Progress G o → Theory.Progress G o → Type 0
  StepSays LastStep.TheVariants.SamplesWritten z z' = Went z z' × (z'.taken ≡ z.taken) × (z'.added ≡ z.added)
  StepSays LastStep.TheVariants.DrawTaken z z' = Went z z' × (z'.taken ≡ z.taken + 1) × (G.draw_bytes ≤ length z.rest) × (z'.added ≤ z.added + 65535)
  StepSays (LastStep.TheVariants.StopReached w) z z' = (Theory.rest_of G o noise z ≡ Theory.stopped G o z' (stop_read w)) × (z'.samples ≡ z.samples)
