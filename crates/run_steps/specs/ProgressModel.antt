-- The progress of a run call after its plan was carried out. Counts are modulo 2^64, which no call reaches.
use Rattle.std.specs.Prelude.{ℕ, ◌+◌, ◌%◌, ◌^◌, Bool, true, cond, Float}
use Rattle.std.specs.Float.Ieee.{lt}
use Rattle.run_theory.specs.Added.{high_half, low_half, whole_of}
use Rattle.run_steps.specs.declared.Stop.{Stop}
use Rattle.run_steps.specs.declared.Plan as Plan
use Rattle.run_steps.specs.declared.Progress.{Progress}
use Rattle.run_steps.specs.declared.LastStep as LastStep

-- the number of reply samples added, which the two halves stand for
abbrev pub added_of : Progress → ℕ
added_of t = whole_of t.added_high t.added_low

-- the progress after n samples, after a draw with n records more and a reply's count, and at a stop
unfoldable pub progress_after_samples : Progress → ℕ → Float → Progress
progress_after_samples t n latest =
    record { written = (t.written + n) % 2 ^ 64; time = t.time; latest = latest; ended = t.ended; taken = t.taken; samples = (t.samples + n) % 2 ^ 64; records = t.records; added_high = t.added_high; added_low = t.added_low; last = LastStep.TheVariants.SamplesWritten }

unfoldable pub progress_after_draw : Progress → Float → Bool → ℕ → ℕ → Progress
progress_after_draw t time ended lines count =
    record { written = t.written; time = time; latest = t.latest; ended = ended; taken = (t.taken + 1) % 2 ^ 64; samples = t.samples; records = (t.records + lines) % 2 ^ 64; added_high = high_half (added_of t + count) % 2 ^ 64; added_low = low_half (added_of t + count); last = LastStep.TheVariants.DrawTaken }

unfoldable pub progress_after_stop : Progress → Stop → Progress
progress_after_stop t w =
    record { written = t.written; time = t.time; latest = t.latest; ended = t.ended; taken = t.taken; samples = t.samples; records = t.records; added_high = t.added_high; added_low = t.added_low; last = LastStep.TheVariants.StopReached w }

-- samples by a draw's start keep the latest time; a draw ends the run, or adds a record and its reply's count, or neither
unfoldable pub progress_after_step : Progress → Plan.Plan → ℕ → Progress
progress_after_step t (Plan.TheVariants.Halt w) count = progress_after_stop t w
progress_after_step t (Plan.TheVariants.Drain n) count = progress_after_samples t n t.latest
progress_after_step t (Plan.TheVariants.Due n time) count = progress_after_samples t n (cond (lt t.latest time) time t.latest)
progress_after_step t (Plan.TheVariants.Skip time) count = progress_after_draw t time t.ended 0 0
progress_after_step t (Plan.TheVariants.End time) count = progress_after_draw t time true 0 0
progress_after_step t (Plan.TheVariants.Add time first) count = progress_after_draw t time t.ended 1 count
