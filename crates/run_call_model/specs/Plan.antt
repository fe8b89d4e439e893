-- A model of the code, and not the specification's words: what it chooses to do at each step, a stop, n samples at once, or a draw.
use Rattle.std.specs.Prelude.{Bool, true, false, cond, ℕ, ◌-◌, ◌/◌, min, eqb, leb, ltb}
use Rattle.run_theory.specs.Generator.{Generator}
use Rattle.run_theory.specs.PlainRun.{Kind, ignored, ends, reply}
use Rattle.run_theory.specs.PlainBench.{Stop, done, output_full, wants_noise, wants_draws, records_full}

-- of times T: a stop; n samples after the end draw; n samples by the start of the next draw, at its time; a draw taken at its time, ignored, ending the run, or a reply from its start on
pub data Plan (T : Type 0) : Type 0 where
  stop_at : Stop → Plan T
  drain_many : ℕ → Plan T
  due_many : ℕ → T → Plan T
  ignore : T → Plan T
  end_run : T → Plan T
  add_reply : T → ℕ → Plan T

-- ---- the choice, from counts alone: numbers left in output and noise, bytes left for records
-- as many of the samples due as there is room and noise for
abbrev pub batch : ℕ → ℕ → ℕ → ℕ
batch n room noise = min n (min (room / 2) (noise / 2))

-- where none can be written
abbrev pub stop_for : ℕ → Stop
stop_for room = cond (ltb room 2) output_full wants_noise

abbrev pub some_or : {T : Type 0} → (ℕ → Plan T) → ℕ → ℕ → Plan T
some_or f n room = cond (eqb n 0) (stop_at (stop_for room)) (f n)

module _ (G : Generator) where
  open G use {Time, draw_bytes, record_bytes, hold, total}

  abbrev pub plan_ended : ℕ → ℕ → ℕ → Plan Time
  plan_ended written room noise = cond (leb total written) (stop_at done) (some_or drain_many (batch (total - written) room noise) room)

  -- a reply by whose start n samples are due
  abbrev pub plan_reply : ℕ → Time → ℕ → ℕ → ℕ → ℕ → Plan Time
  plan_reply n time s room noise bytes =
      cond (ltb 0 n) (some_or (λ k. due_many k time) (batch n room noise) room) (cond (ltb bytes record_bytes) (stop_at records_full) (add_reply time s))

  abbrev pub plan_draw : ℕ → Time → Kind → ℕ → ℕ → ℕ → Plan Time
  plan_draw written time ignored room noise bytes = ignore time
  plan_draw written time ends room noise bytes = end_run time
  plan_draw written time (reply s) room noise bytes = plan_reply (s - hold - written) time s room noise bytes

  -- `rest` counts the draw bytes that are left
  abbrev pub plan : Bool → ℕ → ℕ → Time → Kind → ℕ → ℕ → ℕ → Plan Time
  plan true written rest time k room noise bytes = plan_ended written room noise
  plan false written rest time k room noise bytes = cond (ltb rest draw_bytes) (stop_at wants_draws) (plan_draw written time k room noise bytes)
