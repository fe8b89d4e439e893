-- The call as the code goes, on flat buffers, due samples at once, with a bound on its steps: `batched-result` and `batched-state` show it to be the call step by step, and the bound to be enough.
use Rattle.std.specs.Prelude.{None}
use mathlib.Core.List.{List}
use mathlib.Core.Path.{◌≡◌, refl, sym, ap, ◌∙◌}
use Prim.Native.Nat.{ℕ, zero, suc, ◌+◌, ◌-◌, ◌*◌, ◌/◌, ◌≤◌, ◌<◌}
use native.Mathlib.Nat.{mul-add}
use native.Mathlib.Omega.{arith}
use lib.ListN.{length, drop}
use Rattle.run_theory.specs.Generator.{Generator}
use Rattle.run_theory.specs.PlainRun.{Kind, ignored, ends, reply}
use Rattle.run_theory.specs.PlainBench.{Stop, wants_draws, Call, result_of}
use Rattle.run_call_model.specs.Machine.{later, State, machine_call}
use Rattle.le_read.specs.LeBytes.{overwritten}
use Rattle.run_call_model.specs.Progress.{Progress, Ended, initial_progress, stopped, rest_of, Within, step_fuel}
use Rattle.run_call_model.specs.Plan.{Plan, stop_at, drain_many, due_many, ignore, end_run, add_reply}
use Rattle.run_call_model.proofs.FlatLists.{length_overwritten, draws_cons, length_draws}
use Rattle.run_call_model.proofs.Progress.{next_time, progress_with_samples, progress_with_draw, same_length, end_result, call_state, call_result}
use Rattle.run_call_model.proofs.Plan.{plan_of, Written, Taken, PlanSays, plan_says, after_plan, plan_right}

module _ (G : Generator) (o : G.Value) (noise : List G.Value) where
  open G use {Draw, Time, entry, adds, draw_at, draw_bytes, record_bytes}

  -- the progress after a plan; a stop leaves it
  abbrev pub next_progress : Progress G o → Plan Time → Progress G o
  next_progress t (stop_at s) = t
  next_progress t (drain_many n) = progress_with_samples G o noise t n t.state.mark
  next_progress t (due_many n time) = progress_with_samples G o noise t n (later G t.state.mark time)
  next_progress t (ignore time) = progress_with_draw G o noise t ignored t.lines t.added t.records
  next_progress t (end_run time) = progress_with_draw G o noise t ends t.lines t.added t.records
  next_progress t (add_reply time s) =
      progress_with_draw G o noise t (reply s) (t.lines + 1) (t.added + length (adds (next_time G o noise t) (draw_at t.rest) s))
      (overwritten t.records (record_bytes * t.lines) (entry (next_time G o noise t) (draw_at t.rest) s (length (adds (next_time G o noise t) (draw_at t.rest) s))))

  abbrev pub progress_by : (Progress G o → Ended G o) → Progress G o → Plan Time → Ended G o
  progress_by go t (stop_at s) = stopped G o t s
  progress_by go t (drain_many n) = go (next_progress t (drain_many n))
  progress_by go t (due_many n time) = go (next_progress t (due_many n time))
  progress_by go t (ignore time) = go (next_progress t (ignore time))
  progress_by go t (end_run time) = go (next_progress t (end_run time))
  progress_by go t (add_reply time s) = go (next_progress t (add_reply time s))

  unfoldable pub batched_steps : ℕ → Progress G o → Ended G o
  batched_steps zero t = stopped G o t wants_draws
  batched_steps (suc f) t = progress_by (λ t'. batched_steps f t') t (plan_of G o noise t)

  module _ (draw-pos : 0 < draw_bytes) (record-pos : 0 < record_bytes) (line_length : (t : Time) (d : Draw) (s n : ℕ) → length (entry t d s n) ≡ record_bytes) where
    -- a step that is no stop keeps the counts within the buffers, and comes nearer to the end
    pub record Nearer (t t' : Progress G o) : Type 0 where
      pub within : Within G o noise t'
      pub less : step_fuel G o noise t' < step_fuel G o noise t

    samples_written_nearer : (t : Progress G o) (n : ℕ) (m : Time) → Within G o noise t → Written G o noise t n m → Nearer t (progress_with_samples G o noise t n m)
    samples_written_nearer t n m w h = record {
      within = record { output_in = omega (arith, same, h.output_fits); noise_in_lem = h.noise_fits; records_in_lem = w.records_in_lem };
      less = omega (arith, ap (λ (k : ℕ). k / 2 - (t.samples + n)) same, h.some, h.output_fits);
    }
      where
        same : length (progress_with_samples G o noise t n m).output ≡ length t.output
        same = same_length G o noise t n h.some h.output_fits h.noise_fits m

    draw_taken_less : (t : Progress G o) (time : Time) (k : Kind) → Taken G o noise t time k → length (drop draw_bytes t.rest) / draw_bytes < length t.rest / draw_bytes
    draw_taken_less t time k h =
        omega (arith, ap length (draws_cons G t.rest draw-pos h.bytes), length_draws G t.rest, length_draws G (drop draw_bytes t.rest))

    pub nearer : (t : Progress G o) → Within G o noise t → (p : Plan Time) → PlanSays G o noise t p → ((s : Stop) → p ≡ stop_at s → ⊥) → Nearer t (next_progress t p)
    nearer t w (stop_at s) h not-stop = absurd (not-stop s refl)
    nearer t w (drain_many n) h not-stop = samples_written_nearer t n t.state.mark w h
    nearer t w (due_many n time) h not-stop = samples_written_nearer t n (later G t.state.mark time) w h.0
    nearer t w (ignore time) h not-stop = record { within = record { output_in = w.output_in; noise_in_lem = w.noise_in_lem; records_in_lem = w.records_in_lem }; less = omega (arith, draw_taken_less t time ignored h) }
    nearer t w (end_run time) h not-stop = record { within = record { output_in = w.output_in; noise_in_lem = w.noise_in_lem; records_in_lem = w.records_in_lem }; less = omega (arith, draw_taken_less t time ends h) }
    nearer t w (add_reply time s) h not-stop = record {
      within = record { output_in = w.output_in; noise_in_lem = w.noise_in_lem; records_in_lem = omega (arith, same, h.fits) };
      less = omega (arith, draw_taken_less t time (reply s) h.taken);
    }
      where
        len : length (entry (next_time G o noise t) (draw_at t.rest) s (length (adds (next_time G o noise t) (draw_at t.rest) s))) ≡ record_bytes
        len = line_length (next_time G o noise t) (draw_at t.rest) s (length (adds (next_time G o noise t) (draw_at t.rest) s))

        same : length (next_progress t (add_reply time s)).records ≡ length t.records
        same =
            length_overwritten (record_bytes * t.lines) (entry (next_time G o noise t) (draw_at t.rest) s (length (adds (next_time G o noise t) (draw_at t.rest) s))) t.records
            (omega (arith, len, h.fits, mul-add record_bytes t.lines 1))

    progress_is : (go : Progress G o → Ended G o) (t : Progress G o) → Within G o noise t → (p : Plan Time) → PlanSays G o noise t p
        → ((t' : Progress G o) → Nearer t t' → go t' ≡ rest_of G o noise t') → progress_by go t p ≡ after_plan G o noise draw-pos record-pos t p
    progress_is go t w (stop_at s) h ih = refl
    progress_is go t w (drain_many n) h ih = ih (next_progress t (drain_many n)) (nearer t w (drain_many n) h (λ s e. let z : ◌≡◌ {A = ℕ} 0 1 = cc in omega arith))
    progress_is go t w (due_many n time) h ih = ih (next_progress t (due_many n time)) (nearer t w (due_many n time) h (λ s e. let z : ◌≡◌ {A = ℕ} 0 1 = cc in omega arith))
    progress_is go t w (ignore time) h ih = ih (next_progress t (ignore time)) (nearer t w (ignore time) h (λ s e. let z : ◌≡◌ {A = ℕ} 0 1 = cc in omega arith))
    progress_is go t w (end_run time) h ih = ih (next_progress t (end_run time)) (nearer t w (end_run time) h (λ s e. let z : ◌≡◌ {A = ℕ} 0 1 = cc in omega arith))
    progress_is go t w (add_reply time s) h ih = ih (next_progress t (add_reply time s)) (nearer t w (add_reply time s) h (λ s e. let z : ◌≡◌ {A = ℕ} 0 1 = cc in omega arith))

    pub batched_steps_are : (f : ℕ) (t : Progress G o) → Within G o noise t → step_fuel G o noise t ≤ f → batched_steps f t ≡ rest_of G o noise t
    unfolding batched_steps
    batched_steps_are zero t w h = absurd (omega arith)
    batched_steps_are (suc f) t w h =
        progress_is (λ t'. batched_steps f t') t w (plan_of G o noise t) (plan_says G o noise draw-pos record-pos t w) (λ t' k. batched_steps_are f t' k.within (omega (arith, k.less)))
        ∙ sym (plan_right G o noise draw-pos record-pos line_length t w)

-- the whole call
module _ (G : Generator) (o : G.Value) (draw-pos : 0 < G.draw_bytes) (record-pos : 0 < G.record_bytes)
    (line_length : (t : G.Time) (d : G.Draw) (s n : ℕ) → length (G.entry t d s n) ≡ G.record_bytes) (z : State G o) (c : Call G) where
  abbrev pub batched : Ended G o
  batched = batched_steps G o c.noise (step_fuel G o c.noise (initial_progress G o z c)) (initial_progress G o z c)

  first_within : Within G o c.noise (initial_progress G o z c)
  first_within = record { output_in = omega arith; noise_in_lem = omega arith; records_in_lem = omega arith }

  batched_is : batched ≡ rest_of G o c.noise (initial_progress G o z c)
  batched_is = batched_steps_are G o c.noise draw-pos record-pos line_length (step_fuel G o c.noise (initial_progress G o z c)) (initial_progress G o z c) first_within (omega arith)

  pub batched_result : end_result G o batched ≡ result_of G c (machine_call G o z c None).0
  batched_result = ap (λ (e : Ended G o). end_result G o e) batched_is ∙ call_result G o z c

  pub batched_state : batched.state ≡ (machine_call G o z c None).1
  batched_state = ap (λ (e : Ended G o). e.state) batched_is ∙ call_state G o z c
