-- What the code chooses to do at each step: a stop, n samples at once, or a draw. `plan-right`: doing so leaves what the rest of the call yields;
-- `plan-says`: what a plan says of the buffers, so that the code may do it.
use mathlib.Core.Bool.{Bool, true, false, cond}
use mathlib.Core.List.{List}
use mathlib.Core.Path.{◌≡◌, refl}
use Prim.Native.Nat.{ℕ, ◌+◌, ◌-◌, ◌*◌, ◌≤◌, ◌<◌}
use native.Mathlib.Nat.{mul-add}
use native.Mathlib.Omega.{arith}
use lib.Dec.{eqb, leb, ltb}
use lib.ListN.{length}
use borrow.Author.Tests.{eqb-true, eqb-false, leb-true, leb-false, ltb-true, ltb-false, eq-eqb, ne_eqb, le-leb, lt-leb, lt-ltb, le-ltb}
use Rattle.run_theory.specs.Generator.{Generator, from}
use Rattle.run_theory.specs.PlainRun.{Kind, ignored, ends, reply, kind_of}
use Rattle.run_theory.specs.PlainBench.{done, output_full, wants_noise, wants_draws, records_full}
use Rattle.run_call_model.specs.Machine.{later}
use Rattle.le_read.specs.LeBytes.{overwritten}
use Rattle.run_call_model.specs.Progress.{Progress, Ended, stopped, rest_of, Within}
use Rattle.run_call_model.specs.Plan.{Plan, stop_at, drain_many, due_many, ignore, end_run, add_reply, batch, stop_for, some_or, plan_ended, plan_reply, plan_draw, plan}
use Rattle.run_theory.proofs.StepFacts.{reply_fits}
use Rattle.run_call_model.proofs.Progress.{next_time, next_kind, AreDue, after_end, by_start, progress_with_samples, progress_with_draw, step_done, step_wants_draws, step_output_full, step_wants_noise, step_writes, step_ignores, step_ends, step_records_full, step_adds}

-- ---- the choice, test by test, as code meets it
pub none_written : {T : Type 0} (f : ℕ → Plan T) (n room : ℕ) → n ≡ 0 → some_or f n room ≡ stop_at (stop_for room)
none_written f n room e = rw (eq-eqb n 0 e)

pub some_written : {T : Type 0} (f : ℕ → Plan T) (n room : ℕ) → (n ≡ 0 → ⊥) → some_or f n room ≡ f n
some_written f n room e = rw (ne_eqb n 0 e)

module _ (G : Generator) where
  open G use {Time, draw_bytes, record_bytes, limit, total}

  pub ended_done : (written room noise : ℕ) → total ≤ written → plan_ended G written room noise ≡ stop_at done
  ended_done written room noise h = rw (le-leb total written h)

  pub ended_more : (written room noise : ℕ) → written < total → plan_ended G written room noise ≡ some_or drain_many (batch (total - written) room noise) room
  ended_more written room noise h = rw (lt-leb total written h)

  pub reply_due : (n : ℕ) (time : Time) (s room noise bytes : ℕ) → 0 < n → plan_reply G n time s room noise bytes ≡ some_or (λ k. due_many k time) (batch n room noise) room
  reply_due n time s room noise bytes h = rw (lt-ltb 0 n h)

  pub reply_full : (n : ℕ) (time : Time) (s room noise bytes : ℕ) → n ≤ 0 → bytes < record_bytes → plan_reply G n time s room noise bytes ≡ stop_at records_full
  reply_full n time s room noise bytes h b = rw (le-ltb 0 n h, lt-ltb bytes record_bytes b)

  pub reply_added : (n : ℕ) (time : Time) (s room noise bytes : ℕ) → n ≤ 0 → record_bytes ≤ bytes → plan_reply G n time s room noise bytes ≡ add_reply time s
  reply_added n time s room noise bytes h b = rw (le-ltb 0 n h, le-ltb bytes record_bytes b)

  pub start_ends : (s : ℕ) → total ≤ s + limit → kind_of G (from s) ≡ ends
  start_ends s h = rw (le-leb total (s + limit) h)

  pub start_replies : (s : ℕ) → s + limit < total → kind_of G (from s) ≡ reply s
  start_replies s h = rw (lt-leb total (s + limit) h)

  pub wants_draws_lem : (written rest : ℕ) (time : Time) (k : Kind) (room noise bytes : ℕ) → rest < draw_bytes → plan G false written rest time k room noise bytes ≡ stop_at wants_draws
  wants_draws_lem written rest time k room noise bytes h = rw (lt-ltb rest draw_bytes h)

  pub has_draw : (written rest : ℕ) (time : Time) (k : Kind) (room noise bytes : ℕ) → draw_bytes ≤ rest → plan G false written rest time k room noise bytes ≡ plan_draw G written time k room noise bytes
  has_draw written rest time k room noise bytes h = rw (le-ltb rest draw_bytes h)

module _ (G : Generator) (o : G.Value) (noise : List G.Value) where
  open G use {Time, start, entry, adds, draw_at, draw_bytes, record_bytes, hold, total}

  abbrev pub plan_of : Progress G o → Plan Time
  plan_of t =
      plan G t.state.over t.state.written (length t.rest) (next_time G o noise t) (next_kind G o noise t)
      (length t.output - 2 * t.samples) (length noise - 2 * t.samples) (length t.records - record_bytes * t.lines)

  -- ---- what a plan says
  pub record Written (t : Progress G o) (n : ℕ) (m : Time) : Type 0 where
    pub some : 0 < n
    pub output_fits : 2 * (t.samples + n) ≤ length t.output
    pub noise_fits : 2 * (t.samples + n) ≤ length noise
    pub due : AreDue G o noise t n m
    -- so the count of samples stays within the run's
    pub below : t.state.written + n ≤ total

  pub record Taken (t : Progress G o) (time : Time) (k : Kind) : Type 0 where
    pub going : t.state.over ≡ false
    pub bytes : draw_bytes ≤ length t.rest
    pub is : next_kind G o noise t ≡ k
    pub at : time ≡ next_time G o noise t

  pub record Added (t : Progress G o) (time : Time) (s : ℕ) : Type 0 where
    pub taken : Taken t time (reply s)
    pub near : s ≤ t.state.written + hold
    pub fits : record_bytes * (t.lines + 1) ≤ length t.records

  abbrev pub PlanSays : Progress G o → Plan Time → Type 0
  PlanSays t (stop_at s) = rest_of G o noise t ≡ stopped G o t s
  PlanSays t (drain_many n) = Written t n t.state.mark
  PlanSays t (due_many n time) = Written t n (later G t.state.mark time) × (time ≡ next_time G o noise t)
  PlanSays t (ignore time) = Taken t time ignored
  PlanSays t (end_run time) = Taken t time ends
  PlanSays t (add_reply time s) = Added t time s

  -- where n ≥ 1 samples are due, the batch of them or the stop
  some_or_lem : (t : Progress G o) (f : ℕ → Plan Time) (n : ℕ) (m : Time) → Within G o noise t → 0 < n → ((k : ℕ) → k ≤ n → AreDue G o noise t k m)
      → ((k : ℕ) → 0 < k → k ≤ n → 2 * (t.samples + k) ≤ length t.output → 2 * (t.samples + k) ≤ length noise → PlanSays t (f k))
      → PlanSays t (some_or f (batch n (length t.output - 2 * t.samples) (length noise - 2 * t.samples)) (length t.output - 2 * t.samples))
  some_or_lem t f n m w pos d h = go (eqb (batch n (length t.output - 2 * t.samples) (length noise - 2 * t.samples)) 0) refl
    where
      stops : (x : Bool) → ltb (length t.output - 2 * t.samples) 2 ≡ x → batch n (length t.output - 2 * t.samples) (length noise - 2 * t.samples) ≡ 0 → rest_of G o noise t ≡ stopped G o t (cond x output_full wants_noise)
      stops true e z = step_output_full G o noise t m (d 1 pos) (omega (arith, ltb-true (length t.output - 2 * t.samples) 2 e, w.output_in))
      stops false e z =
          step_wants_noise G o noise t m (d 1 pos)
          (omega (arith, ltb-false (length t.output - 2 * t.samples) 2 e, w.output_in))
          (omega (arith, ltb-false (length t.output - 2 * t.samples) 2 e, w.output_in, w.noise_in_lem))

      go : (x : Bool) → eqb (batch n (length t.output - 2 * t.samples) (length noise - 2 * t.samples)) 0 ≡ x
          → PlanSays t (cond x (stop_at (stop_for (length t.output - 2 * t.samples))) (f (batch n (length t.output - 2 * t.samples) (length noise - 2 * t.samples))))
      go true e = stops (ltb (length t.output - 2 * t.samples) 2) refl (eqb-true (batch n (length t.output - 2 * t.samples) (length noise - 2 * t.samples)) 0 e)
      go false e =
          let ne = eqb-false (batch n (length t.output - 2 * t.samples) (length noise - 2 * t.samples)) 0 e in
          h (batch n (length t.output - 2 * t.samples) (length noise - 2 * t.samples)) (positive (batch n (length t.output - 2 * t.samples) (length noise - 2 * t.samples)) ne) (omega arith) (omega (arith, w.output_in)) (omega (arith, w.noise_in_lem))
        where
          positive : (k : ℕ) → (k ≡ 0 → ⊥) → 0 < k
          positive k ne = omega arith

  ended_says : (t : Progress G o) → Within G o noise t → t.state.over ≡ true
      → PlanSays t (plan_ended G t.state.written (length t.output - 2 * t.samples) (length noise - 2 * t.samples))
  ended_says t w e = go (leb total t.state.written) refl
    where
      go : (x : Bool) → leb total t.state.written ≡ x
          → PlanSays t (cond x (stop_at done) (some_or drain_many (batch (total - t.state.written) (length t.output - 2 * t.samples) (length noise - 2 * t.samples)) (length t.output - 2 * t.samples)))
      go true p = step_done G o noise t e (leb-true total t.state.written p)
      go false p =
          some_or_lem t drain_many (total - t.state.written) t.state.mark w (omega (arith, leb-false total t.state.written p))
          (λ k le. after_end e (omega (arith, leb-false total t.state.written p)))
          (λ k kp le ro no. record {
            some = kp;
            output_fits = ro;
            noise_fits = no;
            due = after_end e (omega (arith, leb-false total t.state.written p));
            below = omega (arith, leb-false total t.state.written p);
          })

  module _ (draw-pos : 0 < draw_bytes) (record-pos : 0 < record_bytes) where
    reply_says : (t : Progress G o) (s : ℕ) → Within G o noise t → Taken t (next_time G o noise t) (reply s) → (n : ℕ) → s - hold - t.state.written ≡ n
        → PlanSays t (plan_reply G n (next_time G o noise t) s (length t.output - 2 * t.samples) (length noise - 2 * t.samples) (length t.records - record_bytes * t.lines))
    reply_says t s w k n e = on (ltb 0 n) refl
      where
        full : (x : Bool) → ltb (length t.records - record_bytes * t.lines) record_bytes ≡ x → s ≤ t.state.written + hold → PlanSays t (cond x (stop_at records_full) (add_reply (next_time G o noise t) s))
        full true p near =
            step_records_full G o noise t k.going draw-pos k.bytes s k.is near record-pos
            (omega (arith, ltb-true (length t.records - record_bytes * t.lines) record_bytes p, w.records_in_lem, mul-add record_bytes t.lines 1))
        full false p near = record {
          taken = k;
          near = near;
          fits = omega (arith, ltb-false (length t.records - record_bytes * t.lines) record_bytes p, w.records_in_lem, mul-add record_bytes t.lines 1);
        }

        on : (x : Bool) → ltb 0 n ≡ x
            → PlanSays t (cond x (some_or (λ j. due_many j (next_time G o noise t)) (batch n (length t.output - 2 * t.samples) (length noise - 2 * t.samples)) (length t.output - 2 * t.samples)) (cond (ltb (length t.records - record_bytes * t.lines) record_bytes) (stop_at records_full) (add_reply (next_time G o noise t) s)))
        on false p = full (ltb (length t.records - record_bytes * t.lines) record_bytes) refl (omega (arith, ltb-false 0 n p))
        on true p =
            some_or_lem t (λ j. due_many j (next_time G o noise t)) n (later G t.state.mark (next_time G o noise t)) w (ltb-true 0 n p)
            (λ j le. by_start s k.going draw-pos k.bytes k.is (omega (arith, ltb-true 0 n p)))
            (λ j jp le ro no. (
              record {
                some = jp;
                output_fits = ro;
                noise_fits = no;
                due = by_start s k.going draw-pos k.bytes k.is (omega (arith, ltb-true 0 n p));
                below = omega (arith, ltb-true 0 n p, reply_fits G (start (next_time G o noise t) (draw_at t.rest)) s k.is);
              },
              refl,
            ))

    draw_says : (t : Progress G o) → Within G o noise t → t.state.over ≡ false → draw_bytes ≤ length t.rest → (k : Kind) → next_kind G o noise t ≡ k
        → PlanSays t (plan_draw G t.state.written (next_time G o noise t) k (length t.output - 2 * t.samples) (length noise - 2 * t.samples) (length t.records - record_bytes * t.lines))
    draw_says t w e b ignored p = record { going = e; bytes = b; is = p; at = refl }
    draw_says t w e b ends p = record { going = e; bytes = b; is = p; at = refl }
    draw_says t w e b (reply s) p = reply_says t s w (record { going = e; bytes = b; is = p; at = refl }) (s - hold - t.state.written) refl

    pub plan_says : (t : Progress G o) → Within G o noise t → PlanSays t (plan_of t)
    plan_says t w = go t.state.over refl
      where
        drawn : t.state.over ≡ false → (x : Bool) → ltb (length t.rest) draw_bytes ≡ x
            → PlanSays t (cond x (stop_at wants_draws) (plan_draw G t.state.written (next_time G o noise t) (next_kind G o noise t) (length t.output - 2 * t.samples) (length noise - 2 * t.samples) (length t.records - record_bytes * t.lines)))
        drawn e true p = step_wants_draws G o noise t e (ltb-true (length t.rest) draw_bytes p)
        drawn e false p = draw_says t w e (ltb-false (length t.rest) draw_bytes p) (next_kind G o noise t) refl

        go : (x : Bool) → t.state.over ≡ x
            → PlanSays t (plan G x t.state.written (length t.rest) (next_time G o noise t) (next_kind G o noise t) (length t.output - 2 * t.samples) (length noise - 2 * t.samples) (length t.records - record_bytes * t.lines))
        go true e = ended_says t w e
        go false e = drawn e (ltb (length t.rest) draw_bytes) refl

    -- ---- doing it
    -- the progress after a plan that is no stop, and what the call yields after any
    abbrev pub after_plan : Progress G o → Plan Time → Ended G o
    after_plan t (stop_at s) = stopped G o t s
    after_plan t (drain_many n) = rest_of G o noise (progress_with_samples G o noise t n t.state.mark)
    after_plan t (due_many n time) = rest_of G o noise (progress_with_samples G o noise t n (later G t.state.mark time))
    after_plan t (ignore time) = rest_of G o noise (progress_with_draw G o noise t ignored t.lines t.added t.records)
    after_plan t (end_run time) = rest_of G o noise (progress_with_draw G o noise t ends t.lines t.added t.records)
    after_plan t (add_reply time s) =
        rest_of G o noise
        (progress_with_draw G o noise t (reply s) (t.lines + 1) (t.added + length (adds (next_time G o noise t) (draw_at t.rest) s))
        (overwritten t.records (record_bytes * t.lines) (entry (next_time G o noise t) (draw_at t.rest) s (length (adds (next_time G o noise t) (draw_at t.rest) s)))))

    module _ (line_length : (t : Time) (d : G.Draw) (s n : ℕ) → length (entry t d s n) ≡ record_bytes) where
      by_says : (t : Progress G o) (p : Plan Time) → PlanSays t p → rest_of G o noise t ≡ after_plan t p
      by_says t (stop_at s) h = h
      by_says t (drain_many n) h = step_writes G o noise t n h.some h.output_fits h.noise_fits t.state.mark h.due
      by_says t (due_many n time) h = step_writes G o noise t n h.0.some h.0.output_fits h.0.noise_fits (later G t.state.mark time) h.0.due
      by_says t (ignore time) h = step_ignores G o noise t h.going draw-pos h.bytes h.is
      by_says t (end_run time) h = step_ends G o noise t h.going draw-pos h.bytes h.is
      by_says t (add_reply time s) h =
          step_adds G o noise t h.taken.going draw-pos h.taken.bytes s h.taken.is h.near record-pos
          (line_length (next_time G o noise t) (draw_at t.rest) s (length (adds (next_time G o noise t) (draw_at t.rest) s))) h.fits

      -- the plan is right: what the rest of the call yields is what doing it and going on yields
      pub plan_right : (t : Progress G o) → Within G o noise t → rest_of G o noise t ≡ after_plan t (plan_of t)
      plan_right t w = by_says t (plan_of t) (plan_says t w)
