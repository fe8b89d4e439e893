-- A call step by step, as the code goes: each step of the code's loop leaves `rest_of`, what the rest of the call yields, as it is. No law of the generator is used but the length of a record.
use Rattle.std.specs.Prelude.{None}
use mathlib.Core.Bool.{Bool, true, false, cond}
use mathlib.Core.List.{List, [], ◌∷◌, ◌++◌}
use mathlib.Core.Path.{◌≡◌, refl, sym, ap, ◌∙◌}
use Prim.Native.Nat.{ℕ, suc, ◌+◌, ◌-◌, ◌*◌, ◌/◌, ◌≤◌, ◌<◌}
use native.Mathlib.Nat.{le-div_iff_mul-le, div-lt_iff_lt-mul, mul_comm, mul-add}
use native.Mathlib.Omega.{arith}
use lib.Dec.{ltb}
use lib.ListN.{length, take, drop, length-append, length-drop, take-append-drop}
use lib.Seq.{drop-drop}
use borrow.Author.Tests.{le-leb, lt-leb, lt-ltb, le-ltb}
use Rattle.run_theory.specs.Generator.{Generator, Sample, NoisePair}
use Rattle.run_theory.specs.Added.{sum_of}
use Rattle.run_theory.specs.PlainRun.{Kind, ignored, ends, reply, kind}
use Rattle.run_theory.specs.PlainBench.{Stop, done, output_full, wants_noise, wants_draws, records_full, Answer, ran, pairs, flatten, join, over, Call, Result, draws_of, Remaining, remaining_of, Step, halt, drain, due, taking, write, step4, step5, due_by, step1, fuel, result_of}
use Rattle.run_call_model.specs.Machine.{later, State, Ran, state_step, state_after_draw, noted, machine_on, machine_call}
use Rattle.le_read.specs.LeBytes.{overwritten}
use Rattle.run_call_model.specs.Batch.{written}
use Rattle.run_call_model.specs.Progress.{all_steps, remaining_with, Progress, Ended, initial_progress, stopped, left_of, finish, rest_of}
use Rattle.run_call_model.proofs.EnoughFuel.{machine_repeats}
use Rattle.run_call_model.proofs.FlatLists.{behind, length_overwritten, overwritten_overwritten, pairs_split, pairs_none, length_flatten, flatten_append, draws_none, draws_cons}
use Rattle.run_call_model.proofs.Counted.{Counted, counted}
use Rattle.run_call_model.proofs.Batch.{length_written, state_after_samples, with_samples, drain_many_lem, due_many_lem}

module _ (G : Generator) (o : G.Value) where
  open G use {Value, Byte, Draw, Time, after, adds, entry, draw_bytes, record_bytes, draw_at, hold, total}

  module _ (noise : List Value) where
    by_step : (t : Progress G o) (s : Step G) → state_step G o t.state (left_of G o noise t) ≡ s → rest_of G o noise t ≡ finish G o noise t (machine_on G o (λ z l. all_steps G o z l) t.state (left_of G o noise t) s)
    unfolding rest_of
    by_step t s e = ap (λ (r : Ran G o). finish G o noise t r) (machine_repeats G o t.state (left_of G o noise t) ∙ ap (λ (x : Step G). machine_on G o (λ z l. all_steps G o z l) t.state (left_of G o noise t) x) e)

    -- ---- stops
    overwritten_none : {X : Type 0} (at : ℕ) (buffer : List X) → overwritten buffer at [] ≡ buffer
    overwritten_none at buffer = behind at [] buffer ∙ ap (λ (n : ℕ). take at buffer ++ drop n buffer) {x = at + 0} {y = at} (omega arith) ∙ take-append-drop at buffer

    step_stops : (t : Progress G o) (s : Stop) → state_step G o t.state (left_of G o noise t) ≡ halt s → rest_of G o noise t ≡ stopped G o t s
    step_stops t s e = by_step t (halt s) e ∙ (λ i. record {
      state = t.state;
      taken = p i;
      samples = q i;
      lines = r i;
      added = a i;
      output = overwritten_none (2 * t.samples) t.output i;
      records = overwritten_none (record_bytes * t.lines) t.records i;
      stop = s;
    })
      where
        p : t.taken + (length (draws_of G t.rest) - length (draws_of G t.rest)) ≡ t.taken
        p = omega arith

        q : t.samples + 0 ≡ t.samples
        q = omega arith

        r : t.lines + 0 ≡ t.lines
        r = omega arith

        a : t.added + 0 ≡ t.added
        a = omega arith

    -- Step 1
    pub step_done : (t : Progress G o) → t.state.over ≡ true → total ≤ t.state.written → rest_of G o noise t ≡ stopped G o t done
    step_done t e h = step_stops t done is
      where
        is : state_step G o t.state (left_of G o noise t) ≡ halt done
        is = rw (e, le-leb total t.state.written h)

    -- Step 3
    pub step_wants_draws : (t : Progress G o) → t.state.over ≡ false → length t.rest < draw_bytes → rest_of G o noise t ≡ stopped G o t wants_draws
    step_wants_draws t e h = step_stops t wants_draws is
      where
        is : state_step G o t.state (left_of G o noise t) ≡ halt wants_draws
        is = rw (e, draws_none G t.rest h)

    -- ---- samples
    -- the next draw, its time and its kind
    abbrev pub next_time : Progress G o → Time
    next_time t = after t.state.time (draw_at t.rest)

    abbrev pub next_kind : Progress G o → Kind
    next_kind t = kind G (next_time t) (draw_at t.rest)

    -- n samples are due: after the end draw, or by the start of the next draw; with the latest time after them
    pub data AreDue (t : Progress G o) (n : ℕ) : Time → Type 0 where
      after_end : t.state.over ≡ true → t.state.written + n ≤ total → AreDue t n t.state.mark
      by_start : (s : ℕ) → t.state.over ≡ false → 0 < draw_bytes → draw_bytes ≤ length t.rest → next_kind t ≡ reply s → t.state.written + n + hold ≤ s → AreDue t n (later G t.state.mark (next_time t))

    -- where one is due, the step is to write it
    pub record Writes (t : Progress G o) : Type 0 where
      pub how : NoisePair G → Remaining G → Step G
      pub is : state_step G o t.state (left_of G o noise t) ≡ write G how (draws_of G t.rest) (left_of G o noise t).noise (left_of G o noise t).room (left_of G o noise t).slots

    one_due : (t : Progress G o) (m : Time) → AreDue t 1 m → Writes t
    one_due t m (after_end e h) = record { how = drain; is = rw (e, lt-leb total t.state.written (omega arith)) }
    one_due t m (by_start s e p b k h) = record {
      how = due (next_time t);
      is =
          ap (λ (x : Bool). step1 G x t.state.written t.state.time (draws_of G t.rest) (left_of G o noise t).noise (left_of G o noise t).room (left_of G o noise t).slots) e
          ∙ ap (λ (ds : List Draw). step1 G false t.state.written t.state.time ds (left_of G o noise t).noise (left_of G o noise t).room (left_of G o noise t).slots) (draws_cons G t.rest p b)
          ∙ by_kind (next_kind t) k
          ∙ ap (λ (ds : List Draw). write G (due (next_time t)) ds (left_of G o noise t).noise (left_of G o noise t).room (left_of G o noise t).slots) (sym (draws_cons G t.rest p b));
    }
      where
        more : List Draw
        more = draws_of G (drop draw_bytes t.rest)

        by_kind : (k' : Kind) → k' ≡ reply s
            → cond (due_by G t.state.written k') (write G (due (next_time t)) (draw_at t.rest ∷ more) (left_of G o noise t).noise (left_of G o noise t).room (left_of G o noise t).slots) (step4 G (draw_at t.rest) k' more (left_of G o noise t).noise (left_of G o noise t).room (left_of G o noise t).slots)
            ≡ write G (due (next_time t)) (draw_at t.rest ∷ more) (left_of G o noise t).noise (left_of G o noise t).room (left_of G o noise t).slots
        by_kind k' q = rw (q, lt-ltb t.state.written (s - hold) (omega arith))

    -- Step 2: none left in output, fewer than 2 noise values left
    pub step_output_full : (t : Progress G o) (m : Time) → AreDue t 1 m → length t.output < 2 * t.samples + 2 → rest_of G o noise t ≡ stopped G o t output_full
    step_output_full t m d h = step_stops t output_full (w.is ∙ ap (λ (n : ℕ). write G w.how (draws_of G t.rest) (left_of G o noise t).noise n (left_of G o noise t).slots) no_room)
      where
        w : Writes t
        w = one_due t m d

        no_room : length t.output / 2 - t.samples ≡ 0
        no_room = omega arith

    pub step_wants_noise : (t : Progress G o) (m : Time) → AreDue t 1 m → 2 * t.samples + 2 ≤ length t.output → length noise < 2 * t.samples + 2 → rest_of G o noise t ≡ stopped G o t wants_noise
    step_wants_noise t m d h g =
        step_stops t wants_noise
        (w.is
        ∙ ap (λ (n : ℕ). write G w.how (draws_of G t.rest) (left_of G o noise t).noise n (left_of G o noise t).slots) some_room
        ∙ ap (λ (vs : List (NoisePair G)). write G w.how (draws_of G t.rest) vs (suc (length t.output / 2 - t.samples - 1)) (left_of G o noise t).slots) (pairs_none (drop (2 * t.samples) noise) (omega (arith, length-drop (2 * t.samples) noise))))
      where
        w : Writes t
        w = one_due t m d

        some_room : length t.output / 2 - t.samples ≡ suc (length t.output / 2 - t.samples - 1)
        some_room = omega arith

    -- the noise of the next n samples
    abbrev pub next_noise : Progress G o → ℕ → List (NoisePair G)
    next_noise t n = pairs (take (2 * n) (drop (2 * t.samples) noise))

    abbrev pub next_samples : Progress G o → ℕ → List (Sample G)
    next_samples t n = written G o t.state.memory t.state.written (next_noise t n)

    -- the progress after n samples, m being the latest time
    abbrev pub progress_with_samples : Progress G o → ℕ → Time → Progress G o
    progress_with_samples t n m = record {
      state = state_after_samples G o t.state n m;
      taken = t.taken;
      samples = t.samples + n;
      lines = t.lines;
      added = t.added;
      rest = t.rest;
      output = overwritten t.output (2 * t.samples) (flatten (next_samples t n));
      records = t.records;
    }

    module _ (t : Progress G o) (n : ℕ) (pos : 0 < n) (room : 2 * (t.samples + n) ≤ length t.output) (lent : 2 * (t.samples + n) ≤ length noise) where
      split : ((left_of G o noise t).noise ≡ next_noise t n ++ pairs (drop (2 * (t.samples + n)) noise)) × (length (next_noise t n) ≡ n)
      split =
          let s = pairs_split n (drop (2 * t.samples) noise) (omega (arith, length-drop (2 * t.samples) noise)) in
          (s.0 ∙ ap (λ (l : List Value). next_noise t n ++ pairs l) (drop-drop (2 * n) (2 * t.samples) noise ∙ ap (λ (k : ℕ). drop k noise) {x = 2 * t.samples + 2 * n} {y = 2 * (t.samples + n)} (omega arith)), s.1)

      count : length (next_samples t n) ≡ n
      count = length_written G o (next_noise t n) t.state.memory t.state.written ∙ split.1

      room_left : ℕ
      room_left = length t.output / 2 - (t.samples + n)

      pub same_length : (m : Time) → length (progress_with_samples t n m).output ≡ length t.output
      same_length m = length_overwritten (2 * t.samples) (flatten (next_samples t n)) t.output (omega (arith, length_flatten (next_samples t n), count))

      -- what is left, before and after
      left_before : left_of G o noise t ≡ remaining_with G o (draws_of G t.rest) (next_noise t n ++ pairs (drop (2 * (t.samples + n)) noise)) (length (next_noise t n) + room_left) (left_of G o noise t).slots
      unfolding room_left
      left_before = λ i. remaining_with G o (draws_of G t.rest) (split.0 i) (q i) (left_of G o noise t).slots
        where
          q : length t.output / 2 - t.samples ≡ length (next_noise t n) + (length t.output / 2 - (t.samples + n))
          q = omega (arith, split.1)

      left_after : (m : Time) → remaining_with G o (draws_of G t.rest) (pairs (drop (2 * (t.samples + n)) noise)) room_left (left_of G o noise t).slots ≡ left_of G o noise (progress_with_samples t n m)
      unfolding room_left
      left_after m = λ i. remaining_with G o (draws_of G t.rest) (pairs (drop (2 * (t.samples + n)) noise)) (sym (same_length m) i / 2 - (t.samples + n)) (left_of G o noise t).slots

      finish_samples_written : (m : Time) (r : Ran G o) → finish G o noise t (with_samples G o (next_samples t n) r) ≡ finish G o noise (progress_with_samples t n m) r
      finish_samples_written m r = λ i. record {
        state = r.state;
        taken = t.taken + (length (draws_of G t.rest) - length r.rest.draws);
        samples = q i;
        lines = t.lines + length r.records;
        added = t.added + sum_of r.added;
        output = joined i;
        records = overwritten t.records (record_bytes * t.lines) (join r.records);
        stop = r.stop;
      }
        where
          q : t.samples + length (next_samples t n ++ r.samples) ≡ t.samples + n + length r.samples
          q = omega (arith, length-append (next_samples t n) r.samples, count)

          joined : overwritten t.output (2 * t.samples) (flatten (next_samples t n ++ r.samples)) ≡ overwritten (progress_with_samples t n m).output (2 * (t.samples + n)) (flatten r.samples)
          joined =
              ap (λ (l : List Value). overwritten t.output (2 * t.samples) l) (flatten_append (next_samples t n) r.samples)
              ∙ sym (overwritten_overwritten (2 * t.samples) (2 * n) (flatten (next_samples t n)) (flatten r.samples) t.output (length_flatten (next_samples t n) ∙ ap (λ (k : ℕ). 2 * k) count) (omega arith))
              ∙ ap (λ (k : ℕ). overwritten (progress_with_samples t n m).output k (flatten r.samples)) {x = 2 * t.samples + 2 * n} {y = 2 * (t.samples + n)} (omega arith)

      steps_written : (m : Time) → AreDue t n m → all_steps G o t.state (left_of G o noise t) ≡ with_samples G o (next_samples t n) (all_steps G o (state_after_samples G o t.state n m) (left_of G o noise (progress_with_samples t n m)))
      steps_written m (after_end e h) =
          ap (λ (l : Remaining G). all_steps G o t.state l) left_before
          ∙ drain_many_lem G o (next_noise t n) (pairs (drop (2 * (t.samples + n)) noise)) t.state (draws_of G t.rest) room_left (left_of G o noise t).slots (omega (arith, split.1)) e (omega (arith, split.1))
          ∙ (λ i. with_samples G o (next_samples t n) (all_steps G o (state_after_samples G o t.state (split.1 i) t.state.mark) (left_after t.state.mark i)))
      steps_written m (by_start s e p b k h) =
          ap (λ (l : Remaining G). all_steps G o t.state l) (left_before ∙ (λ i. remaining_with G o (draws_cons G t.rest p b i) (next_noise t n ++ pairs (drop (2 * (t.samples + n)) noise)) (length (next_noise t n) + room_left) (left_of G o noise t).slots))
          ∙ due_many_lem G o (next_noise t n) (pairs (drop (2 * (t.samples + n)) noise)) t.state (draw_at t.rest) (draws_of G (drop draw_bytes t.rest)) room_left (left_of G o noise t).slots s (omega (arith, split.1)) e k (omega (arith, split.1))
          ∙ (λ i. with_samples G o (next_samples t n) (all_steps G o (state_after_samples G o t.state (split.1 i) (later G t.state.mark (next_time t))) (remaining_with G o (sym (draws_cons G t.rest p b) i) (pairs (drop (2 * (t.samples + n)) noise)) room_left (left_of G o noise t).slots)))
          ∙ ap (λ (l : Remaining G). with_samples G o (next_samples t n) (all_steps G o (state_after_samples G o t.state n (later G t.state.mark (next_time t))) l)) (left_after (later G t.state.mark (next_time t)))

      -- n samples that are due, written at once
      pub step_writes : (m : Time) → AreDue t n m → rest_of G o noise t ≡ rest_of G o noise (progress_with_samples t n m)
      unfolding rest_of
      step_writes m d = ap (λ (r : Ran G o). finish G o noise t r) (steps_written m d) ∙ finish_samples_written m (all_steps G o (state_after_samples G o t.state n m) (left_of G o noise (progress_with_samples t n m)))

    -- ---- draws
    -- the progress after the next draw is taken, with its bytes behind and lines records more
    abbrev pub progress_with_draw : Progress G o → Kind → ℕ → ℕ → List Byte → Progress G o
    progress_with_draw t k lines added records = record {
      state = state_after_draw G o t.state (draw_at t.rest) k;
      taken = t.taken + 1;
      samples = t.samples;
      lines = lines;
      added = added;
      rest = drop draw_bytes t.rest;
      output = t.output;
      records = records;
    }

    module _ (t : Progress G o) (going : t.state.over ≡ false) (pos : 0 < draw_bytes) (some-draw : draw_bytes ≤ length t.rest) where
      -- the step for a draw of this kind that asks for no sample
      step_is : (k : Kind) → next_kind t ≡ k → due_by G t.state.written k ≡ false → state_step G o t.state (left_of G o noise t) ≡ step4 G (draw_at t.rest) k (draws_of G (drop draw_bytes t.rest)) (left_of G o noise t).noise (left_of G o noise t).room (left_of G o noise t).slots
      step_is k e h =
          ap (λ (x : Bool). step1 G x t.state.written t.state.time (draws_of G t.rest) (left_of G o noise t).noise (left_of G o noise t).room (left_of G o noise t).slots) going
          ∙ ap (λ (ds : List Draw). step1 G false t.state.written t.state.time ds (left_of G o noise t).noise (left_of G o noise t).room (left_of G o noise t).slots) (draws_cons G t.rest pos some-draw)
          ∙ (λ i. cond (due_by G t.state.written (e i)) (write G (due (next_time t)) (draw_at t.rest ∷ draws_of G (drop draw_bytes t.rest)) (left_of G o noise t).noise (left_of G o noise t).room (left_of G o noise t).slots) (step4 G (draw_at t.rest) (e i) (draws_of G (drop draw_bytes t.rest)) (left_of G o noise t).noise (left_of G o noise t).room (left_of G o noise t).slots))
          ∙ ap (λ (x : Bool). cond x (write G (due (next_time t)) (draw_at t.rest ∷ draws_of G (drop draw_bytes t.rest)) (left_of G o noise t).noise (left_of G o noise t).room (left_of G o noise t).slots) (step4 G (draw_at t.rest) k (draws_of G (drop draw_bytes t.rest)) (left_of G o noise t).noise (left_of G o noise t).room (left_of G o noise t).slots)) h

      -- the count of draws taken
      taken_one : (k : Kind) (l : Remaining G) → l.draws ≡ draws_of G (drop draw_bytes t.rest)
          → t.taken + (length (draws_of G t.rest) - length (all_steps G o (state_after_draw G o t.state (draw_at t.rest) k) l).rest.draws)
          ≡ t.taken + 1 + (length (draws_of G (drop draw_bytes t.rest)) - length (all_steps G o (state_after_draw G o t.state (draw_at t.rest) k) l).rest.draws)
      taken_one k l e =
          omega (arith, ap length (draws_cons G t.rest pos some-draw), ap length e, (counted G o (fuel G l) (state_after_draw G o t.state (draw_at t.rest) k) l).draws)

      -- a draw that is taken and not recorded
      not_recorded : (k : Kind) → state_step G o t.state (left_of G o noise t) ≡ taking (draw_at t.rest) k (left_of G o noise (progress_with_draw t k t.lines t.added t.records))
          → ((r : Ran G o) → noted G o (next_time t) (draw_at t.rest) k r ≡ r) → rest_of G o noise t ≡ rest_of G o noise (progress_with_draw t k t.lines t.added t.records)
      unfolding rest_of
      not_recorded k is plain =
          by_step t (taking (draw_at t.rest) k left) is
          ∙ ap (λ (x : Ran G o). finish G o noise t x) (plain r)
          ∙ (λ i. record {
            state = r.state;
            taken = taken_one k left refl i;
            samples = t.samples + length r.samples;
            lines = t.lines + length r.records;
            added = t.added + sum_of r.added;
            output = overwritten t.output (2 * t.samples) (flatten r.samples);
            records = overwritten t.records (record_bytes * t.lines) (join r.records);
            stop = r.stop;
          })
        where
          left : Remaining G
          left = left_of G o noise (progress_with_draw t k t.lines t.added t.records)

          r : Ran G o
          r = all_steps G o (state_after_draw G o t.state (draw_at t.rest) k) left

      -- Step 4: the draw is taken and ignored, or is taken and ends the run
      pub step_ignores : next_kind t ≡ ignored → rest_of G o noise t ≡ rest_of G o noise (progress_with_draw t ignored t.lines t.added t.records)
      step_ignores e = not_recorded ignored (step_is ignored e refl) (λ r. refl)

      pub step_ends : next_kind t ≡ ends → rest_of G o noise t ≡ rest_of G o noise (progress_with_draw t ends t.lines t.added t.records)
      step_ends e = not_recorded ends (step_is ends e refl) (λ r. refl)

      -- Step 5: fewer than a record's bytes left, else the message is added and recorded
      module _ (s : ℕ) (is : next_kind t ≡ reply s) (near : s ≤ t.state.written + hold) (record-pos : 0 < record_bytes) where
        not_due : ltb t.state.written (s - hold) ≡ false
        not_due = le-ltb t.state.written (s - hold) (omega arith)

        pub step_records_full : length t.records < record_bytes * (t.lines + 1) → rest_of G o noise t ≡ stopped G o t records_full
        step_records_full h =
            step_stops t records_full
            (step_is (reply s) is not_due ∙ ap (λ (n : ℕ). step5 G (draw_at t.rest) s (draws_of G (drop draw_bytes t.rest)) (left_of G o noise t).noise (left_of G o noise t).room n) no_slot)
          where
            few : length t.records / record_bytes < t.lines + 1
            few = (div-lt_iff_lt-mul record-pos).1 (omega (arith, mul_comm record_bytes (t.lines + 1)))

            no_slot : length t.records / record_bytes - t.lines ≡ 0
            no_slot = omega (arith, few)

        -- the count of the reply, and its record
        abbrev pub reply_count : ℕ
        reply_count = length (adds (next_time t) (draw_at t.rest) s)

        abbrev pub line : List Byte
        line = entry (next_time t) (draw_at t.rest) s (length (adds (next_time t) (draw_at t.rest) s))

        pub step_adds : length line ≡ record_bytes → record_bytes * (t.lines + 1) ≤ length t.records → rest_of G o noise t ≡ rest_of G o noise (progress_with_draw t (reply s) (t.lines + 1) (t.added + reply_count) (overwritten t.records (record_bytes * t.lines) line))
        unfolding rest_of
        step_adds len h =
            by_step t (taking (draw_at t.rest) (reply s) left)
            (step_is (reply s) is not_due ∙ ap (λ (n : ℕ). step5 G (draw_at t.rest) s (draws_of G (drop draw_bytes t.rest)) (left_of G o noise t).noise (left_of G o noise t).room n) one_slot)
            ∙ (λ i. record {
              state = r.state;
              taken = taken_one (reply s) left refl i;
              samples = t.samples + length r.samples;
              lines = count i;
              added = more i;
              output = overwritten t.output (2 * t.samples) (flatten r.samples);
              records = joined i;
              stop = r.stop;
            })
          where
            next : Progress G o
            next = progress_with_draw t (reply s) (t.lines + 1) (t.added + reply_count) (overwritten t.records (record_bytes * t.lines) line)

            left : Remaining G
            left = left_of G o noise next

            r : Ran G o
            r = all_steps G o (state_after_draw G o t.state (draw_at t.rest) (reply s)) left

            fits : record_bytes * t.lines + record_bytes ≤ length t.records
            fits = omega (arith, mul-add record_bytes t.lines 1)

            enough : t.lines + 1 ≤ length t.records / record_bytes
            enough = (le-div_iff_mul-le record-pos).1 (omega (arith, mul_comm record_bytes (t.lines + 1)))

            one_slot : length t.records / record_bytes - t.lines ≡ suc (length (overwritten t.records (record_bytes * t.lines) line) / record_bytes - (t.lines + 1))
            one_slot =
                omega (arith, enough)
                ∙ ap (λ (n : ℕ). suc (n / record_bytes - (t.lines + 1))) (sym (length_overwritten (record_bytes * t.lines) line t.records (omega (arith, fits, len))))

            count : t.lines + suc (length r.records) ≡ t.lines + 1 + length r.records
            count = omega arith

            more : t.added + (reply_count + sum_of r.added) ≡ t.added + reply_count + sum_of r.added
            more = omega arith

            joined : overwritten t.records (record_bytes * t.lines) (line ++ join r.records) ≡ overwritten (overwritten t.records (record_bytes * t.lines) line) (record_bytes * (t.lines + 1)) (join r.records)
            joined =
                sym (overwritten_overwritten (record_bytes * t.lines) record_bytes line (join r.records) t.records len fits)
                ∙ ap (λ (k : ℕ). overwritten (overwritten t.records (record_bytes * t.lines) line) k (join r.records)) {x = record_bytes * t.lines + record_bytes} {y = record_bytes * (t.lines + 1)} (omega (arith, mul-add record_bytes t.lines 1))

  -- ---- the whole call
  abbrev pub answer_of : Ended G o → Answer
  answer_of e = ran e.taken e.samples (2 * e.samples) e.lines e.added e.stop

  abbrev pub end_result : Ended G o → Result G
  end_result e = record { answer = answer_of e; output = e.output; records = e.records }

  -- a call that is not refused yields what the steps from its first on yield
  module _ (z : State G o) (c : Call G) where
    abbrev l : Remaining G
    l = remaining_of G c

    first_left : left_of G o c.noise (initial_progress G o z c) ≡ l
    first_left = λ i. remaining_with G o (draws_of G c.draws) (pairs c.noise) (p i) (q i)
      where
        p : length c.output / 2 - 0 ≡ length c.output / 2
        p = omega arith

        q : length c.records / record_bytes - 0 ≡ length c.records / record_bytes
        q = omega arith

    first_rest : rest_of G o c.noise (initial_progress G o z c) ≡ finish G o c.noise (initial_progress G o z c) (all_steps G o z l)
    unfolding rest_of
    first_rest = ap (λ (x : Remaining G). finish G o c.noise (initial_progress G o z c) (all_steps G o z x)) first_left

    pub call_state : (rest_of G o c.noise (initial_progress G o z c)).state ≡ (machine_call G o z c None).1
    call_state = ap (λ (e : Ended G o). e.state) first_rest

    pub call_result : end_result (rest_of G o c.noise (initial_progress G o z c)) ≡ result_of G c (machine_call G o z c None).0
    call_result = ap end_result first_rest ∙ (λ i. record {
      answer = ran (taken i) (samples i) (noise i) (lines i) (added i) r.stop;
      output = at_start (flatten r.samples) c.output i;
      records = (ap (λ (n : ℕ). overwritten c.records n (join r.records)) {x = record_bytes * 0} {y = 0} (omega arith) ∙ at_start (join r.records) c.records) i;
    })
      where
        r : Ran G o
        r = all_steps G o z l

        k : Counted G o l r
        k = counted G o (fuel G l) z l

        taken : 0 + (length (draws_of G c.draws) - length r.rest.draws) ≡ length (draws_of G c.draws) - length r.rest.draws
        taken = omega arith

        samples : 0 + length r.samples ≡ length c.output / 2 - r.rest.room
        samples = omega (arith, k.room)

        noise : 2 * (0 + length r.samples) ≡ 2 * (length (pairs c.noise) - length r.rest.noise)
        noise = omega (arith, k.noise)

        lines : 0 + length r.records ≡ length c.records / record_bytes - r.rest.slots
        lines = omega (arith, k.slots)

        added : 0 + sum_of r.added ≡ sum_of r.added
        added = omega arith

        at_start : {X : Type 0} (xs buffer : List X) → overwritten buffer 0 xs ≡ over xs buffer
        at_start xs buffer = behind 0 xs buffer ∙ ap (λ (n : ℕ). xs ++ drop n buffer) {x = 0 + length xs} {y = length xs} (omega arith)
