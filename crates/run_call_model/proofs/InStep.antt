-- A call's loop on the machine keeps step with the bench's, and writes what the plain run has new.
use Rattle.std.specs.Prelude.{Option}
use mathlib.Core.Bool.{true}
use mathlib.Core.List.{List, [], ◌∷◌, ◌++◌, append-nil, append_assoc}
use mathlib.Core.Path.{◌≡◌, refl, sym, ap, ◌∙◌, subst}
use Prim.Native.Nat.{ℕ, zero, suc, ◌+◌, ◌-◌, ◌%◌, ◌≤◌, ◌<◌}
use native.Mathlib.Decide.{dec_le}
use native.Mathlib.Nat.{add-mod_right, mod-lt}
use native.Mathlib.Omega.{arith}
use lib.ListN.{length}
use Rattle.run_theory.specs.Generator.{Generator, Sample, NoisePair, silence, noisy}
use Rattle.run_theory.specs.PlainRun.{Kind, ignored, ends, reply, time_of, ended, reply_of, replies, add_nth, hit, sum_at, plain_samples, plain_records, plain_counts}
use Rattle.run_theory.specs.PlainBench.{done, Remaining, Step, halt, drain, due, taking, latest, Bench, Benched, bench0, bench_step, bench_on, bench_steps}
use Rattle.run_call_model.specs.Machine.{window, rd, wr, put, later, State, Ran, opened, state_step, state_after_sample, sample, state_after_draw, with_sample, noted, machine_on, machine_steps}
use Rattle.run_theory.specs.Laws.{Laws}
use Rattle.run_theory.proofs.PlainFacts.{length_snoc, hit_before, hit_at}
use Rattle.run_call_model.proofs.Ring.{Fit, fit_blank, rd_blank, fit_wr, fit_put, rd_back, rd_here, put_ahead, put_at}
use Rattle.run_theory.proofs.StepFacts.{Dues, Takes, Says, step_says, reply_fits}
use Rattle.run_theory.proofs.Reached.{Reached, Left, samples_more, reached_drain, reached_due, left_drain, left_due, take_time, take_ended, take_sum, left_take, reached_take, take_samples, take_records, take_counts, take_ahead, good_on, take_short, due_left}
use Rattle.run_call_model.proofs.LatestTime.{StandsFor, stands_later}

module _ (G : Generator) (L : Laws G) (o : G.Value) where
  open G use {Byte, Draw, Time, t0, after, adds, entry, total}

  abbrev w : ℕ
  w = window G o

  pos : zero < w
  pos = omega (arith, L.some_limit)

  -- the machine's state stands for the bench's
  pub record Matches (b : Bench G) (z : State G o) : Type 0 where
    pub written : z.written ≡ length b.used
    pub time : z.time ≡ time_of G t0 b.taken
    pub over : z.over ≡ ended G t0 b.taken
    pub mark : StandsFor G L b.mark z.mark
    pub fit : Fit G o z.memory
    pub holds : (n : ℕ) → length b.used ≤ n → n < length b.used + w → rd G o z.memory (n % w) ≡ sum_at G (replies G t0 b.taken) n

  pub matches_first : Matches (bench0 G) (opened G o)
  matches_first = record {
    written = refl;
    time = refl;
    over = refl;
    mark = refl;
    fit = fit_blank G o;
    holds = λ n le lt. rd_blank G o (n % w) (mod-lt n pos);
  }

  -- the sample that the machine writes
  sample_is : (b : Bench G) (z : State G o) (v : NoisePair G) → Matches b z → sample G o z v ≡ noisy G (sum_at G (replies G t0 b.taken) (length b.used)) v
  sample_is b z v h = ap (λ (a : Sample G). noisy G a v) (ap (λ (n : ℕ). rd G o z.memory (n % w)) h.written ∙ h.holds (length b.used) (omega arith) (omega (arith, pos)))

  matches_samples_written : (b : Bench G) (z : State G o) (v : NoisePair G) (m : Time) (m' : Option Time) → Reached G L b → Matches b z → StandsFor G L m' m → Matches (record { taken = b.taken; used = b.used ++ (v ∷ []); mark = m' }) (state_after_sample G o z m)
  matches_samples_written b z v m m' g h e = record {
    written = ap suc h.written ∙ sym (length_snoc b.used v);
    time = h.time;
    over = h.over;
    mark = e;
    fit = fit_wr G o z.memory (z.written % w) (silence G) h.fit;
    holds = λ n le lt. rw h.written (on n (omega (arith, length_snoc b.used v)) (omega (arith, length_snoc b.used v)) (dec_le (length b.used + w) n));
  }
    where
      u : ℕ
      u = length b.used

      on : (n : ℕ) → suc u ≤ n → n < suc u + w → Dec (u + w ≤ n) → rd G o (wr G o z.memory (u % w) (silence G)) (n % w) ≡ sum_at G (replies G t0 b.taken) n
      on n le lt (yes q) =
          ap (λ (k : ℕ). rd G o (wr G o z.memory (u % w) (silence G)) (k % w)) {x = n} {y = u + w} (omega arith)
          ∙ ap (λ (i : ℕ). rd G o (wr G o z.memory (u % w) (silence G)) i) (add-mod_right u w)
          ∙ rd_here G o pos z.memory u (silence G) h.fit
          ∙ sym (g.behind n q)
      on n le lt (no q) = rd_back G o pos z.memory u n (silence G) (omega arith) (omega arith) ∙ h.holds n (omega arith) (omega arith)

  matches_draw_taken : (b : Bench G) (z : State G o) (l l' : Remaining G) (d : Draw) (k : Kind) → Reached G L b → Left G L b l → Matches b z
      → Takes G (ended G t0 b.taken) (length b.used) (time_of G t0 b.taken) l d k l'
      → Matches (record { taken = b.taken ++ (d ∷ []); used = b.used; mark = b.mark }) (state_after_draw G o z d k)
  matches_draw_taken b z l l' d ignored g a h s = record {
    written = h.written;
    time = ap (λ (t : Time). after t d) h.time ∙ sym (take_time G L b l l' d ignored g a s);
    over = h.over ∙ s.going ∙ sym (take_ended G L b l l' d ignored g a s);
    mark = h.mark;
    fit = h.fit;
    holds = λ n le lt. h.holds n le lt ∙ sym (take_sum G L b l l' d ignored g a s n);
  }
  matches_draw_taken b z l l' d ends g a h s = record {
    written = h.written;
    time = ap (λ (t : Time). after t d) h.time ∙ sym (take_time G L b l l' d ends g a s);
    over = sym (take_ended G L b l l' d ends g a s);
    mark = h.mark;
    fit = h.fit;
    holds = λ n le lt. h.holds n le lt ∙ sym (take_sum G L b l l' d ends g a s n);
  }
  matches_draw_taken b z l l' d (reply x) g a h s = record {
    written = h.written;
    time = ap (λ (t : Time). after t d) h.time ∙ sym (take_time G L b l l' d (reply x) g a s);
    over = h.over ∙ s.going ∙ sym (take_ended G L b l l' d (reply x) g a s);
    mark = h.mark;
    fit = fit_put G o pos z.memory x (adds (after z.time d) d x) h.fit;
    holds = λ n le lt. rw h.time (on n le lt (dec_le x n) ∙ sym (take_sum G L b l l' d (reply x) g a s n));
  }
    where
      t : Time
      t = after (time_of G t0 b.taken) d

      on : (n : ℕ) → length b.used ≤ n → n < length b.used + w → Dec (x ≤ n)
          → rd G o (put G o z.memory x (adds t d x)) (n % w) ≡ hit G (sum_at G (replies G t0 b.taken) n) (reply_of G t d x) n
      on n le lt (yes q) =
          subst (λ (m : ℕ). rd G o (put G o z.memory x (adds t d x)) (m % w) ≡ add_nth G (rd G o z.memory (m % w)) (adds t d x) (n - x)) (omega arith)
          (put_at G o pos z.memory x (n - x) (adds t d x) h.fit (omega (arith, take_ahead G L b l l' d (reply x) g a s x refl)) (omega (arith, take_short G L b l l' d (reply x) g a s x refl)))
          ∙ ap (λ (c : Sample G). add_nth G c (adds t d x) (n - x)) (h.holds n le lt)
          ∙ sym (hit_at G (sum_at G (replies G t0 b.taken) n) (reply_of G t d x) n q)
      on n le lt (no q) =
          put_ahead G o pos z.memory x n (adds t d x) (omega arith) (omega (arith, s.near x refl, take_short G L b l l' d (reply x) g a s x refl))
          ∙ h.holds n le lt
          ∙ sym (hit_before G (sum_at G (replies G t0 b.taken) n) (reply_of G t d x) n (omega arith))

  -- what the loop yields, from a bench b
  pub record Kept (b : Bench G) (rb : Benched G) (rz : Ran G o) : Type 0 where
    pub rest : rz.rest ≡ rb.rest
    pub stop : rz.stop ≡ rb.stop
    pub reached : Reached G L rb.bench
    pub matches : Matches rb.bench rz.state
    pub samples : plain_samples G b.taken b.used ++ rz.samples ≡ plain_samples G rb.bench.taken rb.bench.used
    pub records : plain_records G b.taken ++ rz.records ≡ plain_records G rb.bench.taken
    pub added : plain_counts G b.taken ++ rz.added ≡ plain_counts G rb.bench.taken
    pub finished : rb.stop ≡ done → (ended G t0 rb.bench.taken ≡ true) × (total ≤ length rb.bench.used)

  -- one step on both, and the rest by the hypothesis
  module _ (goB : Bench G → Remaining G → Benched G) (goZ : State G o → Remaining G → Ran G o)
      (ih : (b : Bench G) (z : State G o) (l : Remaining G) → Reached G L b → Matches b z → Left G L b l → Kept b (goB b l) (goZ z l))
      (b : Bench G) (z : State G o) (l : Remaining G) (g : Reached G L b) (h : Matches b z) (a : Left G L b l) where
    samples_written_kept : (v : NoisePair G) (m : Option Time) (l' : Remaining G) (r : Ran G o) → length b.used < total
        → Kept (record { taken = b.taken; used = b.used ++ (v ∷ []); mark = m }) (goB (record { taken = b.taken; used = b.used ++ (v ∷ []); mark = m }) l') r
        → Kept b (goB (record { taken = b.taken; used = b.used ++ (v ∷ []); mark = m }) l') (with_sample G o (sample G o z v) r)
    samples_written_kept v m l' r lt k = record {
      rest = k.rest;
      stop = k.stop;
      reached = k.reached;
      matches = k.matches;
      samples =
          sym (append_assoc (plain_samples G b.taken b.used) (sample G o z v ∷ []) r.samples)
          ∙ ap (λ (x : Sample G). (plain_samples G b.taken b.used ++ (x ∷ [])) ++ r.samples) (sample_is b z v h)
          ∙ ap (λ (xs : List (Sample G)). xs ++ r.samples) (sym (samples_more G L b v lt))
          ∙ k.samples;
      records = k.records;
      added = k.added;
      finished = k.finished;
    }

    taken_kept : (d : Draw) (k : Kind) (l' : Remaining G) (r : Ran G o)
        → Takes G (ended G t0 b.taken) (length b.used) (time_of G t0 b.taken) l d k l'
        → Kept (record { taken = b.taken ++ (d ∷ []); used = b.used; mark = b.mark }) (goB (record { taken = b.taken ++ (d ∷ []); used = b.used; mark = b.mark }) l') r
        → Kept b (goB (record { taken = b.taken ++ (d ∷ []); used = b.used; mark = b.mark }) l') (noted G o (after (time_of G t0 b.taken) d) d k r)
    taken_kept d ignored l' r f k = record {
      rest = k.rest;
      stop = k.stop;
      reached = k.reached;
      matches = k.matches;
      samples = ap (λ (xs : List (Sample G)). xs ++ r.samples) (sym (take_samples G L b l l' d ignored g a f)) ∙ k.samples;
      records = ap (λ (xs : List (List Byte)). xs ++ r.records) (sym (take_records G L b l l' d ignored g a f ∙ append-nil (plain_records G b.taken))) ∙ k.records;
      added = ap (λ (xs : List ℕ). xs ++ r.added) (sym (take_counts G L b l l' d ignored g a f ∙ append-nil (plain_counts G b.taken))) ∙ k.added;
      finished = k.finished;
    }
    taken_kept d ends l' r f k = record {
      rest = k.rest;
      stop = k.stop;
      reached = k.reached;
      matches = k.matches;
      samples = ap (λ (xs : List (Sample G)). xs ++ r.samples) (sym (take_samples G L b l l' d ends g a f)) ∙ k.samples;
      records = ap (λ (xs : List (List Byte)). xs ++ r.records) (sym (take_records G L b l l' d ends g a f ∙ append-nil (plain_records G b.taken))) ∙ k.records;
      added = ap (λ (xs : List ℕ). xs ++ r.added) (sym (take_counts G L b l l' d ends g a f ∙ append-nil (plain_counts G b.taken))) ∙ k.added;
      finished = k.finished;
    }
    taken_kept d (reply x) l' r f k = record {
      rest = k.rest;
      stop = k.stop;
      reached = k.reached;
      matches = k.matches;
      samples = ap (λ (xs : List (Sample G)). xs ++ r.samples) (sym (take_samples G L b l l' d (reply x) g a f)) ∙ k.samples;
      records =
          sym (append_assoc (plain_records G b.taken) (entry (after (time_of G t0 b.taken) d) d x (length (adds (after (time_of G t0 b.taken) d) d x)) ∷ []) r.records)
          ∙ ap (λ (xs : List (List Byte)). xs ++ r.records) (sym (take_records G L b l l' d (reply x) g a f))
          ∙ k.records;
      added =
          sym (append_assoc (plain_counts G b.taken) (length (adds (after (time_of G t0 b.taken) d) d x) ∷ []) r.added)
          ∙ ap (λ (xs : List ℕ). xs ++ r.added) (sym (take_counts G L b l l' d (reply x) g a f))
          ∙ k.added;
      finished = k.finished;
    }

    due_mark : (t : Time) (v : NoisePair G) (l' : Remaining G) → Dues G (ended G t0 b.taken) (length b.used) (time_of G t0 b.taken) l t v l' → StandsFor G L (latest G b.mark t) (later G z.mark t)
    due_mark t v l' f =
        let left = due_left G L b l l' t v a f in
        rw f.time
        (stands_later G L b.mark z.mark (after (time_of G t0 b.taken) f.next) h.mark
        (good_on G L (time_of G t0 b.taken) f.next g.good left.in_range.0))

    pub on_kept : (c : Step G) → Says G (ended G t0 b.taken) (length b.used) (time_of G t0 b.taken) l c → Kept b (bench_on G goB b l c) (machine_on G o goZ z l c)
    on_kept (halt s) f = record
        { rest = refl; stop = refl; reached = g; matches = h; samples = append-nil (plain_samples G b.taken b.used); records = append-nil (plain_records G b.taken); added = append-nil (plain_counts G b.taken); finished = λ e. f.at_done e }
    on_kept (drain v l') f =
        samples_written_kept v b.mark l' (goZ (state_after_sample G o z z.mark) l') f.short
        (ih (record { taken = b.taken; used = b.used ++ (v ∷ []); mark = b.mark }) (state_after_sample G o z z.mark) l'
        (reached_drain G L b l l' v g f) (matches_samples_written b z v z.mark b.mark g h h.mark) (left_drain G L b l l' v a f))
    on_kept (due t v l') f =
        samples_written_kept v (latest G b.mark t) l' (goZ (state_after_sample G o z (later G z.mark t)) l') (omega (arith, f.far, reply_fits G (G.start t f.next) f.first f.is))
        (ih (record { taken = b.taken; used = b.used ++ (v ∷ []); mark = latest G b.mark t }) (state_after_sample G o z (later G z.mark t)) l'
        (reached_due G L b l l' t v g a f) (matches_samples_written b z v (later G z.mark t) (latest G b.mark t) g h (due_mark t v l' f)) (left_due G L b l l' t v g a f))
    on_kept (taking d k l') f =
        subst (λ (t : Time). Kept b (goB (record { taken = b.taken ++ (d ∷ []); used = b.used; mark = b.mark }) l') (noted G o (after t d) d k (goZ (state_after_draw G o z d k) l'))) (sym h.time)
        (taken_kept d k l' (goZ (state_after_draw G o z d k) l') f
        (ih (record { taken = b.taken ++ (d ∷ []); used = b.used; mark = b.mark }) (state_after_draw G o z d k) l'
        (reached_take G L b l l' d k g a f) (matches_draw_taken b z l l' d k g a h f) (left_take G L b l l' d k g a f)))

  steps_agree : (b : Bench G) (z : State G o) (l : Remaining G) → Matches b z → state_step G o z l ≡ bench_step G b l
  steps_agree b z l h = rw (h.over, h.written, h.time)

  pub loop_kept : (f : ℕ) (b : Bench G) (z : State G o) (l : Remaining G) → Reached G L b → Matches b z → Left G L b l → Kept b (bench_steps G f b l) (machine_steps G o f z l)
  loop_kept zero b z l g h a = record
      { rest = refl; stop = refl; reached = g; matches = h; samples = append-nil (plain_samples G b.taken b.used); records = append-nil (plain_records G b.taken); added = append-nil (plain_counts G b.taken); finished = λ e. let q : ◌≡◌ {A = ℕ} 0 1 = cc in absurd (omega arith) }
  loop_kept (suc f) b z l g h a =
      rw (steps_agree b z l h)
      (on_kept (λ b' l'. bench_steps G f b' l') (λ z' l'. machine_steps G o f z' l') (λ b' z' l'. loop_kept f b' z' l') b z l g h a
      (bench_step G b l) (step_says G (ended G t0 b.taken) (length b.used) (time_of G t0 b.taken) l.draws l.noise l.room l.slots))
