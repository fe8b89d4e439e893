-- Demand 3 holds of the machine, by `demand3` at the end of this file: its calls keep step with the plain bench's, refused ones too. So does its state (`matched`).
use Rattle.std.specs.Prelude.{Option, Some, None}
use mathlib.Core.Bool.{Bool, true, false, ◌||◌, false≢true}
use mathlib.Core.List.{List, [], ◌∷◌, ◌++◌, map, map-append, append-nil, append_assoc}
use mathlib.Core.Path.{◌≡◌, refl, sym, ap, ◌∙◌, subst}
use Prim.Native.Nat.{ℕ, zero, suc, ◌+◌, ◌-◌, ◌*◌, ◌≤◌}
use native.Mathlib.Omega.{arith}
use lib.ListN.{length, drop, take, length-append, length-map}
use lib.Seq.{drop_at, take_at, take_all, take-nil, take-append-add}
use borrow.Author.Tests.{le-leb}
use Rattle.run_theory.specs.Generator.{Generator, Sample, NoisePair}
use Rattle.run_theory.specs.PlainRun.{Reply, time_of, ended, replies, samples_from, plain_samples, plain_records, plain_counts, plain_added}
use Rattle.run_theory.specs.Added.{sum_of}
use Rattle.run_theory.specs.Each.{Each}
use Rattle.run_theory.specs.PlainBench.{Stop, done, output_full, wants_noise, wants_draws, records_full, Refusal, pairs, flatten, join, over, Call, Result, draws_of, refusal_of, Remaining, remaining_of, Bench, Benched, bench0, bench_steps, fuel, counts, Given, result_of, bench_call, bench_results, bench_after}
use Rattle.run_theory.specs.Laws.{Laws, Accepted}
use Rattle.run_theory.specs.Demand3.{Prefix, bench, plain_output, plain_lines}
use Rattle.run_call_model.specs.Machine.{State, Ran, opened, machine_steps, machine_call, machine_results, machine_after, runs}
use Rattle.run_theory.proofs.ListClaim.{is_done, done_in, draws_taken, samples_written, noise_used, records_written, samples_added, all_samples, all_records, all_added, Recorded, Adds, reaches_done, all_taken, all_used, Demand3}
use Rattle.run_theory.proofs.PlainFacts.{replies_still, replies_append, samples_from_append, length_samples_from}
use Rattle.run_theory.proofs.Reached.{Reached, reached_first, samples_stay}
use Rattle.run_theory.proofs.Refusals.{accepted_draws, not_refused}
use Rattle.run_call_model.proofs.LatestTime.{refusal_alike}
use Rattle.run_call_model.proofs.InStep.{Matches, matches_first, Kept, loop_kept}
use Rattle.run_call_model.proofs.FlatLists.{length_flatten, flatten_append, pairs_after, take_pairs, join_append, length_join, take_over}
use Rattle.run_call_model.proofs.Counted.{Moved, moved, Counted, counted, lines}
use Rattle.run_theory.proofs.Reach.{all_recorded, all_reach}

is_done_eq : (s : Stop) → is_done s ≡ true → s ≡ done
is_done_eq done e = refl
is_done_eq output_full e = absurd (false≢true e)
is_done_eq wants_noise e = absurd (false≢true e)
is_done_eq wants_draws e = absurd (false≢true e)
is_done_eq records_full e = absurd (false≢true e)

new_part : {X : Type 0} (xs ys zs : List X) → xs ++ ys ≡ zs → ys ≡ drop (length xs) zs
new_part xs ys zs e = sym (drop_at xs ys (length xs) refl) ∙ ap (λ (l : List _). drop (length xs) l) e

either : (x y : Bool) {P : Type 0} → x || y ≡ true → (x ≡ true → P) → (y ≡ true → P) → P
either true y e f g = f refl
either false y e f g = g e

joined : {X : Type 0} (hs xs ys bs cs : List X) → hs ++ xs ≡ bs → bs ++ ys ≡ cs → hs ++ (xs ++ ys) ≡ cs
joined hs xs ys bs cs e f = sym (append_assoc hs xs ys) ∙ ap (λ (l : List _). l ++ ys) e ∙ f

map_drop : {X Y : Type 0} (f : X → Y) (n : ℕ) (xs : List X) → drop n (map f xs) ≡ map f (drop n xs)
map_drop f zero xs = refl
map_drop f (suc n) [] = refl
map_drop f (suc n) (x ∷ xs) = map_drop f n xs

-- the new part of a list that f makes of another is what f makes of the new part
new_of : {X Y : Type 0} (f : X → Y) (xs zs : List X) (ys : List Y) → map f xs ++ ys ≡ map f zs → ys ≡ map f (drop (length xs) zs)
new_of f xs zs ys e = new_part (map f xs) ys (map f zs) e ∙ ap (λ (n : ℕ). drop n (map f zs)) (length-map xs f) ∙ map_drop f (length xs) zs

each_drop : {X : Type 0} (P : X → Type 0) (n : ℕ) (xs : List X) → Each P xs → Each P (drop n xs)
each_drop P zero xs h = h
each_drop P (suc n) [] h = tt
each_drop P (suc n) (x ∷ xs) h = each_drop P n xs h.1

sum_append : (xs ys : List ℕ) → sum_of (xs ++ ys) ≡ sum_of xs + sum_of ys
sum_append [] ys = omega arith
sum_append (x ∷ xs) ys = omega (arith, sum_append xs ys)

first_of : {X : Type 0} (xs ys zs : List X) → zs ≡ xs ++ ys → take (length zs - length ys) zs ≡ xs
first_of xs ys zs e =
    ap (λ (l : List _). take (length l - length ys) l) e
    ∙ take_at xs ys (length (xs ++ ys) - length ys) (omega (arith, length-append xs ys))

module _ (G : Generator) (L : Laws G) (o : G.Value) where
  open G use {Value, Byte, Draw, Time, t0, record_bytes, total}

  abbrev Finished : Bench G → Type 0
  Finished b = (ended G t0 b.taken ≡ true) × (total ≤ length b.used)

  -- ---- one call
  record CallKept (b : Bench G) (c : Call G) (p : Given G × Bench G) (q : Given G × State G o) : Type 0 where
    given : q.0 ≡ p.0
    reached : Reached G L p.1
    matches : Matches G L o p.1 q.1
    samples : plain_output G b.taken b.used ++ take (2 * samples_written q.0.answer) (result_of G c q.0).output ≡ plain_output G p.1.taken p.1.used
    records : plain_lines G b.taken ++ take (record_bytes * records_written q.0.answer) (result_of G c q.0).records ≡ plain_lines G p.1.taken
    taken : b.taken ++ take (draws_taken q.0.answer) (draws_of G c.draws) ≡ p.1.taken
    used : flatten b.used ++ take (noise_used q.0.answer) c.noise ≡ flatten p.1.used
    adds : Adds G (result_of G c q.0)
    added : plain_added G b.taken + samples_added q.0.answer ≡ plain_added G p.1.taken
    finished : done_in q.0.answer ≡ true → Finished p.1
    -- once all is done nothing moves
    stays : Finished b → p.1 ≡ b

  -- a finished bench stops at step 1
  steps_stay : (f : ℕ) (b : Bench G) (l : Remaining G) → Finished b → (bench_steps G (suc f) b l).bench ≡ b
  steps_stay f b l h = rw (h.0, le-leb total (length b.used) h.1)

  call_kept : (b : Bench G) (z : State G o) (c : Call G) (x : Option Refusal) → Reached G L b → Matches G L o b z
      → (x ≡ None → Accepted G (time_of G t0 b.taken) b.mark (remaining_of G c).draws) → CallKept b c (bench_call G b c x) (machine_call G o z c x)
  call_kept b z c (Some q) g h acc = record {
    given = refl;
    reached = g;
    matches = h;
    samples = append-nil (plain_output G b.taken b.used);
    records = ap (λ (n : ℕ). plain_lines G b.taken ++ take n (over (join []) c.records)) {x = record_bytes * 0} {y = 0} (omega arith) ∙ append-nil (plain_lines G b.taken);
    taken = append-nil b.taken;
    used = append-nil (flatten b.used);
    adds = record { new = []; many = refl; lines = ap (λ (n : ℕ). take n (over (join []) c.records)) {x = record_bytes * 0} {y = 0} (omega arith); added = refl; recorded = tt };
    added = omega arith;
    finished = λ e. absurd (false≢true e);
    stays = λ e. refl;
  }
  call_kept b z c None g h acc = record {
    given = λ i. record {
      answer = counts G l (k.rest i) (sum_of (new_part (plain_counts G b.taken) rz.added (plain_counts G rb.bench.taken) k.added i)) (k.stop i);
      samples = new_part (plain_samples G b.taken b.used) rz.samples (plain_samples G rb.bench.taken rb.bench.used) k.samples i;
      records = new_part (plain_records G b.taken) rz.records (plain_records G rb.bench.taken) k.records i;
    };
    reached = k.reached;
    matches = k.matches;
    samples =
        ap (λ (xs : List Value). plain_output G b.taken b.used ++ xs)
        (take_over (2 * (l.room - rz.rest.room)) (flatten rz.samples) c.output (length_flatten rz.samples ∙ omega (arith, n.room)))
        ∙ sym (flatten_append (plain_samples G b.taken b.used) rz.samples)
        ∙ ap (λ (xs : List (Sample G)). flatten xs) k.samples;
    records =
        ap (λ (xs : List Byte). plain_lines G b.taken ++ xs) written_lines
        ∙ sym (join_append (plain_records G b.taken) rz.records)
        ∙ ap (λ (xs : List (List Byte)). join xs) k.records;
    taken =
        ap (λ (r : Remaining G). b.taken ++ take (length l.draws - length r.draws) l.draws) k.rest
        ∙ ap (λ (xs : List Draw). b.taken ++ xs) (first_of m.tk rb.rest.draws l.draws m.draws)
        ∙ sym m.taken;
    used =
        ap (λ (r : Remaining G). flatten b.used ++ take (2 * (length l.noise - length r.noise)) c.noise) k.rest
        ∙ ap (λ (i : ℕ). flatten b.used ++ take (2 * i) c.noise) {x = length l.noise - length rb.rest.noise} {y = length m.us} (omega (arith, ap length m.noise, length-append m.us rb.rest.noise))
        ∙ ap (λ (xs : List Value). flatten b.used ++ xs) (take_pairs m.us rb.rest.noise c.noise m.noise)
        ∙ sym (flatten_append b.used m.us)
        ∙ ap (λ (xs : List (NoisePair G)). flatten xs) (sym m.used);
    adds = record {
      new = new;
      many = sym (length-map new line) ∙ ap length (sym new_lines) ∙ omega (arith, n.slots);
      lines = written_lines ∙ ap (λ (xs : List (List Byte)). join xs) new_lines;
      added = ap sum_of (new_of count (replies G t0 b.taken) (replies G t0 rb.bench.taken) rz.added k.added);
      recorded = each_drop (Recorded G) (length (replies G t0 b.taken)) (replies G t0 rb.bench.taken) (all_recorded G L t0 rb.bench.taken L.good_first k.reached.in_range);
    };
    added = sym (sum_append (plain_counts G b.taken) rz.added) ∙ ap sum_of k.added;
    finished = λ e. k.finished (sym k.stop ∙ is_done_eq rz.stop e);
    stays = λ e. steps_stay (length l.draws + l.room) b l e;
  }
    where
      l : Remaining G
      l = remaining_of G c

      rb : Benched G
      rb = bench_steps G (fuel G l) b l

      rz : Ran G o
      rz = machine_steps G o (fuel G l) z l

      k : Kept G L o b rb rz
      k = loop_kept G L o (fuel G l) b z l g h (acc refl)

      m : Moved G b l rb
      m = moved G (fuel G l) b l

      n : Counted G o l rz
      n = counted G o (fuel G l) z l

      -- the records written, and the replies that they are of
      written_lines : take (record_bytes * (l.slots - rz.rest.slots)) (over (join rz.records) c.records) ≡ join rz.records
      written_lines =
          take_over (record_bytes * (l.slots - rz.rest.slots)) (join rz.records) c.records
          (length_join record_bytes rz.records (lines G o L.entry_length (fuel G l) z l) ∙ ap (λ (i : ℕ). record_bytes * i) {x = length rz.records} {y = l.slots - rz.rest.slots} (omega (arith, n.slots)))

      line : Reply G → List Byte
      line r = r.line

      count : Reply G → ℕ
      count r = length r.values

      new : List (Reply G)
      new = drop (length (replies G t0 b.taken)) (replies G t0 rb.bench.taken)

      new_lines : rz.records ≡ map line new
      new_lines = new_of line (replies G t0 b.taken) (replies G t0 rb.bench.taken) rz.records k.records

  -- ---- a list of calls
  record CallsKept (b : Bench G) (cs : List (Call G)) (p : List (Result G)) (b' : Bench G) (q : List (Result G)) (z' : State G o) : Type 0 where
    results : q ≡ p
    reached : Reached G L b'
    matches : Matches G L o b' z'
    samples : plain_output G b.taken b.used ++ all_samples G q ≡ plain_output G b'.taken b'.used
    records : plain_lines G b.taken ++ all_records G q ≡ plain_lines G b'.taken
    taken : b.taken ++ all_taken G cs q ≡ b'.taken
    used : flatten b.used ++ all_used G cs q ≡ flatten b'.used
    adds : Each (Adds G) q
    added : plain_added G b.taken + all_added G q ≡ plain_added G b'.taken
    finished : reaches_done G q ≡ true → Finished b'
    stays : Finished b → b' ≡ b

  calls_kept : (cs : List (Call G)) (b : Bench G) (z : State G o) → Reached G L b → Matches G L o b z → CallsKept b cs (bench_results G b cs) (bench_after G b cs) (machine_results G o z cs) (machine_after G o z cs)
  calls_kept [] b z g h = record {
    results = refl;
    reached = g;
    matches = h;
    samples = append-nil (plain_output G b.taken b.used);
    records = append-nil (plain_lines G b.taken);
    taken = append-nil b.taken;
    used = append-nil (flatten b.used);
    adds = tt;
    added = omega arith;
    finished = λ e. absurd (false≢true e);
    stays = λ e. refl;
  }
  calls_kept (c ∷ cs) b z g h =
      subst (λ (x : Option Refusal). CallsKept b (c ∷ cs) (bench_results G b (c ∷ cs)) (bench_after G b (c ∷ cs)) (result_of G c (machine_call G o z c x).0 ∷ machine_results G o (machine_call G o z c x).1 cs) (machine_after G o (machine_call G o z c x).1 cs)) (sym same_test)
      (on (bench_call G b c x) (machine_call G o z c x)
      (call_kept b z c x g h (λ e. not_refused G (time_of G t0 b.taken) b.mark c e))
      (λ b' z'. calls_kept cs b' z'))
    where
      x : Option Refusal
      x = refusal_of G (time_of G t0 b.taken) b.mark c

      same_test : refusal_of G z.time (Some z.mark) c ≡ refusal_of G (time_of G t0 b.taken) b.mark c
      same_test = ap (λ (t : Time). refusal_of G t (Some z.mark) c) h.time ∙ refusal_alike G L (time_of G t0 b.taken) b.mark z.mark c g.good h.mark

      on : (p : Given G × Bench G) (q : Given G × State G o) → CallKept b c p q
          → ((b' : Bench G) (z' : State G o) → Reached G L b' → Matches G L o b' z' → CallsKept b' cs (bench_results G b' cs) (bench_after G b' cs) (machine_results G o z' cs) (machine_after G o z' cs))
          → CallsKept b (c ∷ cs) (result_of G c p.0 ∷ bench_results G p.1 cs) (bench_after G p.1 cs) (result_of G c q.0 ∷ machine_results G o q.1 cs) (machine_after G o q.1 cs)
      on p q k ih = record {
        results = λ i. result_of G c (k.given i) ∷ r.results i;
        reached = r.reached;
        matches = r.matches;
        samples = joined (plain_output G b.taken b.used) (take (2 * samples_written q.0.answer) (result_of G c q.0).output) (all_samples G rs) (plain_output G p.1.taken p.1.used) (plain_output G last.taken last.used) k.samples r.samples;
        records = joined (plain_lines G b.taken) (take (record_bytes * records_written q.0.answer) (result_of G c q.0).records) (all_records G rs) (plain_lines G p.1.taken) (plain_lines G last.taken) k.records r.records;
        taken = joined b.taken (take (draws_taken q.0.answer) (draws_of G c.draws)) (all_taken G cs rs) p.1.taken last.taken k.taken r.taken;
        used = joined (flatten b.used) (take (noise_used q.0.answer) c.noise) (all_used G cs rs) (flatten p.1.used) (flatten last.used) k.used r.used;
        adds = (k.adds, r.adds);
        added = omega (arith, k.added, r.added);
        finished = λ e. either (done_in q.0.answer) (reaches_done G rs) e (λ y. subst (λ (d : Bench G). Finished d) (sym (r.stays (k.finished y))) (k.finished y)) (λ y. r.finished y);
        stays = λ e. r.stays (subst (λ (d : Bench G). Finished d) (sym (k.stays e)) e) ∙ k.stays e;
      }
        where
          rs : List (Result G)
          rs = machine_results G o q.1 cs

          r : CallsKept p.1 cs (bench_results G p.1 cs) (bench_after G p.1 cs) (machine_results G o q.1 cs) (machine_after G o q.1 cs)
          r = ih p.1 q.1 k.reached k.matches

          last : Bench G
          last = bench_after G p.1 cs

  -- ---- what stays a first part
  records_prefix : (ds es : List Draw) → Prefix (plain_lines G ds) (plain_lines G (ds ++ es))
  records_prefix ds es = go (ended G t0 ds) refl
    where
      go : (e : Bool) → ended G t0 ds ≡ e → Prefix (plain_lines G ds) (plain_lines G (ds ++ es))
      go true e = ([], append-nil (plain_lines G ds) ∙ ap (λ (rs : List (Reply G)). join (map (λ r. r.line) rs)) (sym (replies_still G t0 ds es e)))
      go false e = (
        join (map (λ r. r.line) (replies G (time_of G t0 ds) es)),
        sym (join_append (plain_records G ds) (map (λ r. r.line) (replies G (time_of G t0 ds) es)))
            ∙ ap (λ (ls : List (List Byte)). join ls)
            (sym (map-append (λ r. r.line) (replies G t0 ds) (replies G (time_of G t0 ds) es)) ∙ ap (λ (rs : List (Reply G)). map (λ r. r.line) rs) (sym (replies_append G t0 ds es e))),
      )

  -- more noise, and draws that the bench does not refuse, leave the samples a first part
  pub samples_prefix : (b : Bench G) (ds : List Draw) (vs : List (NoisePair G)) → Reached G L b → Accepted G (time_of G t0 b.taken) b.mark ds → Prefix (plain_output G b.taken b.used) (plain_output G (b.taken ++ ds) (b.used ++ vs))
  samples_prefix b ds vs g acc = (
    flatten more,
    sym (flatten_append (plain_samples G b.taken b.used) more)
        ∙ ap (λ (l : List (Sample G)). flatten l)
        (ap (λ (l : List (Sample G)). l ++ more) (sym (samples_stay G L b ds g acc) ∙ ap (λ (l : List (NoisePair G)). samples_from G rs 0 l) (take_all total b.used g.within))
        ∙ sym (samples_from_append G rs 0 b.used (take (total - length b.used) vs))
        ∙ ap (λ (l : List (NoisePair G)). samples_from G rs 0 l) (sym (take-append-add b.used vs (total - length b.used)) ∙ ap (λ (n : ℕ). take n (b.used ++ vs)) {x = length b.used + (total - length b.used)} {y = total} (omega (arith, g.within)))),
  )
    where
      rs : List (Reply G)
      rs = replies G t0 (b.taken ++ ds)

      more : List (Sample G)
      more = samples_from G rs (0 + length b.used) (take (total - length b.used) vs)

  -- ---- the claim
  kept : (cs : List (Call G)) → CallsKept (bench0 G) cs (bench_results G (bench0 G) cs) (bench G cs) (runs G o cs) (machine_after G o (opened G o) cs)
  kept cs = calls_kept cs (bench0 G) (opened G o) (reached_first G L) (matches_first G L o)

  -- any bench that calls made is reached
  pub reached : (cs : List (Call G)) → Reached G L (bench G cs)
  reached cs = (kept cs).reached

  -- and the machine's state after calls is that of the bench
  pub matched : (cs : List (Call G)) → Matches G L o (bench G cs) (machine_after G o (opened G o) cs)
  matched cs = (kept cs).matches

  none_yet : plain_output G [] [] ≡ []
  none_yet = rw (take-nil {A = NoisePair G} total)

  all_samples_lem : (cs : List (Call G)) → all_samples G (runs G o cs) ≡ plain_output G (bench G cs).taken (bench G cs).used
  all_samples_lem cs = ap (λ (l : List Value). l ++ all_samples G (runs G o cs)) (sym none_yet) ∙ (kept cs).samples

  all_records_lem : (cs : List (Call G)) → all_records G (runs G o cs) ≡ plain_lines G (bench G cs).taken
  all_records_lem cs = (kept cs).records

  length_samples : (cs : List (Call G)) → length (all_samples G (runs G o cs)) ≡ 2 * length (bench G cs).used
  length_samples cs =
      ap length (all_samples_lem cs)
      ∙ length_flatten (plain_samples G (bench G cs).taken (bench G cs).used)
      ∙ ap (λ (n : ℕ). 2 * n) (length_samples_from G (replies G t0 (bench G cs).taken) 0 (take total (bench G cs).used) ∙ ap length (take_all total (bench G cs).used (reached cs).within))

  all_of : (x u : ℕ) → x ≡ 2 * u → u ≤ total → total ≤ u → x ≡ 2 * total
  all_of x u e p q = omega arith

  from_none : (x y : ℕ) → 0 + x ≡ y → x ≡ y
  from_none x y e = omega arith

  pub demand3 : Demand3 G (runs G o)
  demand3 = record {
    answers = λ cs. (kept cs).results;
    taken = λ cs. sym (kept cs).taken;
    used = λ cs. sym (kept cs).used;
    samples = all_samples_lem;
    records = all_records_lem;
    samples_stay = λ cs ds vs acc.
        subst (λ (l : List Value). Prefix l (plain_output G ((bench G cs).taken ++ ds) (pairs (flatten (bench G cs).used ++ vs)))) (sym (all_samples_lem cs))
        (subst (λ (l : List (NoisePair G)). Prefix (plain_output G (bench G cs).taken (bench G cs).used) (plain_output G ((bench G cs).taken ++ ds) l)) (sym (pairs_after (bench G cs).used vs))
        (samples_prefix (bench G cs) ds (pairs vs) (reached cs) (accepted_draws G (time_of G t0 (bench G cs).taken) (bench G cs).mark ds acc)));
    records_stay = λ cs ds. subst (λ (l : List Byte). Prefix l (plain_lines G ((bench G cs).taken ++ ds))) (sym (all_records_lem cs)) (records_prefix (bench G cs).taken ds);
    written = length_samples;
    whole = λ cs e. (((kept cs).finished e).0, all_of (length (all_samples G (runs G o cs))) (length (bench G cs).used) (length_samples cs) (reached cs).within ((kept cs).finished e).1);
    reach = λ cs. all_reach G L t0 (bench G cs).taken L.good_first (reached cs).in_range;
    adds = λ cs. (kept cs).adds;
    added = λ cs. from_none (all_added G (runs G o cs)) (plain_added G (bench G cs).taken) (kept cs).added;
  }
