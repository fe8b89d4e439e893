-- Demand 3 (SPECIFICATION 2.3) for callers in C: `opened_calls`, at the end of this file, is a term of the claim `OpenedCalls`.
use Rattle.std.specs.Prelude.{Result, Ok, Err}
use Rattle.run_steps.specs.declared.Stop.{Stop}
use mathlib.Core.Path.{◌≡◌, refl, sym, ap, ◌∙◌, subst}
use mathlib.Core.List.{List, [], ◌∷◌, map, map-map}
use Prim.Native.Nat.{ℕ, ◌+◌, ◌*◌, ◌≤◌}
use native.Mathlib.Omega.{arith}
use lib.ListN.{get_or}
use lib.Ieee.{Float}
use Rattle.constants.specs.Rate.{reply_limit}
use Rattle.constants.specs.Setting.{per_pulse}
use Rattle.run_theory.specs.Added.{sum_of, whole_of}
use Rattle.run_theory.specs.Each.{Each}
use Rattle.run_theory.specs.PlainBench as Bench
use Rattle.refusals.specs.declared.Refusal as Refusal
use Rattle.refusals.specs.Number.{number_of}
use Rattle.run_open.specs.Opening as Opening
use Rattle.run_call.specs.declared.State.{State}
use Rattle.run_call.specs.declared.Counts.{Counts}
use Rattle.run_call.specs.Buffers.{Left, CallBuffers}
use Rattle.run_call.specs.CallModel.{run_left}
use Rattle.run_call.specs.Calls.{runs_left}
use Rattle.run_theorem.specs.Seen.{Numbered, stopped, refused, Seen, answer_seen, seen_left, counts_of, answer_of, seen_result}
use Rattle.run_theorem.specs.OpenedRuns.{Run, Opens, calls, gen, results, samples_added, total_added, record_counts, CountsAdded, last_state}
use Rattle.run_theorem.proofs.Demand3.{opened_runs}
use Rattle.more1090_generator.specs.declared.FlatAnswer.{FlatAnswer}
use Rattle.more1090_generator.specs.States.{flat_of}
use Rattle.refusals.specs.Flat.{values_flat}
use Rattle.more1090_generator.specs.Answers.{opened_flat, flat_answer, answered, ran_flat, FlatLeft, left_flat, flat_run_left, flat_runs_left}
use Rattle.more1090_generator.specs.Seen.{FlatSeen, flat_seen, bench_answer, bench_seen}
use Rattle.more1090_generator.specs.OpenedCalls.{last_flat, flat_added, flat_total, FlatCountsAdded, Demand3InC, OpenedCalls}
use Rattle.more1090_generator.proofs.StateBack.{state_back}

-- a list of calls in C's numbers is the list of calls, each as C has it
module _ (mode_s mode_ac : List Float) where
  next : Left → List CallBuffers → List FlatLeft
  next r ls = left_flat r ∷ flat_runs_left (flat_of r.ran.state) mode_s mode_ac r.memory ls

  runs_flat : (ls : List CallBuffers) (s : State) (memory : List Float) → flat_runs_left (flat_of s) mode_s mode_ac memory ls ≡ map left_flat (runs_left s mode_s mode_ac memory ls)
  unfolding flat_runs_left runs_left flat_run_left left_flat ran_flat next
  runs_flat [] s memory = refl
  runs_flat (l ∷ ls) s memory =
      let r = run_left s mode_s mode_ac memory l.draws l.noise l.output l.records in
      ap (λ (x : State). next (run_left x mode_s mode_ac memory l.draws l.noise l.output l.records) ls) (state_back s)
      ∙ ap (λ (x : List FlatLeft). left_flat r ∷ x) (runs_flat ls r.ran.state r.memory)

last_flat_lem : (ls : List Left) (s : State) → last_flat (flat_of s) (map left_flat ls) ≡ flat_of (last_state s ls)
unfolding left_flat ran_flat
last_flat_lem [] s = refl
last_flat_lem (l ∷ ls) s = last_flat_lem ls l.ran.state

-- what is seen of a run call, in C's numbers
answer_flat : Counts → Numbered → FlatAnswer
answer_flat n (stopped stop) = flat_answer n stop 0 0 0
answer_flat n (refused ns) = flat_answer n 5 (get_or ns 0 0) (get_or ns 1 0) (get_or ns 2 0)

seen_flat : Seen → FlatSeen
seen_flat v = record { answer = answer_flat v.counts v.answer; output = v.output; records = v.records }

same_answer : (n : Counts) (a : Result Stop Refusal.Refusal) → answered n a ≡ answer_flat n (answer_seen a)
unfolding answered answer_flat answer_seen values_flat
same_answer n (Ok stop) = refl
same_answer n (Err q) = refl

same_seen : (l : Left) → flat_seen (left_flat l) ≡ seen_flat (seen_left l)
unfolding flat_seen left_flat ran_flat seen_flat seen_left
same_seen l = λ i. record { answer = same_answer l.ran.counts l.ran.answer i; output = l.output; records = l.records }

bench_answer_lem : (a : Bench.Answer) → answer_flat (counts_of a) (answer_of a) ≡ bench_answer a
unfolding answer_flat flat_answer bench_answer counts_of answer_of
bench_answer_lem (Bench.refused q) = refl
bench_answer_lem (Bench.ran taken samples noise records added stop) = refl

bench_seen_lem : (r : Run) (x : Bench.Result (gen r)) → seen_flat (seen_result r.state r.buffers.mode_s r.buffers.mode_ac x) ≡ bench_seen r.state r.buffers.mode_s r.buffers.mode_ac x
unfolding seen_flat seen_result bench_seen
bench_seen_lem r x = λ i. record { answer = bench_answer_lem x.answer i; output = x.output; records = x.records }

-- the counts of a call are C's
record SameCounts (n : Counts) (a : FlatAnswer) : Type 0 where
  records : a.records ≡ n.records
  high : a.added_high ≡ n.added_high
  low : a.added_low ≡ n.added_low

same_counts : (n : Counts) (a : Result Stop Refusal.Refusal) → SameCounts n (answered n a)
unfolding answered flat_answer
same_counts n (Ok stop) = record { records = refl; high = refl; low = refl }
same_counts n (Err q) = record { records = refl; high = refl; low = refl }

added_flat : (l : Left) → flat_added (left_flat l) ≡ samples_added l
unfolding left_flat ran_flat
added_flat l = let k = same_counts l.ran.counts l.ran.answer in λ i. whole_of (k.high i) (k.low i)

adds_flat : (sps : ℕ) (ls : List Left) → Each (CountsAdded sps) ls → Each (FlatCountsAdded sps) (map left_flat ls)
unfolding left_flat ran_flat
adds_flat sps [] h = tt
adds_flat sps (l ∷ ls) h =
    let k = same_counts l.ran.counts l.ran.answer in (
      record {
        sum = added_flat l ∙ h.0.sum ∙ ap (λ (n : ℕ). sum_of (record_counts n l.records)) (sym k.records);
        each = subst (λ (n : ℕ). Each (λ m. m ≤ reply_limit sps) (record_counts n l.records)) (sym k.records) h.0.each;
        most = subst (λ (n : ℕ). n ≤ reply_limit sps * (left_flat l).ran.answer.records) (sym (added_flat l)) (subst (λ (n : ℕ). samples_added l ≤ reply_limit sps * n) (sym k.records) h.0.most);
      },
      adds_flat sps ls h.1,
    )

total_flat : (ls : List Left) → flat_total (map left_flat ls) ≡ total_added ls
total_flat [] = refl
total_flat (l ∷ ls) = λ i. added_flat l i + total_flat ls i

-- what one function makes of another, place by place
each : {A B C : Type 0} (f : B → C) (g : A → B) (h : A → C) → ((a : A) → f (g a) ≡ h a) → (l : List A) → map f (map g l) ≡ map h l
each f g h e [] = refl
each f g h e (a ∷ l) = λ i. e a i ∷ each f g h e l i

-- a run's calls in C
module _ (taps_s taps_ac : List Float) (settings : List ℕ) (given : Opening.OpenBuffers) (r : Run) (o : Opens taps_s taps_ac settings given r) where
  same_calls : (cs : List CallBuffers) → flat_runs_left (flat_of r.state) r.buffers.mode_s r.buffers.mode_ac r.buffers.memory cs ≡ map left_flat (calls r cs)
  same_calls cs = runs_flat r.buffers.mode_s r.buffers.mode_ac cs r.state r.buffers.memory

  in_c : Demand3InC taps_s taps_ac settings given (flat_of r.state) r
  in_c =
      let d = opened_runs taps_s taps_ac settings given r o in
      record {
        opens = o;
        demand3 = d;
        same = same_calls;
        answers = λ cs.
            ap (map flat_seen) (same_calls cs)
            ∙ each flat_seen left_flat (λ (l : Left). seen_flat (seen_left l)) same_seen (calls r cs)
            ∙ sym (map-map seen_flat seen_left (calls r cs))
            ∙ ap (map seen_flat) (d.answers cs)
            ∙ each seen_flat (seen_result r.state r.buffers.mode_s r.buffers.mode_ac) (bench_seen r.state r.buffers.mode_s r.buffers.mode_ac) (bench_seen_lem r) (results r cs);
        adds = λ cs. subst (Each (FlatCountsAdded (per_pulse r.state.setting))) (sym (same_calls cs)) (adds_flat (per_pulse r.state.setting) (calls r cs) (d.adds cs));
        total = λ cs. ap flat_total (same_calls cs) ∙ total_flat (calls r cs) ∙ d.total cs;
        state = λ cs. ap (last_flat (flat_of r.state)) (same_calls cs) ∙ last_flat_lem (calls r cs) r.state ∙ ap flat_of (d.state cs);
      }

-- no refusal has the number 0
pub refusal_above : (q : Refusal.Refusal) → number_of q ≡ 0 → ⊥
unfolding number_of
refusal_above Refusal.TheVariants.Duration e = absurd (omega arith)
refusal_above (Refusal.TheVariants.Rate k) e = absurd (omega arith)
refusal_above Refusal.TheVariants.Total e = absurd (omega arith)
refusal_above (Refusal.TheVariants.Distribution k) e = absurd (omega arith)
refusal_above Refusal.TheVariants.Taps e = absurd (omega arith)
refusal_above Refusal.TheVariants.Prototype e = absurd (omega arith)
refusal_above (Refusal.TheVariants.Draw d k) e = absurd (omega arith)
refusal_above (Refusal.TheVariants.Noise p) e = absurd (omega arith)
refusal_above Refusal.TheVariants.Length e = absurd (omega arith)
refusal_above Refusal.TheVariants.Reply e = absurd (omega arith)
refusal_above Refusal.TheVariants.Tape e = absurd (omega arith)
refusal_above Refusal.TheVariants.StretchLength e = absurd (omega arith)
refusal_above Refusal.TheVariants.Level e = absurd (omega arith)
refusal_above Refusal.TheVariants.TriggerLevel e = absurd (omega arith)
refusal_above Refusal.TheVariants.SamplesPerPulse e = absurd (omega arith)
refusal_above Refusal.TheVariants.Log e = absurd (omega arith)
refusal_above Refusal.TheVariants.Feeds e = absurd (omega arith)
refusal_above (Refusal.TheVariants.Record k) e = absurd (omega arith)

opened_as : (taps_s taps_ac : List Float) (settings : List ℕ) (given : Opening.OpenBuffers) (o : Result State Refusal.Refusal) → Opening.opened_of taps_s taps_ac settings given ≡ o → (opened_flat o).refusal ≡ 0
    → (r : Run) × Demand3InC taps_s taps_ac settings given (opened_flat o).state r
unfolding opened_flat
opened_as taps_s taps_ac settings given (Err q) e h = absurd (refusal_above q h)
opened_as taps_s taps_ac settings given (Ok s) e h =
    let r : Run = record { state = s; buffers = Opening.left_by taps_s taps_ac (Ok s) given } in
    (r, in_c taps_s taps_ac settings given r (record { answers = e; leaves = refl }))

pub opened_calls : OpenedCalls
opened_calls taps_s taps_ac settings given h = opened_as taps_s taps_ac settings given _ refl h
