-- Demand 3 (SPECIFICATION 2.3) on the contracts of opening and of run calls: `opened-runs`, at the end of this file, is a term of the claim `OpenedRuns`.
use Rattle.std.specs.Prelude.{None, Ok}
use Prim.Native.Nat.{ℕ, zero, suc, ◌+◌, ◌*◌}
use mathlib.Core.Bool.{Bool, true, false, ◌||◌}
use mathlib.Core.List.{List, [], ◌∷◌, ◌++◌, map}
use mathlib.Core.Logic.{◌⊎◌, inl, inr}
use mathlib.Core.Path.{◌≡◌, refl, sym, ap, ◌∙◌, subst}
use native.Mathlib.Omega.{arith}
use lib.ListN.{length, length-replicate, take}
use lib.Ieee.{Float, nan}
use Rattle.constants.specs.Rate.{working_memory}
use Rattle.constants.specs.Setting.{per_pulse}
use Rattle.run_theory.specs.FloatGenerator.{nought}
use Rattle.run_theory.specs.Added.{high_half, low_half, whole_of}
use Rattle.run_theory.specs.Each.{Each}
use Rattle.run_theory.specs.Generator.{Generator}
use Rattle.run_theory.specs.PlainRun.{time_of, ended, replies, plain_added}
use Rattle.run_theory.specs.PlainBench as Bench
use Rattle.run_theory.specs.Demand3.{Prefix, plain_output, plain_lines, Reach}
use Rattle.run_call_model.specs.Machine as Machine
use Rattle.run_call_model.proofs.FlatLists.{pairs_flatten}
use Rattle.run_theory.proofs.ListClaim as Theory
use Rattle.run_call_model.proofs.Demand3.{matched}
use Rattle.run_generator.specs.Instance.{RepresentableDraw}
use Rattle.run_generator.proofs.InstanceDemand3.{instance_laws, instance_demand3}
use Rattle.pulse_shape.specs.Prototype.{mode_s_prototype, mode_ac_prototype}
use Rattle.pulse_shape.proofs.Whole.{length_prototype}
use Rattle.run_steps.specs.declared.Stop as Stop
use Rattle.run_call.specs.declared.State.{State}
use Rattle.run_call.specs.declared.Counts.{Counts}
use Rattle.run_call.specs.StateGenerator.{filters_of}
use Rattle.run_call.specs.Buffers.{Left, CallBuffers}
use Rattle.run_call.specs.Given.{stop_given}
use Rattle.run_call.specs.CallModel.{run_left}
use Rattle.run_call.specs.Calls.{call_of, runs_left}
use Rattle.run_call.specs.MachineModel.{machine_of, state_of, ran_given, left_given, runs_given}
use Rattle.run_call.proofs.RunsAreTheModels.{given_state, runs_are}
use Rattle.run_open.specs.Opening as Opening
use Rattle.run_open.proofs.WhatIsOpened.{opened_run_in_range, opened_first}
use Rattle.run_theorem.specs.Seen.{stopped, refused, answer_seen, seen_left, counts_of, answer_of, seen_result}
use Rattle.run_theorem.specs.OpenedRuns.{Run, Opens, calls, gen, bench_calls, bench, all_samples, all_records, all_used, all_taken, samples_written, records_written, noise_used, draws_taken, total_added, CountsAdded, ReachesDone, last_state, state_after, Finite53, Demand3, OpenedRuns}
use Rattle.run_theorem.proofs.FiniteSamples.{opened_finite}
use Rattle.run_theorem.proofs.CountsAdded.{whole_back, counts_added}
use Rattle.run_theorem.proofs.SameNumbers.{same_numbers, same_stops}
use Rattle.run_theorem.proofs.SameRun.{same_run}

-- first calls do not depend on later ones
module _ (mode_s mode_ac : List Float) where
  first_calls : (n : ℕ) (cs : List CallBuffers) (s : State) (memory : List Float) → take n (runs_left s mode_s mode_ac memory cs) ≡ runs_left s mode_s mode_ac memory (take n cs)
  unfolding runs_left
  first_calls zero cs s memory = refl
  first_calls (suc n) [] s memory = refl
  first_calls (suc n) (c ∷ cs) s memory =
      let l = run_left s mode_s mode_ac memory c.draws c.noise c.output c.records in
      ap (λ (ls : List Left). l ∷ ls) (first_calls n cs l.ran.state l.memory)

-- ---- the theory's calls as the code answers them, from a machine's state on
module _ (r : Run) where
  abbrev s : State
  s = r.state

  abbrev p_s : List Float
  p_s = r.buffers.mode_s

  abbrev p_ac : List Float
  p_ac = r.buffers.mode_ac

  abbrev G : Generator
  G = gen r

  -- each is seen as its result
  seen_given : (a : Bench.Answer) (z : Machine.State G nan) (output : List Float) (records : List ℕ) → seen_left (left_given s p_s p_ac (record { answer = a; output = output; records = records }) z) ≡ seen_result s p_s p_ac (record { answer = a; output = output; records = records })
  unfolding seen_left seen_result left_given ran_given answer_seen counts_of answer_of
  seen_given (Bench.refused q) z output records = λ i. record { counts = counts_of (Bench.refused q); answer = refused (same_numbers q i); output = output; records = records }
  seen_given (Bench.ran taken samples noise lines added stop) z output records = λ i. record { counts = counts_of (Bench.ran taken samples noise lines added stop); answer = stopped (same_stops stop i); output = output; records = records }

  seen_all_lem : (cs : List CallBuffers) (z : Machine.State G nan) → map seen_left (runs_given s p_s p_ac z cs) ≡ map (seen_result s p_s p_ac) (Machine.machine_results G nan z (bench_calls r cs))
  unfolding runs_given
  seen_all_lem [] z = refl
  seen_all_lem (c ∷ cs) z =
      let t = Machine.machine_run G nan z (call_of s p_s p_ac c) in
      let x = Bench.result_of G (call_of s p_s p_ac c) t.0 in
      λ i. seen_given x.answer t.1 x.output x.records i ∷ seen_all_lem cs t.1 i

  -- each counts what its answer does, and is Done where it is
  abbrev counts_in : Bench.Answer → Counts
  counts_in a = record { taken = Theory.draws_taken a; samples = Theory.samples_written a; noise = Theory.noise_used a; records = Theory.records_written a; added_high = high_half (Theory.samples_added a); added_low = low_half (Theory.samples_added a) }

  counts_given : (a : Bench.Answer) (z : Machine.State G nan) → (ran_given s p_s p_ac a z).counts ≡ counts_in a
  unfolding ran_given
  counts_given (Bench.refused q) z = refl
  counts_given (Bench.ran taken samples noise lines added stop) z = refl

  added_given : (a : Bench.Answer) (z : Machine.State G nan) → whole_of (ran_given s p_s p_ac a z).counts.added_high (ran_given s p_s p_ac a z).counts.added_low ≡ Theory.samples_added a
  added_given a z = ap (λ (n : Counts). whole_of n.added_high n.added_low) (counts_given a z) ∙ whole_back (Theory.samples_added a)

  -- each adds what its records count
  adds_given : (x : Bench.Result G) (z : Machine.State G nan) → Theory.Adds G x → CountsAdded (per_pulse s.setting) (left_given s p_s p_ac x z)
  unfolding left_given
  adds_given x z a =
      counts_added r a.new (left_given s p_s p_ac x z) a.recorded
      (ap (λ (n : Counts). n.records) (counts_given x.answer z) ∙ sym a.many)
      (ap (λ (n : ℕ). take (66 * n) x.records) a.many ∙ a.lines)
      (added_given x.answer z ∙ a.added)

  done_given : (a : Bench.Answer) (z : Machine.State G nan) → (ran_given s p_s p_ac a z).answer ≡ Ok Stop.TheVariants.Done → Theory.done_in a ≡ true
  unfolding ran_given stop_given
  done_given (Bench.refused q) z e = let n : ◌≡◌ {A = ℕ} 0 1 = cc in absurd (omega arith)
  done_given (Bench.ran taken samples noise lines added Bench.done) z e = refl
  done_given (Bench.ran taken samples noise lines added Bench.output_full) z e = let n : ◌≡◌ {A = ℕ} 0 1 = cc in absurd (omega arith)
  done_given (Bench.ran taken samples noise lines added Bench.wants_noise) z e = let n : ◌≡◌ {A = ℕ} 0 1 = cc in absurd (omega arith)
  done_given (Bench.ran taken samples noise lines added Bench.wants_draws) z e = let n : ◌≡◌ {A = ℕ} 0 1 = cc in absurd (omega arith)
  done_given (Bench.ran taken samples noise lines added Bench.records_full) z e = let n : ◌≡◌ {A = ℕ} 0 1 = cc in absurd (omega arith)

  -- what a list of calls wrote, used and took is what its results did
  record Alike (cs : List CallBuffers) (ls : List Left) (xs : List (Bench.Result G)) : Type 0 where
    samples : all_samples ls ≡ Theory.all_samples G xs
    records : all_records ls ≡ Theory.all_records G xs
    used : all_used cs ls ≡ Theory.all_used G (bench_calls r cs) xs
    taken : all_taken r cs ls ≡ Theory.all_taken G (bench_calls r cs) xs
    added : total_added ls ≡ Theory.all_added G xs
    adds : Each (Theory.Adds G) xs → Each (CountsAdded (per_pulse s.setting)) ls
    done : ReachesDone ls → Theory.reaches_done G xs ≡ true

  either : (b c : Bool) → c ≡ true → b || c ≡ true
  either true c e = refl
  either false c e = e

  alike_all : (cs : List CallBuffers) (z : Machine.State G nan) → Alike cs (runs_given s p_s p_ac z cs) (Machine.machine_results G nan z (bench_calls r cs))
  unfolding runs_given left_given
  alike_all [] z = record { samples = refl; records = refl; used = refl; taken = refl; added = refl; adds = λ h. tt; done = λ d. absurd d }
  alike_all (c ∷ cs) z =
      let t = Machine.machine_run G nan z (call_of s p_s p_ac c) in
      let x = Bench.result_of G (call_of s p_s p_ac c) t.0 in
      let n = counts_given x.answer t.1 in
      let more = alike_all cs t.1 in
      record {
        samples = λ i. take (2 * (n i).samples) x.output ++ more.samples i;
        records = λ i. take (66 * (n i).records) x.records ++ more.records i;
        used = λ i. take (n i).noise c.noise ++ more.used i;
        taken = λ i. take (n i).taken (Bench.draws_of G c.draws) ++ more.taken i;
        added = λ i. added_given x.answer t.1 i + more.added i;
        adds = λ h. (adds_given x t.1 h.0, more.adds h.1);
        done = λ d. by_done c z (Machine.machine_results G nan t.1 (bench_calls r cs)) (runs_given s p_s p_ac t.1 cs) more.done d;
      }
    where
      by_done : (c : CallBuffers) (z : Machine.State G nan) (xs : List (Bench.Result G)) (ls : List Left) → (ReachesDone ls → Theory.reaches_done G xs ≡ true) →
          let t = Machine.machine_run G nan z (call_of s p_s p_ac c) in
          ((ran_given s p_s p_ac t.0.answer t.1).answer ≡ Ok Stop.TheVariants.Done) ⊎ ReachesDone ls → Theory.done_in t.0.answer || Theory.reaches_done G xs ≡ true
      by_done c z xs ls ih (inl e) = ap (λ (b : Bool). b || Theory.reaches_done G xs) (done_given (Machine.machine_run G nan z (call_of s p_s p_ac c)).0.answer (Machine.machine_run G nan z (call_of s p_s p_ac c)).1 e)
      by_done c z xs ls ih (inr d) = either (Theory.done_in (Machine.machine_run G nan z (call_of s p_s p_ac c)).0.answer) (Theory.reaches_done G xs) (ih d)

  -- the last call's state is the one that stands for the machine's
  state_given : (cs : List CallBuffers) (z : Machine.State G nan) → last_state (state_of s p_s p_ac z) (runs_given s p_s p_ac z cs) ≡ state_of s p_s p_ac (Machine.machine_after G nan z (bench_calls r cs))
  unfolding runs_given left_given
  state_given [] z = refl
  state_given (c ∷ cs) z =
      let t = Machine.machine_run G nan z (call_of s p_s p_ac c) in
      ap (λ (x : State). last_state x (runs_given s p_s p_ac t.1 cs)) (given_state s p_s p_ac t.0.answer t.1) ∙ state_given cs t.1

-- ---- an opened run
module _ (taps_s taps_ac : List Float) (settings : List ℕ) (given : Opening.OpenBuffers) (s : State) (opens : Opening.opened_of taps_s taps_ac settings given ≡ Ok s) where
  memory : List Float
  memory = (Opening.left_by taps_s taps_ac (Ok s) given).memory

  memory_length_lem : length memory ≡ working_memory (per_pulse s.setting)
  unfolding memory Opening.left_by
  memory_length_lem = length-replicate (working_memory (per_pulse s.setting)) nought

  abbrev run : Run
  run = record { state = s; buffers = record { mode_s = mode_s_prototype (per_pulse s.setting) taps_s; mode_ac = mode_ac_prototype (per_pulse s.setting) taps_ac; memory = memory } }

  is_opened : Opens taps_s taps_ac settings given run
  unfolding memory Opening.left_by
  is_opened = record { answers = opens; leaves = refl }

  abbrev first : Machine.State (gen run) nan
  first = Machine.opened (gen run) nan

  shown : Theory.Demand3 (gen run) (Machine.runs (gen run) nan)
  shown =
      let q = opened_run_in_range taps_s taps_ac settings given s opens in
      instance_demand3 (filters_of s (mode_s_prototype (per_pulse s.setting) taps_s) (mode_ac_prototype (per_pulse s.setting) taps_ac)) q.0 s.total q.1 nan

  calls_are : (cs : List CallBuffers) → calls run cs ≡ runs_given s run.buffers.mode_s run.buffers.mode_ac first cs
  unfolding memory
  calls_are cs =
      runs_are s run.buffers.mode_s run.buffers.mode_ac (length_prototype (per_pulse s.setting) _ taps_s) (length_prototype (per_pulse s.setting) _ taps_ac) cs (machine_of s run.buffers.mode_s run.buffers.mode_ac memory) memory_length_lem
      ∙ ap (λ (z : Machine.State (gen run) nan). runs_given s run.buffers.mode_s run.buffers.mode_ac z cs) (opened_first taps_s taps_ac settings given s opens)

  as_shown : (cs : List CallBuffers) → Alike run cs (calls run cs) (Machine.runs (gen run) nan (bench_calls run cs))
  as_shown cs = subst (λ (ls : List Left). Alike run cs ls (Machine.runs (gen run) nan (bench_calls run cs))) (sym (calls_are cs)) (alike_all run cs first)

  taken_is : (cs : List CallBuffers) → draws_taken run cs ≡ (bench run cs).taken
  taken_is cs = (as_shown cs).taken ∙ sym (shown.taken (bench_calls run cs))

  used_is : (cs : List CallBuffers) → noise_used run cs ≡ Bench.flatten (bench run cs).used
  used_is cs = (as_shown cs).used ∙ sym (shown.used (bench_calls run cs))

  pairs_are : (cs : List CallBuffers) → Bench.pairs (noise_used run cs) ≡ (bench run cs).used
  pairs_are cs = ap (λ (vs : List Float). Bench.pairs vs) (used_is cs) ∙ pairs_flatten (bench run cs).used

  samples_are : (cs : List CallBuffers) → samples_written run cs ≡ plain_output (gen run) (draws_taken run cs) (Bench.pairs (noise_used run cs))
  samples_are cs = (as_shown cs).samples ∙ shown.samples (bench_calls run cs) ∙ (λ i. plain_output (gen run) (sym (taken_is cs) i) (sym (pairs_are cs) i))

  records_are : (cs : List CallBuffers) → records_written run cs ≡ plain_lines (gen run) (draws_taken run cs)
  records_are cs = (as_shown cs).records ∙ shown.records (bench_calls run cs) ∙ (λ i. plain_lines (gen run) (sym (taken_is cs) i))

  total_is : (cs : List CallBuffers) → total_added (calls run cs) ≡ plain_added (gen run) (draws_taken run cs)
  total_is cs = (as_shown cs).added ∙ shown.added (bench_calls run cs) ∙ ap (plain_added (gen run)) (sym (taken_is cs))

  state_is : (cs : List CallBuffers) → last_state s (calls run cs) ≡ state_after run (bench run cs)
  unfolding memory
  state_is cs =
      let q = opened_run_in_range taps_s taps_ac settings given s opens in
      let m = matched (gen run) (instance_laws (filters_of s (mode_s_prototype (per_pulse s.setting) taps_s) (mode_ac_prototype (per_pulse s.setting) taps_ac)) q.0 s.total q.1) nan (bench_calls run cs) in
      ap (λ (ls : List Left). last_state s ls) (calls_are cs)
      ∙ ap (λ (z : Machine.State (gen run) nan). last_state (state_of s run.buffers.mode_s run.buffers.mode_ac z) (runs_given s run.buffers.mode_s run.buffers.mode_ac first cs)) (opened_first taps_s taps_ac settings given s opens)
      ∙ state_given run cs first
      ∙ (λ i. record { written = m.written i; total = s.total; time = m.time i; latest = m.mark i; ended = m.over i; rates = s.rates; delays = s.delays; distributions = s.distributions; setting = s.setting })

  claim : Demand3 taps_s taps_ac settings run
  claim = record {
    first_calls = λ cs n. first_calls run.buffers.mode_s run.buffers.mode_ac n cs s memory;
    answers = λ cs.
        ap (map seen_left) (calls_are cs)
        ∙ seen_all_lem run cs first
        ∙ ap (map (seen_result s run.buffers.mode_s run.buffers.mode_ac)) (shown.answers (bench_calls run cs));
    taken = taken_is;
    used = used_is;
    samples = samples_are;
    records = records_are;
    samples_stay = λ cs ds vs e.
        subst (λ (p : List Float × List RepresentableDraw × List Float). Prefix p.0 (plain_output (gen run) (p.1 ++ ds) (Bench.pairs (p.2 ++ vs)))) (λ i. (sym (as_shown cs).samples i, sym (taken_is cs) i, sym (used_is cs) i))
        (shown.samples_stay (bench_calls run cs) ds vs (subst (λ (l : List RepresentableDraw). Bench.draw_refusal (gen run) (time_of (gen run) (gen run).t0 l) (bench run cs).mark ds ≡ None) (taken_is cs) e));
    records_stay = λ cs ds.
        subst (λ (p : List ℕ × List RepresentableDraw). Prefix p.0 (plain_lines (gen run) (p.1 ++ ds))) (λ i. (sym (as_shown cs).records i, sym (taken_is cs) i))
        (shown.records_stay (bench_calls run cs) ds);
    same_run = λ given' r' o'. same_run taps_s taps_ac settings given given' run r' is_opened o';
    alike = λ given' r' o'.
        subst
        (λ (x : Run). (cs cs' : List CallBuffers) → ReachesDone (calls run cs) → ReachesDone (calls x cs') → draws_taken run cs ≡ draws_taken x cs' → noise_used run cs ≡ noise_used x cs' → (samples_written run cs ≡ samples_written x cs') × (records_written run cs ≡ records_written x cs'))
        (same_run taps_s taps_ac settings given given' run r' is_opened o')
        (λ cs cs' d d' et eu. (samples_are cs ∙ (λ i. plain_output (gen run) (et i) (Bench.pairs (eu i))) ∙ sym (samples_are cs'), records_are cs ∙ (λ i. plain_lines (gen run) (et i)) ∙ sym (records_are cs')));
    whole = λ cs d.
        let w = shown.whole (bench_calls run cs) ((as_shown cs).done d) in
        (ap (λ (l : List RepresentableDraw). ended (gen run) (gen run).t0 l) (taken_is cs) ∙ w.0, ap length (as_shown cs).samples ∙ w.1);
    reach = λ cs. subst (λ (l : List RepresentableDraw). Each (Reach (gen run)) (replies (gen run) (gen run).t0 l)) (sym (taken_is cs)) (shown.reach (bench_calls run cs));
    adds = λ cs. (as_shown cs).adds (shown.adds (bench_calls run cs));
    total = total_is;
    same_total = λ given' r' o'.
        subst
        (λ (x : Run). (cs cs' : List CallBuffers) → ReachesDone (calls run cs) → ReachesDone (calls x cs') → draws_taken run cs ≡ draws_taken x cs' → total_added (calls run cs) ≡ total_added (calls x cs'))
        (same_run taps_s taps_ac settings given given' run r' is_opened o')
        (λ cs cs' d d' et. total_is cs ∙ ap (plain_added (gen run)) et ∙ sym (total_is cs'));
    finite = λ cs. subst (Each Finite53) (sym (as_shown cs).samples) (opened_finite taps_s taps_ac settings given s opens (Machine.runs (gen run) nan) shown (bench_calls run cs));
    state = state_is;
    written = λ cs. ap length (as_shown cs).samples ∙ shown.written (bench_calls run cs) ∙ ap (λ (x : State). 2 * x.written) (sym (state_is cs));
  }

pub opened_runs : OpenedRuns
unfolding memory Opening.left_by
opened_runs taps_s taps_ac settings given r o =
    subst (Demand3 taps_s taps_ac settings) (λ i. record { state = r.state; buffers = sym o.leaves i }) (claim taps_s taps_ac settings given r.state o.answers)
