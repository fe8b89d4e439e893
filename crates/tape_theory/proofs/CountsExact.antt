-- From a run that nothing has been fed, over any chunks, no more draws are taken than the tape has, and no more records written than draws taken (`in-tape`).
-- So the counts of a run, which `feed_after` keeps modulo 2^64, are plain sums (`counts-exact`). The bytes of a tape's draws are taken to be fewer than 2^64, as those of any slice are.
use Rattle.std.specs.Prelude.{Option, Some, None}
use Rattle.std.specs.Prelude.{Result, Ok, Err}
use Rattle.refusals.specs.declared.Refusal.{Refusal}
use Rattle.run_steps.specs.declared.Stop.{Stop}
use Prim.Native.Nat.{ℕ, zero, suc, ◌+◌, ◌-◌, ◌*◌, ◌/◌, ◌^◌, ◌≤◌, ◌<◌}
use mathlib.Core.Path.{◌≡◌, ap}
use mathlib.Core.List.{List, [], ◌∷◌}
use native.Mathlib.Omega.{arith}
use native.Mathlib.Nat.{mod-eq_of_lt}
use lib.ListN.{length, drop, length-drop}
use lib.Ieee.{Float, nan}
use Rattle.run_theory.specs.Generator.{Generator}
use Rattle.run_theory.specs.PlainRun.{Kind, ignored, ends, reply}
use Rattle.run_theory.specs.PlainBench.{Remaining, Step, halt, drain, due, taking, draws_of}
use Rattle.run_theory.specs.PlainBench as Bench
use Rattle.run_call_model.specs.Machine as Machine
use Rattle.run_call_model.specs.Progress as Theory
use Rattle.run_theory.proofs.StepFacts.{Says, step_says}
use Rattle.run_call_model.proofs.FlatLists.{length_draws}
use Rattle.run_call.specs.declared.State.{State}
use Rattle.run_call.specs.Buffers.{Left}
use Rattle.run_call.specs.CallModel.{left_by, call_left, refused_by, run_by, call_refusal, run_left}
use Rattle.run_call.specs.StateGenerator.{gen_of}
use Rattle.tape_feed.specs.Verdict.{start_of}
use Rattle.tape_feed.specs.FeedModel.{feed_after, fed_after, called_of, fed_then, fed_of}
use Rattle.tape_theory.specs.Fed.{Held, begun, Chunk, lend, keep, fed_all, left_for}

-- ---- a call's steps write no more records than they take draws
module _ (G : Generator) (o : G.Value) where
  open G use {Draw, Time, after}

  Fewer : Remaining G → Machine.Ran G o → Type 0
  Fewer l r = length r.records + length r.rest.draws ≤ length l.draws

  noted_fewer : (t : Time) (d : Draw) (k : Kind) (r : Machine.Ran G o)
      → length (Machine.noted G o t d k r).records + length (Machine.noted G o t d k r).rest.draws ≤ suc (length r.records + length r.rest.draws)
  noted_fewer t d ignored r = omega arith
  noted_fewer t d ends r = omega arith
  noted_fewer t d (reply s) r = omega arith

  on_fewer : (go : Machine.State G o → Remaining G → Machine.Ran G o) → ((z : Machine.State G o) (l : Remaining G) → Fewer l (go z l)) → (z : Machine.State G o) (l : Remaining G) (c : Step G) → Says G z.over z.written z.time l c
      → Fewer l (Machine.machine_on G o go z l c)
  unfolding Fewer
  on_fewer go ih z l (halt s) f = omega arith
  on_fewer go ih z l (drain v l') f = omega (arith, ih (Machine.state_after_sample G o z z.mark) l', ap length f.draws)
  on_fewer go ih z l (due t v l') f = omega (arith, ih (Machine.state_after_sample G o z (Machine.later G z.mark t)) l', ap length f.draws)
  on_fewer go ih z l (taking d k l') f =
      omega (arith, noted_fewer (after z.time d) d k (go (Machine.state_after_draw G o z d k) l'), ih (Machine.state_after_draw G o z d k) l', ap length f.draws)

  steps_fewer : (f : ℕ) (z : Machine.State G o) (l : Remaining G) → Fewer l (Machine.machine_steps G o f z l)
  unfolding Fewer
  steps_fewer zero z l = omega arith
  steps_fewer (suc f) z l =
      on_fewer (λ z' l'. Machine.machine_steps G o f z' l') (λ z' l'. steps_fewer f z' l') z l (Machine.state_step G o z l)
      (step_says G z.over z.written z.time l.draws l.noise l.room l.slots)

-- ---- one run call
abbrev CallWithin : List ℕ → Left → Type 0
CallWithin draws l = (65 * l.ran.counts.taken ≤ length draws) × (l.ran.counts.records ≤ l.ran.counts.taken)

bound : (n k m r : ℕ) → k + m ≤ n → n ≡ r / 65 → (65 * (0 + (n - m)) ≤ r) × (0 + k ≤ 0 + (n - m))
bound n k m r h e = (omega arith, omega arith)

module _ (s : State) (mode_s mode_ac memory : List Float) (draws : List ℕ) (noise output : List Float) (records : List ℕ) where
  abbrev G : Generator
  G = gen_of s mode_s mode_ac

  abbrev z : Machine.State G nan
  z = record { memory = memory; written = s.written; time = s.time; over = s.ended; mark = s.latest }

  abbrev t : Theory.Progress G nan
  t = Theory.initial_progress G nan z (record { draws = draws; noise = noise; output = output; records = records })

  abbrev ended : Machine.Ran G nan
  ended = Theory.all_steps G nan z (Theory.left_of G nan noise t)

  call_within : CallWithin draws (call_left s mode_s mode_ac memory draws noise output records)
  unfolding call_left left_by Theory.rest_of Fewer
  call_within =
      bound (length (draws_of G draws)) (length ended.records) (length ended.rest.draws) (length draws)
      (steps_fewer G nan (Bench.fuel G (Theory.left_of G nan noise t)) z (Theory.left_of G nan noise t))
      (length_draws G draws)

  pub run_within : CallWithin draws (run_left s mode_s mode_ac memory draws noise output records)
  unfolding run_left refused_by
  run_within = go (call_refusal s mode_s mode_ac memory draws noise output records)
    where
      go : (x : Option Bench.Refusal) → CallWithin draws (run_by s memory output records (call_left s mode_s mode_ac memory draws noise output records) x)
      go None = call_within
      go (Some q) = (omega arith, omega arith)

-- ---- any chunks
module _ (mode_s mode_ac : List Float) (draws : List ℕ) (few : length draws < 2 ^ 64) where
  -- the draws taken are on the tape, and each record is of one of them
  pub record InTape (d : Held) : Type 0 where
    pub draws_in_lem : 65 * d.feed.taken ≤ length draws
    pub records_in_lem : d.feed.records ≤ d.feed.taken

  -- the counts after a chunk are the sums
  pub counts_exact : (d : Held) (c : Chunk) → InTape d
      → ((feed_after d.feed (left_for mode_s mode_ac draws d c).ran).taken ≡ d.feed.taken + (left_for mode_s mode_ac draws d c).ran.counts.taken)
      × ((feed_after d.feed (left_for mode_s mode_ac draws d c).ran).records ≡ d.feed.records + (left_for mode_s mode_ac draws d c).ran.counts.records)
  unfolding feed_after left_for
  counts_exact d c h =
      let w = run_within d.feed.state mode_s mode_ac d.memory (drop (65 * d.feed.taken) draws) c.noise c.output (drop (66 * d.feed.records) d.records) in
      let e = length-drop (65 * d.feed.taken) draws in
      (mod-eq_of_lt (omega (arith, w.0, e, h.draws_in_lem, few)), mod-eq_of_lt (omega (arith, w.0, w.1, e, h.draws_in_lem, h.records_in_lem, few)))

  called_in : (d : Held) (c : Chunk) → InTape d → InTape (keep (called_of mode_s mode_ac draws c.noise (lend c d)))
  unfolding called_of fed_after left_for lend keep
  called_in d c h =
      let w = run_within d.feed.state mode_s mode_ac d.memory (drop (65 * d.feed.taken) draws) c.noise c.output (drop (66 * d.feed.records) d.records) in
      let x = counts_exact d c h in
      let e = length-drop (65 * d.feed.taken) draws in
      record { draws_in_lem = omega (arith, x.0, w.0, e, h.draws_in_lem); records_in_lem = omega (arith, x.0, x.1, w.1, h.records_in_lem) }

  fed_in : (d : Held) (c : Chunk) → InTape d → (a : (Result Stop Refusal)) → InTape (keep (fed_then mode_s mode_ac draws c.noise (lend c d) a))
  unfolding fed_then lend keep
  fed_in d c h (Ok w) = called_in d c h
  fed_in d c h (Err q) = h

  all_in : (cs : List Chunk) (d : Held) → InTape d → InTape (fed_all mode_s mode_ac draws d cs)
  unfolding fed_all fed_of lend
  all_in [] d h = h
  all_in (c ∷ cs) d h = all_in cs (keep (fed_of mode_s mode_ac draws c.noise (lend c d))) (fed_in d c h d.feed.answer)

  -- from the start, after any chunks
  pub in_tape : (s : State) (memory : List Float) (records : List ℕ) (cs : List Chunk)
      → InTape (fed_all mode_s mode_ac draws (begun s memory records) cs)
  unfolding begun start_of
  in_tape s memory records cs = all_in cs (begun s memory records) (record { draws_in_lem = omega arith; records_in_lem = omega arith })
