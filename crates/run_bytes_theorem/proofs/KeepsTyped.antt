-- A run call keeps the numbers of a run values of their types (`call_keeps`), and so does a call on its rack (`feed_keeps`).
use Rattle.std.specs.Prelude.{Option, Some, None, Ok, Err, min}
use Rattle.std.specs.Result.{result_unwrap_or}
use mathlib.Core.Bool.{Bool, true, false, cond}
use mathlib.Core.List.{List, [], ◌∷◌, ◌++◌}
use Prim.Native.Nat.{ℕ, suc, ◌+◌, ◌*◌, ◌/◌, ◌%◌, ◌^◌, ◌<◌}
use native.Mathlib.Omega.{arith}
use lib.Dec.{T}
use lib.ListN.{length, set}
use lib.IntN.{pos}
use lib.Ieee.{Float, nan, fin, fits, binary32, binary64}
use lib.Ieee.Fits.{add-fits}
use Rattle.run_theory.specs.Each.{Each}
use Rattle.run_theory.specs.Generator.{Generator, Sample, silence, add}
use Rattle.run_theory.specs.PlainRun.{Kind, ignored, ends, reply}
use Rattle.run_theory.specs.PlainBench.{Refusal, Remaining}
use Rattle.run_call_model.specs.Machine.{later, window, rd, wr, put, State, state_after_sample, state_after_draw, machine_steps}
use Rattle.run_call_model.specs.Progress.{initial_progress, left_of, rest_of}
use Rattle.run_theory.specs.PlainBench.{fuel}
use Rattle.run_call.specs.StateGenerator.{gen_of}
use Rattle.run_call.specs.Buffers.{Left, CallBuffers}
use Rattle.run_call.specs.CallModel.{left_by, call_left, refused_by, run_by, call_refusal, run_left}
use Rattle.refusals.specs.declared.Refusal.TheVariants.{Length}
use Rattle.rack.specs.declared.Rack.{Rack}
use Rattle.rack.specs.Memory.{held_after}
use Rattle.rack.specs.Calls as Racks
use Rattle.run_bytes.specs.Layout.{Held}
use Rattle.run_bytes_theorem.specs.Typed.{ValueOf, AllOf, TypedState, TypedRack, TypedAny, Typed}
use Rattle.run_bytes_theorem.specs.StoredRuns.{call, feed, called, fed, after}
use Rattle.run_bytes_theorem.proofs.EachOf.{each_set, each_append, each_drop}
use Rattle.run_bytes_theorem.proofs.StepsKeep.{steps_keep}

-- P is had by every sum, Q by every time after a draw, and the run's samples are fewer than M
module _ (G : Generator) (o : G.Value) (P : G.Value → Type 0) (Q : G.Time → Type 0) (M : ℕ)
    (first : P G.nought) (sums : (a b : G.Value) → P (G.plus a b)) (times : (t : G.Time) (d : G.Draw) → Q (G.after t d)) (few : G.total < M) where
  open G use {Value, Draw, Time, t0, after, before, start, adds, limit, hold, total}

  pub record Has (z : State G o) : Type 0 where
    pub memory : Each P z.memory
    pub time : Q z.time
    pub mark : Q z.mark
    pub written : z.written < M

  wr_has : (m : List Value) (i : ℕ) (a : Sample G) → Each P m → P a.re → P a.im → Each P (wr G o m i a)
  wr_has m i a t p q = each_set P (set m (2 * i) a.re) (2 * i + 1) a.im (each_set P m (2 * i) a.re t p) q

  put_has : (xs : List (Sample G)) (m : List Value) (s : ℕ) → Each P m → Each P (put G o m s xs)
  put_has [] m s t = t
  put_has (x ∷ xs) m s t =
      let a = add G (rd G o m (s % window G o)) x in
      put_has xs (wr G o m (s % window G o) a) (suc s) (wr_has m (s % window G o) a t (sums (rd G o m (s % window G o)).re x.re) (sums (rd G o m (s % window G o)).im x.im))

  later_has : (m t : Time) → Q m → Q t → Q (later G m t)
  later_has m t p q = go (before m t)
    where
      go : (b : Bool) → Q (cond b t m)
      go true = q
      go false = p

  draw_has : (z : State G o) (d : Draw) (k : Kind) → Has z → Has (state_after_draw G o z d k)
  draw_has z d ignored h = record { memory = h.memory; time = times z.time d; mark = h.mark; written = h.written }
  draw_has z d ends h = record { memory = h.memory; time = times z.time d; mark = h.mark; written = h.written }
  draw_has z d (reply s) h = record { memory = put_has (adds (after z.time d) d s) z.memory s h.memory; time = times z.time d; mark = h.mark; written = h.written }

  sample_has : (z : State G o) (m : Time) → Has z → Q m → z.written < total → Has (state_after_sample G o z m)
  sample_has z m h q l = record { memory = wr_has z.memory (z.written % window G o) (silence G) h.memory first first; time = h.time; mark = q; written = omega (arith, l, few) }

  anything : (ds : List Draw) → Each (λ (d : Draw). Unit {0}) ds
  anything [] = tt
  anything (d ∷ ds) = (tt, anything ds)

  pub steps_have : (f : ℕ) (z : State G o) (l : Remaining G) → Has z → Has (machine_steps G o f z l).state
  steps_have f z l h =
      steps_keep G o Has (λ (d : Draw). Unit {0}) (λ z d k h u e. draw_has z d k h) (λ z h l. sample_has z z.mark h h.mark l)
      (λ z d h u l. sample_has z (later G z.mark (after z.time d)) h (later_has z.mark (after z.time d) h.mark (times z.time d)) l) f z l (anything l.draws) h

-- ---- of this generator
nought_fits : T (fits binary32 (fin false 0 (pos 0)))
unfolding fits
nought_fits = tt

module _ (h : Held) (t : Typed h) (c : CallBuffers) where
  abbrev G : Generator
  G = gen_of h.state h.mode_s h.mode_ac

  Kept : Left → Type 0
  Kept l = TypedState l.ran.state × AllOf binary32 l.memory

  ran_kept : Kept (call_left h.state h.mode_s h.mode_ac h.memory c.draws c.noise c.output c.records)
  unfolding Kept call_left left_by rest_of
  ran_kept =
      let z : State G nan = record { memory = h.memory; written = h.state.written; time = h.state.time; over = h.state.ended; mark = h.state.latest } in
      let l = left_of G nan c.noise (initial_progress G nan z (record { draws = c.draws; noise = c.noise; output = c.output; records = c.records })) in
      let r = steps_have G nan (ValueOf binary32) (ValueOf binary64) (2 ^ 64) nought_fits (λ a b. add-fits binary32 a b) (λ u d. add-fits binary64 u d.draw.gap) t.state.total (fuel G l) z l
      (record { memory = t.memory; time = t.state.times.0; mark = t.state.times.1.0; written = t.state.written }) in
      (record { written = r.written; total = t.state.total; times = (r.time, (r.mark, tt)); rates = t.state.rates; delays = t.state.delays; carrier = t.state.carrier; phase = t.state.phase; clock = t.state.clock }, r.memory)

  call_kept : Kept (called h c)
  unfolding Kept run_left refused_by
  call_kept = go (call_refusal h.state h.mode_s h.mode_ac h.memory c.draws c.noise c.output c.records)
    where
      go : (q : Option Refusal) → Kept (run_by h.state h.memory c.output c.records (call_left h.state h.mode_s h.mode_ac h.memory c.draws c.noise c.output c.records) q)
      go None = ran_kept
      go (Some q) = (t.state, t.memory)

  pub call_keeps : Typed (after h (call c))
  unfolding Kept
  call_keeps = record { state = call_kept.0; mode_s = t.mode_s; mode_ac = t.mode_ac; memory = call_kept.1; rack = t.rack; rack_memory = t.rack_memory }

-- ---- of a rack
few_seen : (n : ℕ) → min n 4095 < 2 ^ 64
few_seen n = omega arith

module _ (rack : Rack) (memory : List Float) (c : Racks.Call) (t : TypedRack rack) (u : AllOf binary32 memory) (v : AllOf binary32 c.samples) where
  Left_typed : Racks.Left → Type 0
  Left_typed l = TypedRack (result_unwrap_or l.answer rack) × AllOf binary32 l.memory

  left_typed : Left_typed (Racks.run_left rack memory c)
  unfolding Left_typed Racks.run_left Racks.rack_after held_after
  left_typed = go (Racks.lengths_fit (Racks.feed_count rack.feeds) (length memory) (length c.samples) (length c.room))
    where
      go : (b : Bool) → Left_typed (cond b
          (record { answer = Ok (Racks.rack_after rack (length c.samples)); memory = held_after memory c.samples; room = Racks.feeds_up_to (Racks.feed_count rack.feeds) rack.delays rack.gains rack.seen memory c.samples })
          (record { answer = Err Length; memory = memory; room = c.room }))
      go true = (
        record { feeds = t.feeds; seen = few_seen (rack.seen + length c.samples / 2); delays = t.delays; gains = t.gains },
        each_drop (ValueOf binary32) (length c.samples) (memory ++ c.samples) (each_append (ValueOf binary32) memory c.samples u v),
      )
      go false = (t, u)

pub feed_keeps : (h : Held) → Typed h → (c : Racks.Call) → AllOf binary32 c.samples → Typed (after h (feed c))
unfolding Left_typed
feed_keeps h t c v = go h.rack t.rack
  where
    go : (o : Option Rack) → TypedAny o → Typed (fed h o c)
    go None u = t
    go (Some rack) u =
        let l = left_typed rack h.rack_memory c u t.rack_memory v in
        record { state = t.state; mode_s = t.mode_s; mode_ac = t.mode_ac; memory = t.memory; rack = l.0; rack_memory = l.1 }
