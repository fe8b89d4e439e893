-- `no_nan` is a term of the claim `NoNan`: what sums keep, every number of working memory has, as every sample has it (`run_theory/proofs/EverySample`).
use Rattle.std.specs.Prelude.{Option, Some, None, Ok}
use mathlib.Core.Path.{◌≡◌, refl, sym, ◌∙◌, subst}
use mathlib.Core.List.{List, [], ◌∷◌}
use Prim.Native.Nat.{ℕ, zero, suc, ◌+◌, ◌*◌, ◌%◌, ◌^◌, ◌<◌}
use native.Mathlib.Nat.{mod-lt}
use native.Mathlib.Omega.{arith}
use lib.ListN.{length, get_or, set}
use Rattle.run_theory.specs.Each.{Each}
use Rattle.run_theory.specs.Generator.{Generator, Sample, silence, add}
use Rattle.run_theory.specs.PlainRun.{Kind, ignored, ends, reply, kind}
use Rattle.run_theory.specs.PlainBench.{Refusal, refusal_of, Call, remaining_of, fuel}
use Rattle.run_theory.specs.Laws.{Laws, InRange}
use Rattle.run_theory.proofs.EverySample.{Both, KeptBySums}
use Rattle.run_theory.proofs.Refusals.{not_refused}
use Rattle.run_call_model.specs.Machine.{later, window, rd, wr, put, State, state_after_sample, state_after_draw, machine_call, machine_run}
use Rattle.run_call_model.proofs.Ring.{length_wr}
use lib.Ieee.{Float, nan}
use lib.ListN.{length-replicate}
use Rattle.constants.specs.Setting.{per_pulse}
use Rattle.float_rounding.proofs.AtMost.{AtMost}
use Rattle.pulse_shape.specs.Prototype.{mode_s_prototype, mode_ac_prototype}
use Rattle.pulse_shape.proofs.Whole.{length_prototype}
use Rattle.run_generator.proofs.ReplySizes.{most}
use Rattle.run_generator.proofs.SampleSizes.{kept}
use Rattle.run_generator.proofs.InstanceDemand3.{instance_laws}
use Rattle.run_call_model.specs.Machine.{opened}
use Rattle.run_call.specs.declared.State as Run
use Rattle.run_call.specs.StateGenerator.{filters_of, gen_of}
use Rattle.run_call.specs.Buffers.{Left, CallBuffers}
use Rattle.run_call.specs.Calls.{runs_left, call_of}
use Rattle.run_call.specs.MachineModel.{left_given, runs_given}
use Rattle.run_call.proofs.RunsAreTheModels.{runs_are}
use Rattle.run_open.specs.Opening as Opening
use Rattle.run_open.proofs.WhatIsOpened.{what_is_opened, opened_run_in_range, opened_first}
use Rattle.run_theorem.specs.OpenedRuns as Runs
use Rattle.run_theorem.proofs.FiniteSamples.{each_on, finite_53}
use Rattle.run_bytes_theorem.specs.NoNan.{Finite, NoNan}
use Rattle.run_bytes_theorem.proofs.EachOf.{each_set, each_replicate}
use Rattle.run_bytes_theorem.proofs.StepsKeep.{steps_keep}

module _ (G : Generator) (L : Laws G) (o : G.Value) (P Q : G.Value → Type 0) (K : KeptBySums G L P Q) where
  open G use {Value, Draw, Time, after, before, start, adds, limit, hold, total}

  pub record Has (z : State G o) : Type 0 where
    pub memory : Each P z.memory
    pub whole : length z.memory ≡ 2 * window G o
    pub time : L.Good z.time

  each_get : (m : List Value) (k : ℕ) → Each P m → k < length m → P (get_or m k o)
  each_get [] k t h = absurd (omega (arith, h))
  each_get (x ∷ xs) zero (t, ts) h = t
  each_get (x ∷ xs) (suc k) (t, ts) h = each_get xs k ts (omega (arith, h))

  wr_has : (m : List Value) (i : ℕ) (a : Sample G) → Each P m → Both P a → Each P (wr G o m i a)
  wr_has m i a t p = each_set P (set m (2 * i) a.re) (2 * i + 1) a.im (each_set P m (2 * i) a.re t p.0) p.1

  slot : (s : ℕ) → s % window G o < window G o
  slot s = mod-lt s (omega (arith, L.some_limit))

  put_has : (xs : List (Sample G)) (m : List Value) (s : ℕ) → Each (Both Q) xs → Each P m → length m ≡ 2 * window G o → Each P (put G o m s xs)
  put_has [] m s q t l = t
  put_has (x ∷ xs) m s (q, qs) t l =
      let i = s % window G o in
      let h = slot s in
      let a = add G (rd G o m i) x in
      let p : Both P a = (K.added (get_or m (2 * i) o) x.re (each_get m (2 * i) t (omega (arith, h, l))) q.0, K.added (get_or m (2 * i + 1) o) x.im (each_get m (2 * i + 1) t (omega (arith, h, l))) q.1) in
      put_has xs (wr G o m i a) (suc s) qs (wr_has m i a t p) (length_wr G o m i a ∙ l)

  put_whole : (xs : List (Sample G)) (m : List Value) (s : ℕ) → length (put G o m s xs) ≡ length m
  put_whole [] m s = refl
  put_whole (x ∷ xs) m s = put_whole xs (wr G o m (s % window G o) (add G (rd G o m (s % window G o)) x)) (suc s) ∙ length_wr G o m (s % window G o) (add G (rd G o m (s % window G o)) x)

  after_good : (t : Time) (d : Draw) → L.Good t → InRange G d → L.Good (after t d)
  after_good t d g e = L.good_after t d g (λ f. other (sym e ∙ f))
    where
      other : ◌≡◌ {A = Option ℕ} None (Some 0) → ⊥
      other q = cc

  draw_has : (z : State G o) (d : Draw) (k : Kind) → Has z → InRange G d → kind G (after z.time d) d ≡ k → Has (state_after_draw G o z d k)
  draw_has z d ignored h e q = record { memory = h.memory; whole = h.whole; time = after_good z.time d h.time e }
  draw_has z d ends h e q = record { memory = h.memory; whole = h.whole; time = after_good z.time d h.time e }
  draw_has z d (reply s) h e q = record {
    memory = put_has (adds (after z.time d) d s) z.memory s (K.adds_have (after z.time d) d s (after_good z.time d h.time e) e q) h.memory h.whole;
    whole = put_whole (adds (after z.time d) d s) z.memory s ∙ h.whole;
    time = after_good z.time d h.time e;
  }

  sample_has : (z : State G o) (m : Time) → Has z → Has (state_after_sample G o z m)
  sample_has z m h = record { memory = wr_has z.memory (z.written % window G o) (silence G) h.memory (K.first, K.first); whole = length_wr G o z.memory (z.written % window G o) (silence G) ∙ h.whole; time = h.time }

  pub run_has : (z : State G o) (c : Call G) → Has z → Has (machine_run G o z c).1
  run_has z c h = go (refusal_of G z.time (Some z.mark) c) refl
    where
      go : (q : Option Refusal) → refusal_of G z.time (Some z.mark) c ≡ q → Has (machine_call G o z c q).1
      go (Some q) e = h
      go None e =
          steps_keep G o Has (InRange G) draw_has (λ z h l. sample_has z z.mark h) (λ z d h e l. sample_has z (later G z.mark (after z.time d)) h) (fuel G (remaining_of G c)) z (remaining_of G c)
          (not_refused G z.time (Some z.mark) c e).in_range h

-- ---- of an opened run
module _ (s : Run.State) (mode_s mode_ac : List Float) (L : Laws (gen_of s mode_s mode_ac)) (P Q : Float → Type 0) (K : KeptBySums (gen_of s mode_s mode_ac) L P Q) where
  given_has : (cs : List CallBuffers) (z : State (gen_of s mode_s mode_ac) nan) → Has (gen_of s mode_s mode_ac) L nan P Q K z → Each (λ (l : Left). Each P l.memory) (runs_given s mode_s mode_ac z cs)
  unfolding runs_given left_given
  given_has [] z h = tt
  given_has (c ∷ cs) z h =
      let g = run_has (gen_of s mode_s mode_ac) L nan P Q K z (call_of s mode_s mode_ac c) h in
      (g.memory, given_has cs (machine_run (gen_of s mode_s mode_ac) nan z (call_of s mode_s mode_ac c)).1 g)

module _ (taps_s taps_ac : List Float) (bytes : List ℕ) (lent : Opening.OpenBuffers) (s : Run.State) (opens : Opening.opened_of taps_s taps_ac bytes lent ≡ Ok s) where
  mode_s : List Float
  mode_s = mode_s_prototype (per_pulse s.setting) taps_s

  mode_ac : List Float
  mode_ac = mode_ac_prototype (per_pulse s.setting) taps_ac

  memory_finite : (cs : List CallBuffers)
      → Each (λ (l : Left). Each Runs.Finite53 l.memory) (runs_left s (mode_s_prototype (per_pulse s.setting) taps_s) (mode_ac_prototype (per_pulse s.setting) taps_ac) (Opening.left_by taps_s taps_ac (Ok s) lent).memory cs)
  unfolding Opening.left_by
  memory_finite cs =
      let p = mode_s_prototype (per_pulse s.setting) taps_s in
      let q = mode_ac_prototype (per_pulse s.setting) taps_ac in
      let r = opened_run_in_range taps_s taps_ac bytes lent s opens in
      let w = what_is_opened taps_s taps_ac bytes lent s opens in
      let a = length_prototype (per_pulse s.setting) _ taps_s in
      let b = length_prototype (per_pulse s.setting) _ taps_ac in
      let f = filters_of s p q in
      let K = kept f r.0 s.total r.1 (record { whole = a; small = w.delay_s.0 }) (record { whole = b; small = w.delay_ac.0 }) in
      let L = instance_laws f r.0 s.total r.1 in
      let memory = (Opening.left_by taps_s taps_ac (Ok s) lent).memory in
      let z : State (gen_of s p q) nan = record { memory = memory; written = s.written; time = s.time; over = s.ended; mark = s.latest } in
      let first : Has (gen_of s p q) L nan (AtMost (2 ^ 53)) (AtMost most) K (opened (gen_of s p q) nan) = record { memory = each_replicate (AtMost (2 ^ 53)) _ K.first _; whole = length-replicate _ _; time = L.good_first } in
      let h : Has (gen_of s p q) L nan (AtMost (2 ^ 53)) (AtMost most) K z = subst (Has (gen_of s p q) L nan (AtMost (2 ^ 53)) (AtMost most) K) (sym (opened_first taps_s taps_ac bytes lent s opens)) first in
      subst (Each (λ (l : Left). Each Runs.Finite53 l.memory)) (sym (runs_are s p q a b cs z h.whole))
      (each_on (λ (l : Left). Each (AtMost (2 ^ 53)) l.memory) (λ (l : Left). Each Runs.Finite53 l.memory) (λ l t. each_on (AtMost (2 ^ 53)) Runs.Finite53 finite_53 l.memory t) (runs_given s p q z cs)
      (given_has s p q L (AtMost (2 ^ 53)) (AtMost most) K cs z h))

pub no_nan : NoNan
unfolding Opening.left_by
no_nan taps_s taps_ac settings given r o =
    let w = what_is_opened taps_s taps_ac settings given r.state o.answers in
    subst (λ (b : Opening.OpenBuffers). Finite (record { state = r.state; buffers = b })) (sym o.leaves)
    (record { mode_s = w.delay_s.0; mode_ac = w.delay_ac.0; memory = memory_finite taps_s taps_ac settings given r.state o.answers })
