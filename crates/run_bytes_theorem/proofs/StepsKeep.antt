-- What a draw and a sample keep, all steps of a run call keep (`steps_keep`): a sample is written only where one is left of the run, and a draw that is taken is one of those that the call is passed.
use mathlib.Core.Path.{◌≡◌, refl, sym, subst}
use mathlib.Core.Bool.{Bool, true, false, cond}
use mathlib.Core.List.{List, [], ◌∷◌}
use Prim.Native.Nat.{ℕ, zero, suc, ◌+◌, ◌-◌, ◌<◌}
use native.Mathlib.Omega.{arith}
use lib.Dec.{leb}
use borrow.Author.Tests.{leb-false, ltb-true}
use Rattle.run_theory.specs.Each.{Each}
use Rattle.run_theory.specs.Generator.{Generator, NoisePair, Start, negative, from}
use Rattle.run_theory.specs.PlainRun.{Kind, ignored, ends, reply, kind, kind_of}
use Rattle.run_theory.specs.PlainBench.{Remaining, done, Step, halt, drain, due, taking, write, step1, step4, due_by}
use Rattle.run_call_model.specs.Machine.{later, State, Ran, state_step, state_after_sample, state_after_draw, noted, machine_on, machine_steps}
use Rattle.run_bytes.proofs.Lengths.{false-true}

-- H is kept by draws that have R, and by samples
module _ (G : Generator) (o : G.Value) (H : State G o → Type 0) (R : G.Draw → Type 0)
    (drawn : (z : State G o) (d : G.Draw) (k : Kind) → H z → R d → kind G (G.after z.time d) d ≡ k → H (state_after_draw G o z d k))
    (sampled : (z : State G o) → H z → z.written < G.total → H (state_after_sample G o z z.mark))
    (waited : (z : State G o) (d : G.Draw) → H z → R d → z.written < G.total → H (state_after_sample G o z (later G z.mark (G.after z.time d)))) where
  open G use {Draw, Time, after, start, limit, hold, total}

  -- a step as the state and what is left allow it
  abbrev Allowed : State G o → Step G → Type 0
  Allowed z (halt s) = Unit {0}
  Allowed z (drain v l) = (z.written < total) × Each R l.draws
  Allowed z (due t v l) = (H z → H (state_after_sample G o z (later G z.mark t))) × Each R l.draws
  Allowed z (taking d k l) = (R d × (kind G (after z.time d) d ≡ k)) × Each R l.draws

  noted_state : (t : Time) (d : Draw) (k : Kind) (r : Ran G o) → (noted G o t d k r).state ≡ r.state
  noted_state t d ignored r = refl
  noted_state t d ends r = refl
  noted_state t d (reply s) r = refl

  on_keep : (go : State G o → Remaining G → Ran G o) → ((z : State G o) (l : Remaining G) → Each R l.draws → H z → H (go z l).state) → (z : State G o) (l : Remaining G) (c : Step G) → Allowed z c → H z
      → H (machine_on G o go z l c).state
  on_keep go ih z l (halt s) a h = h
  on_keep go ih z l (drain v l') a h = ih (state_after_sample G o z z.mark) l' a.1 (sampled z h a.0)
  on_keep go ih z l (due t v l') a h = ih (state_after_sample G o z (later G z.mark t)) l' a.1 (a.0 h)
  on_keep go ih z l (taking d k l') a h =
      subst H (sym (noted_state (after z.time d) d k (go (state_after_draw G o z d k) l'))) (ih (state_after_draw G o z d k) l' a.1 (drawn z d k h a.0.0 a.0.1))

  write_allowed : (z : State G o) (f : NoisePair G → Remaining G → Step G) (ds : List Draw) (vs : List (NoisePair G)) (room slots : ℕ) → ((v : NoisePair G) (l : Remaining G) → Each R l.draws → Allowed z (f v l))
      → Each R ds → Allowed z (write G f ds vs room slots)
  write_allowed z f ds vs zero slots a r = tt
  write_allowed z f ds [] (suc room) slots a r = tt
  write_allowed z f ds (v ∷ vs) (suc room) slots a r = a v (record { draws = ds; noise = vs; room = room; slots = slots }) r

  step4_allowed : (z : State G o) (d : Draw) (k : Kind) (ds : List Draw) (vs : List (NoisePair G)) (room slots : ℕ) → R d → kind G (after z.time d) d ≡ k → Each R ds → Allowed z (step4 G d k ds vs room slots)
  step4_allowed z d ignored ds vs room slots e q r = ((e, q), r)
  step4_allowed z d ends ds vs room slots e q r = ((e, q), r)
  step4_allowed z d (reply s) ds vs room zero e q r = tt
  step4_allowed z d (reply s) ds vs room (suc slots) e q r = ((e, q), r)

  left_over : (written : ℕ) (s : Start) → due_by G written (kind_of G s) ≡ true → written < total
  left_over written negative e = absurd (false-true e)
  left_over written (from s) e = go (leb total (s + limit)) refl e
    where
      go : (b : Bool) → leb total (s + limit) ≡ b → due_by G written (cond b ends (reply s)) ≡ true → written < total
      go true l f = absurd (false-true f)
      go false l f = omega (arith, leb-false total (s + limit) l, ltb-true written (s - hold) f)

  due_allowed : (z : State G o) (d : Draw) (ds : List Draw) (vs : List (NoisePair G)) (room slots : ℕ) (b : Bool) → due_by G z.written (kind G (after z.time d) d) ≡ b → R d → Each R ds
      → Allowed z (cond b (write G (due (after z.time d)) (d ∷ ds) vs room slots) (step4 G d (kind G (after z.time d) d) ds vs room slots))
  due_allowed z d ds vs room slots true q e r =
      write_allowed z (due (after z.time d)) (d ∷ ds) vs room slots (λ v l t. (λ h. waited z d h e (left_over z.written (start (after z.time d) d) q), t)) (e, r)
  due_allowed z d ds vs room slots false q e r = step4_allowed z d (kind G (after z.time d) d) ds vs room slots e refl r

  drain_allowed : (z : State G o) (ds : List Draw) (vs : List (NoisePair G)) (room slots : ℕ) (b : Bool) → leb total z.written ≡ b → Each R ds → Allowed z (cond b (halt done) (write G drain ds vs room slots))
  drain_allowed z ds vs room slots true q r = tt
  drain_allowed z ds vs room slots false q r = write_allowed z drain ds vs room slots (λ v l t. (leb-false total z.written q, t)) r

  step_allowed : (z : State G o) (e : Bool) (ds : List Draw) (vs : List (NoisePair G)) (room slots : ℕ) → Each R ds → Allowed z (step1 G e z.written z.time ds vs room slots)
  step_allowed z true ds vs room slots r = drain_allowed z ds vs room slots (leb total z.written) refl r
  step_allowed z false [] vs room slots r = tt
  step_allowed z false (d ∷ ds) vs room slots (e, r) = due_allowed z d ds vs room slots (due_by G z.written (kind G (after z.time d) d)) refl e r

  pub steps_keep : (f : ℕ) (z : State G o) (l : Remaining G) → Each R l.draws → H z → H (machine_steps G o f z l).state
  steps_keep zero z l r h = h
  steps_keep (suc f) z l r h = on_keep (λ z' l'. machine_steps G o f z' l') (λ z' l' s g. steps_keep f z' l' s g) z l (state_step G o z l) (step_allowed z z.over l.draws l.noise l.room l.slots r) h
