-- The theory's machine keeps the length of working memory (`run-kept`).
use Rattle.std.specs.Prelude.{Option, Some, None}
use mathlib.Core.Path.{◌≡◌, refl, ap, ◌∙◌}
use mathlib.Core.List.{List, [], ◌∷◌}
use Prim.Native.Nat.{ℕ, zero, suc, ◌%◌}
use lib.ListN.{length}
use Rattle.run_theory.specs.Generator.{Generator, Sample, silence, add}
use Rattle.run_theory.specs.PlainRun.{Kind, ignored, ends, reply}
use Rattle.run_theory.specs.PlainBench.{Refusal, Call, Remaining, remaining_of, Step, halt, drain, due, taking, refusal_of, fuel}
use Rattle.run_call_model.specs.Machine.{later, window, rd, wr, put, State, Ran, state_step, state_after_sample, state_after_draw, noted, machine_on, machine_steps, machine_call, machine_run}
use Rattle.run_call_model.proofs.Ring.{length_wr}

module _ (G : Generator) (o : G.Value) where
  open G use {Value, Draw, Time, after, adds}

  put_kept : (xs : List (Sample G)) (m : List Value) (s : ℕ) → length (put G o m s xs) ≡ length m
  put_kept [] m s = refl
  put_kept (x ∷ xs) m s =
      put_kept xs (wr G o m (s % window G o) (add G (rd G o m (s % window G o)) x)) (suc s) ∙ length_wr G o m (s % window G o) (add G (rd G o m (s % window G o)) x)

  noted_state : (t : Time) (d : Draw) (k : Kind) (r : Ran G o) → (noted G o t d k r).state ≡ r.state
  noted_state t d ignored r = refl
  noted_state t d ends r = refl
  noted_state t d (reply s) r = refl

  draw_taken_kept : (z : State G o) (d : Draw) (k : Kind) → length (state_after_draw G o z d k).memory ≡ length z.memory
  draw_taken_kept z d ignored = refl
  draw_taken_kept z d ends = refl
  draw_taken_kept z d (reply s) = put_kept (adds (after z.time d) d s) z.memory s

  samples_written_kept : (z : State G o) (m : Time) → length (state_after_sample G o z m).memory ≡ length z.memory
  samples_written_kept z m = length_wr G o z.memory (z.written % window G o) (silence G)

  on_kept : (go : State G o → Remaining G → Ran G o) → ((z : State G o) (l : Remaining G) → length (go z l).state.memory ≡ length z.memory) → (z : State G o) (l : Remaining G) (c : Step G)
      → length (machine_on G o go z l c).state.memory ≡ length z.memory
  on_kept go ih z l (halt s) = refl
  on_kept go ih z l (drain v l') = ih (state_after_sample G o z z.mark) l' ∙ samples_written_kept z z.mark
  on_kept go ih z l (due t v l') = ih (state_after_sample G o z (later G z.mark t)) l' ∙ samples_written_kept z (later G z.mark t)
  on_kept go ih z l (taking d k l') =
      ap (λ (y : State G o). length y.memory) (noted_state (after z.time d) d k (go (state_after_draw G o z d k) l')) ∙ ih (state_after_draw G o z d k) l' ∙ draw_taken_kept z d k

  steps_kept : (f : ℕ) (z : State G o) (l : Remaining G) → length (machine_steps G o f z l).state.memory ≡ length z.memory
  steps_kept zero z l = refl
  steps_kept (suc f) z l = on_kept (λ z' l'. machine_steps G o f z' l') (λ z' l'. steps_kept f z' l') z l (state_step G o z l)

  call_kept : (z : State G o) (c : Call G) (q : Option Refusal) → length (machine_call G o z c q).1.memory ≡ length z.memory
  call_kept z c None = steps_kept (fuel G (remaining_of G c)) z (remaining_of G c)
  call_kept z c (Some q) = refl

  pub run_kept : (z : State G o) (c : Call G) → length (machine_run G o z c).1.memory ≡ length z.memory
  run_kept z c = call_kept z c (refusal_of G z.time (Some z.mark) c)
