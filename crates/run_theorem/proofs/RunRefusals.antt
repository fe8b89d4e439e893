-- Refusals 9, 7 and 8 of a run call are each given for their cause only, and for the first cause in the order of SPECIFICATION 3.2: what `run` answers, on any state and with any buffers,
-- is what `Answered` allows (`answered`), and where a refusal has its cause, it is that refusal (`only`).
use Rattle.std.specs.Prelude.{Option, Some, None, Result, Err}
use Rattle.refusals.specs.declared.Refusal.{Refusal}
use Rattle.run_steps.specs.declared.Stop.{Stop}
use mathlib.Core.Bool.{Bool, true, false, cond, ◌||◌}
use mathlib.Core.List.{List}
use mathlib.Core.Path.{◌≡◌, refl, sym, ap, ◌∙◌, subst}
use native.Mathlib.Omega.{arith}
use Prim.Native.Nat.{ℕ}
use lib.ListN.{length}
use lib.Ieee.{Float}
use Rattle.run_theory.specs.Generator.{Generator}
use Rattle.run_theory.specs.PlainBench as Bench
use Rattle.run_theory.specs.Refusals.{Cause}
use Rattle.run_theory.proofs.Refusals.{refused_for, refused_if}
use Rattle.constants.specs.Setting.{per_pulse}
use Rattle.run_call.specs.Checks.{wrong_memory}
use Rattle.run_call.specs.declared.State.{State}
use Rattle.run_call.specs.StateGenerator.{gen_of}
use Rattle.run_call.specs.Buffers.{Left, CallBuffers}
use Rattle.run_call.specs.CallModel.{left_by, call_left, refused_by, run_by, call_refusal, run_left}
use Rattle.run_call.specs.Given.{refusal_given}
use Rattle.run_call.specs.Calls.{call_of}
use Rattle.run_theorem.specs.RunRefusals.{CallCause, Answered, refused, stopped}

module _ (s : State) (mode_s mode_ac memory : List Float) (l : CallBuffers) where
  abbrev G : Generator
  G = gen_of s mode_s mode_ac

  abbrev call : Bench.Call G
  call = call_of s mode_s mode_ac l

  abbrev memory_wrong : Bool
  memory_wrong = wrong_memory (per_pulse s.setting) (length memory) (length mode_s) (length mode_ac)

  abbrev inside : Option Bench.Refusal
  inside = Bench.refusal_of G s.time (Some s.latest) call

  abbrev given : Option Bench.Refusal
  given = call_refusal s mode_s mode_ac memory l.draws l.noise l.output l.records

  abbrev answer : Result Stop Refusal
  answer = (run_left s mode_s mode_ac memory l.draws l.noise l.output l.records).ran.answer

  -- the cause, where memory and prototypes are right or not
  cause_in : (q : Bench.Refusal) → memory_wrong ≡ false → Cause G s.time (Some s.latest) call q → CallCause s mode_s mode_ac memory l q
  cause_in Bench.wrong_length m h = ap (λ (x : Bool). x || Bench.wrong_lengths G call) m ∙ h
  cause_in (Bench.wrong_draw k field) m h = (m, h)
  cause_in (Bench.wrong_noise index) m h = (m, h)

  -- a refusal is given for its cause
  given_for : (q : Bench.Refusal) → given ≡ Some q → CallCause s mode_s mode_ac memory l q
  given_for q e = go memory_wrong refl e
    where
      go : (m : Bool) → memory_wrong ≡ m → cond m (Some Bench.wrong_length) inside ≡ Some q → CallCause s mode_s mode_ac memory l q
      go true p h =
          let same : Bench.wrong_length ≡ q = cc in
          subst (CallCause s mode_s mode_ac memory l) same (ap (λ (x : Bool). x || Bench.wrong_lengths G call) p)
      go false p h = cause_in q p (refused_for G s.time (Some s.latest) call q h)

  -- and where it has its cause, it is given
  given_if : (q : Bench.Refusal) → CallCause s mode_s mode_ac memory l q → given ≡ Some q
  given_if Bench.wrong_length h = go memory_wrong h
    where
      go : (m : Bool) → (m || Bench.wrong_lengths G call) ≡ true → cond m (Some Bench.wrong_length) inside ≡ Some Bench.wrong_length
      go true p = refl
      go false p = refused_if G s.time (Some s.latest) call Bench.wrong_length p
  given_if (Bench.wrong_draw k field) h = ap (λ (x : Bool). cond x (Some Bench.wrong_length) inside) h.0 ∙ refused_if G s.time (Some s.latest) call (Bench.wrong_draw k field) h.1
  given_if (Bench.wrong_noise index) h = ap (λ (x : Bool). cond x (Some Bench.wrong_length) inside) h.0 ∙ refused_if G s.time (Some s.latest) call (Bench.wrong_noise index) h.1

  abbrev left_for : Option Bench.Refusal → Left
  left_for = run_by s memory l.output l.records (call_left s mode_s mode_ac memory l.draws l.noise l.output l.records)

  pub answered : Answered s mode_s mode_ac memory l answer
  unfolding run_left call_left left_by refused_by
  answered = go given refl
    where
      go : (o : Option Bench.Refusal) → given ≡ o → Answered s mode_s mode_ac memory l (left_for o).ran.answer
      go (Some q) e = refused q (given_for q e)
      go None e = stopped _ (λ q h. let none_some : None ≡ Some q = sym e ∙ given_if q h in let z : ◌≡◌ {A = ℕ} 0 1 = cc in absurd (omega arith))

  pub only : (q : Bench.Refusal) → CallCause s mode_s mode_ac memory l q → answer ≡ Err (refusal_given q)
  unfolding run_left refused_by
  only q h = ap (λ (o : Option Bench.Refusal). (left_for o).ran.answer) (given_if q h)
