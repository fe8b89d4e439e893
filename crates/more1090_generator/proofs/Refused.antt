-- A refusal changes neither state nor any buffer (SPECIFICATION 3.3), for callers in C: of a state that a call returned (`refused_run`), and of opening (`refused_opening`).
use Rattle.std.specs.Prelude.{Option, Some, None, Result, Ok, Err}
use Rattle.refusals.specs.declared.Refusal.{Refusal}
use mathlib.Core.Path.{◌≡◌, refl}
use mathlib.Core.List.{List}
use Prim.Native.Nat.{ℕ}
use lib.Ieee.{Float}
use Rattle.run_theory.specs.PlainBench as Bench
use Rattle.run_open.specs.Opening as Opening
use Rattle.run_call.specs.declared.State.{State}
use Rattle.run_call.specs.CallModel.{left_by, call_left, refused_by, run_by, call_refusal, run_left}
use Rattle.more1090_generator.specs.States.{flat_of}
use Rattle.more1090_generator.specs.Answers.{opened_flat, flat_answer, answered, ran_flat, FlatLeft, left_flat, flat_run_left}
use Rattle.more1090_generator.proofs.StateBack.{state_back}

module _ (s : State) (mode_s mode_ac memory : List Float) (draws : List ℕ) (noise output : List Float) (records : List ℕ) where
  Kept : FlatLeft → Type 0
  Kept l = (l.ran.answer.refusal ≡ 0 → ⊥) → (l.ran.state ≡ flat_of s) × (l.memory ≡ memory) × (l.output ≡ output) × (l.records ≡ records)

  kept : (q : Option Bench.Refusal) → Kept (left_flat (run_by s memory output records (call_left s mode_s mode_ac memory draws noise output records) q))
  unfolding Kept left_flat ran_flat answered flat_answer call_left left_by refused_by
  kept None h = absurd (h refl)
  kept (Some q) h = (refl, refl, refl, refl)

  pub refused_run : let l = flat_run_left (flat_of s) mode_s mode_ac memory draws noise output records in
      (l.ran.answer.refusal ≡ 0 → ⊥) → (l.ran.state ≡ flat_of s) × (l.memory ≡ memory) × (l.output ≡ output) × (l.records ≡ records)
  unfolding Kept flat_run_left run_left
  refused_run = rw state_back (kept (call_refusal s mode_s mode_ac memory draws noise output records))

module _ (taps_s taps_ac : List Float) (lent : Opening.OpenBuffers) where
  opening_kept : (o : Result State Refusal) → ((opened_flat o).refusal ≡ 0 → ⊥) → Opening.left_by taps_s taps_ac o lent ≡ lent
  unfolding opened_flat Opening.left_by
  opening_kept (Ok s) h = absurd (h refl)
  opening_kept (Err q) h = refl

  pub refused_opening : (bytes : List ℕ) → let o = Opening.opened_of taps_s taps_ac bytes lent in
      ((opened_flat o).refusal ≡ 0 → ⊥) → Opening.left_by taps_s taps_ac o lent ≡ lent
  refused_opening bytes = opening_kept (Opening.opened_of taps_s taps_ac bytes lent)
