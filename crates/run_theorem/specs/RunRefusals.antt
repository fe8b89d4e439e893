-- The cause of each refusal of a run call on any state, with any buffers, in the order of SPECIFICATION 3.2: 9 for its buffers, then 7, then 8.
use Rattle.std.specs.Prelude.{Some, Result, Ok, Err, true, false, ◌||◌, List, ◌≡◌, length, Float}
use Rattle.refusals.specs.declared.Refusal.{Refusal}
use Rattle.run_theory.specs.PlainBench as Bench
use Rattle.run_theory.specs.Refusals.{Cause}
use Rattle.constants.specs.Setting.{per_pulse}
use Rattle.run_call.specs.Checks.{wrong_memory}
use Rattle.run_steps.specs.declared.Stop.{Stop}
use Rattle.run_call.specs.declared.State.{State}
use Rattle.run_call.specs.StateGenerator.{gen_of}
use Rattle.run_call.specs.Given.{refusal_given}
use Rattle.run_call.specs.Calls.{call_of}
use Rattle.run_call.specs.Buffers.{CallBuffers}

module _ (s : State) (mode_s mode_ac memory : List Float) (l : CallBuffers) where
  -- 9 for memory, prototypes or buffers; 7 and 8 as the plain bench has them, where 9 has no cause
  abbrev pub CallCause : Bench.Refusal → Type 0
  CallCause Bench.wrong_length = (wrong_memory (per_pulse s.setting) (length memory) (length mode_s) (length mode_ac) || Bench.wrong_lengths (gen_of s mode_s mode_ac) (call_of s mode_s mode_ac l)) ≡ true
  CallCause (Bench.wrong_draw k field) = (wrong_memory (per_pulse s.setting) (length memory) (length mode_s) (length mode_ac) ≡ false) × Cause (gen_of s mode_s mode_ac) s.time (Some s.latest) (call_of s mode_s mode_ac l) (Bench.wrong_draw k field)
  CallCause (Bench.wrong_noise index) = (wrong_memory (per_pulse s.setting) (length memory) (length mode_s) (length mode_ac) ≡ false) × Cause (gen_of s mode_s mode_ac) s.time (Some s.latest) (call_of s mode_s mode_ac l) (Bench.wrong_noise index)

  -- which answer is right: a refusal for its cause, and a stop where none has a cause
  pub data Answered : Result Stop Refusal → Type 0 where
    refused : (q : Bench.Refusal) → CallCause q → Answered (Err (refusal_given q))
    stopped : (w : Stop) → ((q : Bench.Refusal) → CallCause q → ⊥) → Answered (Ok w)
