-- `runs-are`: a list of run calls, from any state with working memory and prototypes of their lengths, is the theory's list of calls.
use mathlib.Core.Path.{◌≡◌, refl, ap, ◌∙◌}
use mathlib.Core.List.{List, [], ◌∷◌}
use lib.ListN.{length}
use lib.Ieee.{Float, nan}
use Rattle.constants.specs.Rate.{working_memory, prototype_length}
use Rattle.constants.specs.Setting.{per_pulse}
use Rattle.run_theory.specs.PlainBench as Bench
use Rattle.run_call_model.specs.Machine as Machine
use Rattle.run_call.specs.declared.State.{State}
use Rattle.run_call.specs.StateGenerator.{gen_of}
use Rattle.run_call.specs.Buffers.{Left, CallBuffers}
use Rattle.run_call.specs.CallModel.{run_left}
use Rattle.run_call.specs.Calls.{runs_left, call_of}
use Rattle.run_call.specs.MachineModel.{state_of, ran_given, left_given, runs_given}
use Rattle.run_call.proofs.RunIsTheModels.{run_is}
use Rattle.run_call.proofs.MemoryKept.{run_kept}

-- the state after a call is the one that stands for the machine's
module _ (s : State) (mode_s mode_ac : List Float) where
  pub given_state : (r : Bench.Answer) (z : Machine.State (gen_of s mode_s mode_ac) nan) → (ran_given s mode_s mode_ac r z).state ≡ state_of s mode_s mode_ac z
  unfolding ran_given
  given_state (Bench.refused q) z = refl
  given_state (Bench.ran d n v l a w) z = refl

module _ (s : State) (mode_s mode_ac : List Float) (p : length mode_s ≡ prototype_length (per_pulse s.setting)) (a : length mode_ac ≡ prototype_length (per_pulse s.setting)) where
  pub runs_are : (ls : List CallBuffers) (z : Machine.State (gen_of s mode_s mode_ac) nan) → length z.memory ≡ working_memory (per_pulse s.setting) → runs_left (state_of s mode_s mode_ac z) mode_s mode_ac z.memory ls ≡ runs_given s mode_s mode_ac z ls
  unfolding runs_left runs_given left_given run_left ran_given
  runs_are [] z m = refl
  runs_are (l ∷ ls) z m =
      ap (λ (x : Left). x ∷ runs_left x.ran.state mode_s mode_ac x.memory ls) one
      ∙ ap (λ (y : State). left_given s mode_s mode_ac r t.1 ∷ runs_left y mode_s mode_ac t.1.memory ls) (given_state s mode_s mode_ac r.answer t.1)
      ∙ ap (λ (more : List Left). left_given s mode_s mode_ac r t.1 ∷ more) (runs_are ls t.1 (run_kept (gen_of s mode_s mode_ac) nan z (call_of s mode_s mode_ac l) ∙ m))
    where
      t : Bench.Given (gen_of s mode_s mode_ac) × Machine.State (gen_of s mode_s mode_ac) nan
      t = Machine.machine_run (gen_of s mode_s mode_ac) nan z (call_of s mode_s mode_ac l)

      r : Bench.Result (gen_of s mode_s mode_ac)
      r = Bench.result_of (gen_of s mode_s mode_ac) (call_of s mode_s mode_ac l) t.0

      one : run_left (state_of s mode_s mode_ac z) mode_s mode_ac z.memory l.draws l.noise l.output l.records ≡ left_given s mode_s mode_ac r t.1
      one = run_is (state_of s mode_s mode_ac z) mode_s mode_ac z.memory (call_of s mode_s mode_ac l) m p a
