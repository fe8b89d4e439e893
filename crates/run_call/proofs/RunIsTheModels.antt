-- `run_is`: with working memory and prototypes of their lengths, a run call is the theory's `machine_run`, refused or not, on the flat buffers.
use Rattle.std.specs.Prelude.{Option, Some, None}
use mathlib.Core.Path.{◌≡◌, refl, ap, ◌∙◌}
use mathlib.Core.Bool.{Bool, false, cond}
use mathlib.Core.List.{List}
use lib.ListN.{length}
use lib.Ieee.{Float, nan}
use borrow.Author.Tests.{eq-eqb}
use Rattle.constants.specs.Rate.{working_memory, prototype_length}
use Rattle.constants.specs.Setting.{per_pulse}
use Rattle.run_theory.specs.PlainBench as Bench
use Rattle.run_call_model.specs.Machine as Machine
use Rattle.run_call_model.proofs.Progress.{call_state, call_result}
use Rattle.run_call.specs.declared.State.{State}
use Rattle.run_call.specs.StateGenerator.{gen_of}
use Rattle.run_call.specs.CallModel.{left_by, call_left, refused_by, run_by, call_refusal, run_left}
use Rattle.run_call.specs.Checks.{wrong_memory}
use Rattle.run_call.specs.MachineModel.{machine_of, ran_given, left_given}

module _ (s : State) (mode_s mode_ac memory : List Float) (c : Bench.Call (gen_of s mode_s mode_ac)) where
  -- the theory's call
  abbrev theirs : Option Bench.Refusal → Bench.Given (gen_of s mode_s mode_ac) × Machine.State (gen_of s mode_s mode_ac) nan
  theirs o = Machine.machine_call (gen_of s mode_s mode_ac) nan (machine_of s mode_s mode_ac memory) c o

  by_refusal : (o : Option Bench.Refusal)
      → run_by s memory c.output c.records (call_left s mode_s mode_ac memory c.draws c.noise c.output c.records) o
      ≡ left_given s mode_s mode_ac (Bench.result_of (gen_of s mode_s mode_ac) c (theirs o).0) (theirs o).1
  unfolding call_left left_by left_given ran_given refused_by
  by_refusal None = λ i. left_given s mode_s mode_ac (call_result (gen_of s mode_s mode_ac) nan (machine_of s mode_s mode_ac memory) c i) (call_state (gen_of s mode_s mode_ac) nan (machine_of s mode_s mode_ac memory) c i)
  by_refusal (Some q) = refl

  pub run_is : length memory ≡ working_memory (per_pulse s.setting) → length mode_s ≡ prototype_length (per_pulse s.setting) → length mode_ac ≡ prototype_length (per_pulse s.setting)
      → run_left s mode_s mode_ac memory c.draws c.noise c.output c.records
      ≡ left_given s mode_s mode_ac (Bench.result_of (gen_of s mode_s mode_ac) c (Machine.machine_run (gen_of s mode_s mode_ac) nan (machine_of s mode_s mode_ac memory) c).0) (Machine.machine_run (gen_of s mode_s mode_ac) nan (machine_of s mode_s mode_ac memory) c).1
  unfolding run_left
  run_is m p a = ap (run_by s memory c.output c.records (call_left s mode_s mode_ac memory c.draws c.noise c.output c.records)) lengths_right ∙ by_refusal check_generator
    where
      check_generator : Option Bench.Refusal
      check_generator = Bench.refusal_of (gen_of s mode_s mode_ac) s.time (Some s.latest) c

      lengths_right : call_refusal s mode_s mode_ac memory c.draws c.noise c.output c.records ≡ check_generator
      lengths_right = ap (λ (x : Bool). cond x (Some Bench.wrong_length) check_generator) right
        where
          right : wrong_memory (per_pulse s.setting) (length memory) (length mode_s) (length mode_ac) ≡ false
          right = rw (eq-eqb (length memory) (working_memory (per_pulse s.setting)) m, eq-eqb (length mode_s) (prototype_length (per_pulse s.setting)) p, eq-eqb (length mode_ac) (prototype_length (per_pulse s.setting)) a)
