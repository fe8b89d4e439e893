-- A model of code: a run call as `run_call_model` has it, in the code's words.
use Rattle.std.specs.Prelude.{Ok, Err, List, [], ◌∷◌, Float}
use Rattle.std.specs.Float.{nan}
use Rattle.run_theory.specs.Added.{high_half, low_half}
use Rattle.run_theory.specs.PlainBench as Bench
use Rattle.run_call_model.specs.Machine as Machine
use Rattle.run_call.specs.declared.State.{State}
use Rattle.run_call.specs.declared.Ran.{Ran}
use Rattle.run_call.specs.StateGenerator.{gen_of}
use Rattle.run_call.specs.Buffers.{Left, CallBuffers}
use Rattle.run_call.specs.Given.{stop_given, refusal_given}
use Rattle.run_call.specs.Calls.{call_of}

module _ (s : State) (mode_s mode_ac : List Float) where
  -- the machine's state: what of a state moves, with working memory
  abbrev pub machine_of : List Float → Machine.State (gen_of s mode_s mode_ac) nan
  machine_of memory = record { memory = memory; written = s.written; time = s.time; over = s.ended; mark = s.latest }

  -- the state that stands for a machine's
  abbrev pub state_of : Machine.State (gen_of s mode_s mode_ac) nan → State
  state_of z = record { written = z.written; total = s.total; time = z.time; latest = z.mark; ended = z.over; rates = s.rates; delays = s.delays; distributions = s.distributions; setting = s.setting }

  unfoldable pub ran_given : Bench.Answer → Machine.State (gen_of s mode_s mode_ac) nan → Ran
  ran_given (Bench.refused q) z = record { state = state_of z; counts = record { taken = 0; samples = 0; noise = 0; records = 0; added_high = 0; added_low = 0 }; answer = Err (refusal_given q) }
  ran_given (Bench.ran taken samples noise records added stop) z =
      record { state = state_of z; counts = record { taken = taken; samples = samples; noise = noise; records = records; added_high = high_half added; added_low = low_half added }; answer = Ok (stop_given stop) }

  -- what the code answers and leaves, for a result of the theory and the machine's state after it
  unfoldable pub left_given : Bench.Result (gen_of s mode_s mode_ac) → Machine.State (gen_of s mode_s mode_ac) nan → Left
  left_given r z = record { ran = ran_given r.answer z; memory = z.memory; output = r.output; records = r.records }

module _ (s : State) (mode_s mode_ac : List Float) where
  -- of the theory's calls, from a machine's state on
  unfoldable pub runs_given : Machine.State (gen_of s mode_s mode_ac) nan → List CallBuffers → List Left
  runs_given z [] = []
  runs_given z (l ∷ ls) =
      let r = Machine.machine_run (gen_of s mode_s mode_ac) nan z (call_of s mode_s mode_ac l) in
      left_given s mode_s mode_ac (Bench.result_of (gen_of s mode_s mode_ac) (call_of s mode_s mode_ac l) r.0) r.1 ∷ runs_given r.1 ls
