-- A model of code: what a run call answers and leaves, refused or not. From an opened run `run_theorem/specs/OpenedRuns` says what it means.
use Rattle.std.specs.Prelude.{Option, Some, None, Ok, Err, ℕ, ◌*◌, List, Float, cond, length}
use Rattle.std.specs.Float.{nan}
use Rattle.run_theory.specs.Added.{high_half, low_half}
use Rattle.run_call_model.specs.Progress as Theory
use Rattle.run_call.specs.declared.State.{State}
use Rattle.run_steps.specs.declared.Progress.{Progress}
use Rattle.run_steps.specs.declared.LastStep as LastStep
use Rattle.run_steps.specs.declared.Stop as Stop
use Rattle.run_steps.specs.ProgressModel.{added_of}
use Rattle.run_call.specs.declared.Ran.{Ran}
use Rattle.run_call.specs.StateGenerator.{gen_of}
use Rattle.run_call.specs.Given.{stop_given, refusal_given}
use Rattle.run_call.specs.Buffers.{Left}
use Rattle.run_theory.specs.PlainBench as Bench
use Rattle.refusals.specs.declared.Refusal as Refusal
use Rattle.constants.specs.Setting.{per_pulse}
use Rattle.run_call.specs.Checks.{wrong_memory}

-- a call before its first step
unfoldable pub initial_by : State → Progress
initial_by s = record { written = s.written; time = s.time; latest = s.latest; ended = s.ended; taken = 0; samples = 0; records = 0; added_high = 0; added_low = 0; last = LastStep.TheVariants.SamplesWritten }

-- the answer at a stop: the state with what moved, and the counts
unfoldable pub ran_by : State → Progress → Stop.Stop → Ran
ran_by s t w = record {
  state = record { written = t.written; total = s.total; time = t.time; latest = t.latest; ended = t.ended; rates = s.rates; delays = s.delays; distributions = s.distributions; setting = s.setting };
  counts = record { taken = t.taken; samples = t.samples; noise = 2 * t.samples; records = t.records; added_high = high_half (added_of t); added_low = low_half (added_of t) };
  answer = Ok w;
}

module _ (s : State) (mode_s mode_ac : List Float) where
  -- of what the theory's call yields
  unfoldable pub left_by : Theory.Ended (gen_of s mode_s mode_ac) nan → Left
  left_by e = record {
    ran = record {
      state = record { written = e.state.written; total = s.total; time = e.state.time; latest = e.state.mark; ended = e.state.over; rates = s.rates; delays = s.delays; distributions = s.distributions; setting = s.setting };
      counts = record { taken = e.taken; samples = e.samples; noise = 2 * e.samples; records = e.lines; added_high = high_half e.added; added_low = low_half e.added };
      answer = Ok (stop_given e.stop);
    };
    memory = e.state.memory;
    output = e.output;
    records = e.records;
  }

  -- a call that is not refused: the steps from its first step on
  unfoldable pub call_left : List Float → List ℕ → List Float → List Float → List ℕ → Left
  call_left memory draws noise output records =
      left_by
      (Theory.rest_of (gen_of s mode_s mode_ac) nan noise
      (Theory.initial_progress (gen_of s mode_s mode_ac) nan (record { memory = memory; written = s.written; time = s.time; over = s.ended; mark = s.latest }) (record { draws = draws; noise = noise; output = output; records = records })))

unfoldable pub refused_by : State → Refusal.Refusal → Ran
refused_by s q = record { state = s; counts = record { taken = 0; samples = 0; noise = 0; records = 0; added_high = 0; added_low = 0 }; answer = Err q }

-- a refusal changes neither state nor any buffer
abbrev pub run_by : State → List Float → List Float → List ℕ → Left → Option Bench.Refusal → Left
run_by s memory output records left None = left
run_by s memory output records left (Some q) = record { ran = refused_by s (refusal_given q); memory = memory; output = output; records = records }

module _ (s : State) (mode_s mode_ac memory : List Float) (draws : List ℕ) (noise output : List Float) (records : List ℕ) where
  -- 9, then every draw, then every noise value (SPECIFICATION 3.2)
  abbrev pub call_refusal : Option Bench.Refusal
  call_refusal =
      cond (wrong_memory (per_pulse s.setting) (length memory) (length mode_s) (length mode_ac)) (Some Bench.wrong_length)
      (Bench.refusal_of (gen_of s mode_s mode_ac) s.time (Some s.latest) (record { draws = draws; noise = noise; output = output; records = records }))

  unfoldable pub run_left : Left
  run_left = run_by s memory output records (call_left s mode_s mode_ac memory draws noise output records) call_refusal
