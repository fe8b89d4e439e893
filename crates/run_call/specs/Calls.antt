-- Run calls one after the other, each given state, prototypes and memory as the last one left them; and a call as the plain bench takes it.
use Rattle.std.specs.Prelude.{List, [], ◌∷◌, Float}
use Rattle.run_theory.specs.PlainBench as Bench
use Rattle.run_call.specs.declared.State.{State}
use Rattle.run_call.specs.StateGenerator.{gen_of}
use Rattle.run_call.specs.Buffers.{Left, CallBuffers}
use Rattle.run_call.specs.CallModel.{run_left}

-- what each run call of a list answers and leaves, given state, prototypes and memory as the last call left them
unfoldable pub runs_left : State → List Float → List Float → List Float → List CallBuffers → List Left
runs_left s mode_s mode_ac memory [] = []
runs_left s mode_s mode_ac memory (l ∷ ls) =
    let r = run_left s mode_s mode_ac memory l.draws l.noise l.output l.records in
    r ∷ runs_left r.ran.state mode_s mode_ac r.memory ls

module _ (s : State) (mode_s mode_ac : List Float) where
  abbrev pub call_of : CallBuffers → Bench.Call (gen_of s mode_s mode_ac)
  call_of l = record { draws = l.draws; noise = l.noise; output = l.output; records = l.records }
