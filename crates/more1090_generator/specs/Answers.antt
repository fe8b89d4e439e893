-- What opening a run and a run call answer, as C has it: the numbers and values of refusals (SPECIFICATION 3.1), a number for each stop (9.2), and what a call leaves in the buffers.
use Rattle.std.specs.Prelude.{Result, Ok, Err}
use Rattle.refusals.specs.declared.Refusal.{Refusal}
use Rattle.run_call.specs.declared.State.{State}
use Rattle.run_steps.specs.declared.Stop.{Stop}
use Rattle.std.specs.Prelude.{ℕ, List, [], ◌∷◌, Float}
use Rattle.refusals.specs.Number.{number_of}
use Rattle.run_call.specs.declared.Counts.{Counts}
use Rattle.run_call.specs.declared.Ran.{Ran}
use Rattle.run_call.specs.Buffers.{Left, CallBuffers}
use Rattle.run_call.specs.Given.{stop_number}
use Rattle.run_call.specs.CallModel.{run_left}
use Rattle.more1090_generator.specs.declared.FlatState.{FlatState}
use Rattle.more1090_generator.specs.declared.FlatOpened.{FlatOpened}
use Rattle.more1090_generator.specs.declared.FlatAnswer.{FlatAnswer}
use Rattle.more1090_generator.specs.declared.FlatRan.{FlatRan}
use Rattle.refusals.specs.Flat.{values_flat}
use Rattle.more1090_generator.specs.States.{flat_of, state_from, no_state}

-- refusal 0 is none
unfoldable pub opened_flat : Result State Refusal → FlatOpened
opened_flat (Ok s) = record { state = flat_of s; refusal = 0; value = 0 }
opened_flat (Err q) = record { state = no_state; refusal = number_of q; value = (values_flat q).value }

unfoldable pub flat_answer : Counts → ℕ → ℕ → ℕ → ℕ → FlatAnswer
flat_answer n stop refusal value field = record { taken = n.taken; samples = n.samples; noise = n.noise; records = n.records; stop = stop; refusal = refusal; value = value; field = field; added_high = n.added_high; added_low = n.added_low }

-- refusal 0 is none; stop 5 is none
unfoldable pub answered : Counts → Result Stop Refusal → FlatAnswer
answered n (Ok w) = flat_answer n (stop_number w) 0 0 0
answered n (Err q) = flat_answer n 5 (number_of q) (values_flat q).value (values_flat q).field

unfoldable pub ran_flat : Ran → FlatRan
ran_flat r = record { state = flat_of r.state; answer = answered r.counts r.answer }

-- what a run call answers, and what it leaves in its buffers
pub record FlatLeft : Type 0 where
  pub ran : FlatRan
  pub memory : List Float
  pub output : List Float
  pub records : List ℕ

unfoldable pub left_flat : Left → FlatLeft
left_flat l = record { ran = ran_flat l.ran; memory = l.memory; output = l.output; records = l.records }

unfoldable pub flat_run_left : FlatState → List Float → List Float → List Float → List ℕ → List Float → List Float → List ℕ → FlatLeft
flat_run_left f mode_s mode_ac memory draws noise output records = left_flat (run_left (state_from f) mode_s mode_ac memory draws noise output records)

-- what each run call of a list answers and leaves, given state, prototypes and memory as the last call left them
unfoldable pub flat_runs_left : FlatState → List Float → List Float → List Float → List CallBuffers → List FlatLeft
flat_runs_left f mode_s mode_ac memory [] = []
flat_runs_left f mode_s mode_ac memory (l ∷ ls) =
    let r = flat_run_left f mode_s mode_ac memory l.draws l.noise l.output l.records in
    r ∷ flat_runs_left r.ran.state mode_s mode_ac r.memory ls
