-- What a caller sees of a run call: its counts, its answer in the specification's numbers, and the two buffers after it; as the contract of `run` has it, and as the plain bench has it.
use Rattle.std.specs.Prelude.{Result, Ok, Err, ℕ, List, ◌∷◌, Float}
use Rattle.refusals.specs.declared.Refusal.{Refusal}
use Rattle.run_steps.specs.declared.Stop.{Stop}
use Rattle.run_theory.specs.Added.{high_half, low_half}
use Rattle.run_theory.specs.PlainBench as Bench
use Rattle.refusals.specs.Number.{number_of, values_of}
use Rattle.run_call.specs.declared.State.{State}
use Rattle.run_call.specs.declared.Counts.{Counts}
use Rattle.run_call.specs.StateGenerator.{gen_of}
use Rattle.run_call.specs.Buffers.{Left}
use Rattle.run_call.specs.Given.{stop_number}

-- an answer: a stop, numbered in the order of the specification's steps; or a refusal's number and values
pub data Numbered : Type 0 where
  stopped : ℕ → Numbered
  refused : List ℕ → Numbered

pub record Seen : Type 0 where
  pub counts : Counts
  pub answer : Numbered
  pub output : List Float
  pub records : List ℕ

-- of what the contract of a run call leaves
unfoldable pub answer_seen : Result Stop Refusal → Numbered
answer_seen (Ok stop) = stopped (stop_number stop)
answer_seen (Err q) = refused (number_of q ∷ values_of q)

unfoldable pub seen_left : Left → Seen
seen_left l = record { counts = l.ran.counts; answer = answer_seen l.ran.answer; output = l.output; records = l.records }

-- of the plain bench's result: a refused call counts nothing, and the number of reply samples added is given as its two halves
unfoldable pub counts_of : Bench.Answer → Counts
counts_of (Bench.refused q) = record { taken = 0; samples = 0; noise = 0; records = 0; added_high = 0; added_low = 0 }
counts_of (Bench.ran taken samples noise records added stop) =
    record { taken = taken; samples = samples; noise = noise; records = records; added_high = high_half added; added_low = low_half added }

unfoldable pub answer_of : Bench.Answer → Numbered
answer_of (Bench.refused q) = refused (Bench.numbers q)
answer_of (Bench.ran taken samples noise records added stop) = stopped (Bench.stop_number stop)

module _ (s : State) (mode_s mode_ac : List Float) where
  unfoldable pub seen_result : Bench.Result (gen_of s mode_s mode_ac) → Seen
  seen_result r = record { counts = counts_of r.answer; answer = answer_of r.answer; output = r.output; records = r.records }
