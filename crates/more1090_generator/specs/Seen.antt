-- What a caller in C sees of a run call: its answer, and the two buffers after it; of what the contract of `more1090_run` leaves, and of the plain bench (SPECIFICATION 10.2).
use Rattle.std.specs.Prelude.{ℕ, List, Float, get_or}
use Rattle.run_theory.specs.Added.{high_half, low_half}
use Rattle.run_theory.specs.PlainBench as Bench
use Rattle.run_call.specs.declared.State.{State}
use Rattle.run_call.specs.StateGenerator.{gen_of}
use Rattle.more1090_generator.specs.declared.FlatAnswer.{FlatAnswer}
use Rattle.more1090_generator.specs.Answers.{FlatLeft}

pub record FlatSeen : Type 0 where
  pub answer : FlatAnswer
  pub output : List Float
  pub records : List ℕ

unfoldable pub flat_seen : FlatLeft → FlatSeen
flat_seen l = record { answer = l.ran.answer; output = l.output; records = l.records }

-- the plain bench's answer: counts, the number of reply samples added as its two halves, and stop; or the number and values of SPECIFICATION 3.1
unfoldable pub bench_answer : Bench.Answer → FlatAnswer
bench_answer (Bench.refused q) = record { taken = 0; samples = 0; noise = 0; records = 0; stop = 5; refusal = get_or (Bench.numbers q) 0 0; value = get_or (Bench.numbers q) 1 0; field = get_or (Bench.numbers q) 2 0; added_high = 0; added_low = 0 }
bench_answer (Bench.ran taken samples noise records added stop) = record { taken = taken; samples = samples; noise = noise; records = records; stop = Bench.stop_number stop; refusal = 0; value = 0; field = 0; added_high = high_half added; added_low = low_half added }

module _ (s : State) (mode_s mode_ac : List Float) where
  unfoldable pub bench_seen : Bench.Result (gen_of s mode_s mode_ac) → FlatSeen
  bench_seen r = record { answer = bench_answer r.answer; output = r.output; records = r.records }
