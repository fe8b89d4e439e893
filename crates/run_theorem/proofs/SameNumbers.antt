-- A refusal of the plain bench, as the code answers it, has the number and values of SPECIFICATION 3.1, and a stop its number: the tables of the two agree (`same_numbers`, `same-stops`). So the code's words in `Seen` say what the bench says.
use mathlib.Core.Path.{◌≡◌, refl}
use mathlib.Core.List.{◌∷◌}
use Rattle.run_theory.specs.PlainBench as Bench
use Rattle.refusals.specs.Number.{number_of, values_of}
use Rattle.run_call.specs.Given.{refusal_given, stop_number, stop_given}
use Rattle.run_steps.specs.PlanModel.{stop_read}

pub same_numbers : (q : Bench.Refusal) → number_of (refusal_given q) ∷ values_of (refusal_given q) ≡ Bench.numbers q
unfolding refusal_given number_of values_of
same_numbers Bench.wrong_length = refl
same_numbers (Bench.wrong_draw draw field) = refl
same_numbers (Bench.wrong_noise index) = refl

pub same_stops : (s : Bench.Stop) → stop_number (stop_given s) ≡ Bench.stop_number s
unfolding stop_number stop_given stop_read
same_stops Bench.done = refl
same_stops Bench.output_full = refl
same_stops Bench.wants_noise = refl
same_stops Bench.wants_draws = refl
same_stops Bench.records_full = refl
