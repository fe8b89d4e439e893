-- Stops and refusals of the plain bench in the code's words, and the code's stops by number.
use Rattle.std.specs.Prelude.{ℕ}
use Rattle.run_theory.specs.PlainBench as Bench
use Rattle.run_steps.specs.declared.Stop as Stop
use Rattle.run_steps.specs.PlanModel.{stop_read}
use Rattle.refusals.specs.declared.Refusal as Refusal

-- a stop of the theory, as the code answers it
unfoldable pub stop_given : Bench.Stop → Stop.Stop
stop_given Bench.done = Stop.TheVariants.Done
stop_given Bench.output_full = Stop.TheVariants.OutputFull
stop_given Bench.wants_noise = Stop.TheVariants.WantsNoise
stop_given Bench.wants_draws = Stop.TheVariants.WantsDraws
stop_given Bench.records_full = Stop.TheVariants.RecordsFull

-- the code's stops have the numbers of the plain bench's (SPECIFICATION 9.2)
unfoldable pub stop_number : Stop.Stop → ℕ
stop_number w = Bench.stop_number (stop_read w)

-- a refusal of the theory, as the code answers it: the same number and values
unfoldable pub refusal_given : Bench.Refusal → Refusal.Refusal
refusal_given Bench.wrong_length = Refusal.TheVariants.Length
refusal_given (Bench.wrong_draw k field) = Refusal.TheVariants.Draw k field
refusal_given (Bench.wrong_noise slot) = Refusal.TheVariants.Noise slot
