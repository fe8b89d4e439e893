-- What comes next in a run call, read as the model in `run_call_model` has it.
use Rattle.std.specs.Prelude.{ℕ, Bool, Float, cond, ltb, Result, Ok, Err}
use Rattle.constants.specs.declared.SamplesPerPulse.{SamplesPerPulse}
use Rattle.constants.specs.Setting.{per_pulse}
use Rattle.run_theory.specs.Generator.{Generator, start_from}
use Rattle.run_theory.specs.PlainRun.{kind_of}
use Rattle.run_theory.specs.PlainBench as Bench
use Rattle.run_call_model.specs.Plan as Theory
use Rattle.run_theory.specs.FloatGenerator.{no_draws, generator}
use Rattle.message_config.specs.declared.Delays.{Delays}
use Rattle.message_config.specs.declared.MessageConfig.{MessageConfig}
use Rattle.message_config.specs.Config.{config_start}
use Rattle.run_steps.specs.declared.Stop as Stop
use Rattle.run_steps.specs.declared.Plan as Plan
use Rattle.run_steps.specs.declared.Room.{Room}

-- a run of n samples, without draws: what is due does not depend on them
abbrev pub counted : SamplesPerPulse → ℕ → Generator
counted setting total = generator no_draws (per_pulse setting) total

-- the code's stops and plans, case by case
unfoldable pub stop_read : Stop.Stop → Bench.Stop
stop_read Stop.TheVariants.Done = Bench.done
stop_read Stop.TheVariants.OutputFull = Bench.output_full
stop_read Stop.TheVariants.WantsNoise = Bench.wants_noise
stop_read Stop.TheVariants.WantsDraws = Bench.wants_draws
stop_read Stop.TheVariants.RecordsFull = Bench.records_full

unfoldable pub plan_read : Plan.Plan → Theory.Plan Float
plan_read (Plan.TheVariants.Halt s) = Theory.stop_at (stop_read s)
plan_read (Plan.TheVariants.Drain n) = Theory.drain_many n
plan_read (Plan.TheVariants.Due n time) = Theory.due_many n time
plan_read (Plan.TheVariants.Skip time) = Theory.ignore time
plan_read (Plan.TheVariants.End time) = Theory.end_run time
plan_read (Plan.TheVariants.Add time first) = Theory.add_reply time first

-- of the samples due, how many can be written, or the stop where none can
unfoldable pub writable_of : ℕ → Room → Result ℕ Stop.Stop
writable_of due room =
    cond (ltb 0 (Theory.batch due room.output room.noise)) (Ok (Theory.batch due room.output room.noise)) (Err (cond (ltb room.output 2) Stop.TheVariants.OutputFull Stop.TheVariants.WantsNoise))

-- what comes next, from the message of the next draw, the draw bytes that are left, and the numbers left in output and noise and the bytes left for records
unfoldable pub chosen : SamplesPerPulse → Bool → ℕ → ℕ → Delays → MessageConfig → ℕ → ℕ → ℕ → ℕ → Theory.Plan Float
chosen setting ended written total delays last rest room noise bytes =
    Theory.plan (counted setting total) ended written rest last.time (kind_of (counted setting total) (start_from (config_start delays last))) room noise bytes
