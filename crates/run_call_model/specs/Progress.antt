-- A model of the code, and not the specification's words: a call on flat buffers, step by step. `rest_of t` is what the rest of a call yields from progress t on.
-- The buffers stay whole; the counts say where the next numbers go.
use Rattle.std.specs.Prelude.{List, ℕ, suc, ◌+◌, ◌-◌, ◌*◌, ◌/◌, ◌≤◌, length, drop}
use Rattle.run_theory.specs.Generator.{Generator, NoisePair}
use Rattle.run_theory.specs.Added.{sum_of}
use Rattle.run_theory.specs.PlainBench.{Stop, pairs, flatten, join, Call, draws_of, Remaining, fuel}
use Rattle.run_call_model.specs.Machine.{State, Ran, machine_steps}
use Rattle.le_read.specs.LeBytes.{overwritten}

module _ (G : Generator) (o : G.Value) where
  open G use {Value, Byte, Draw, draw_bytes, record_bytes}

  -- the steps of a call until one stops it: `fuel` bounds their number, and is enough (run_call_model/proofs/EnoughFuel, `machine-repeats`)
  abbrev pub all_steps : State G o → Remaining G → Ran G o
  all_steps z l = machine_steps G o (fuel G l) z l

  abbrev pub remaining_with : List Draw → List (NoisePair G) → ℕ → ℕ → Remaining G
  remaining_with ds vs room slots = record { draws = ds; noise = vs; room = room; slots = slots }

  -- a call so far: the state, the counts, the draw bytes that are not taken, and the buffers
  pub record Progress : Type 0 where
    pub state : State G o
    pub taken : ℕ
    pub samples : ℕ
    pub lines : ℕ
    pub added : ℕ
    pub rest : List Byte
    pub output : List Value
    pub records : List Byte

  -- a call at its stop
  pub record Ended : Type 0 where
    pub state : State G o
    pub taken : ℕ
    pub samples : ℕ
    pub lines : ℕ
    pub added : ℕ
    pub output : List Value
    pub records : List Byte
    pub stop : Stop

  abbrev pub initial_progress : State G o → Call G → Progress
  initial_progress z c = record { state = z; taken = 0; samples = 0; lines = 0; added = 0; rest = c.draws; output = c.output; records = c.records }

  abbrev pub stopped : Progress → Stop → Ended
  stopped t s = record { state = t.state; taken = t.taken; samples = t.samples; lines = t.lines; added = t.added; output = t.output; records = t.records; stop = s }

  module _ (noise : List Value) where
    -- what is left of the buffers
    abbrev pub left_of : Progress → Remaining G
    left_of t = remaining_with (draws_of G t.rest) (pairs (drop (2 * t.samples) noise)) (length t.output / 2 - t.samples) (length t.records / record_bytes - t.lines)

    -- progress and then what steps on what is left yield
    abbrev pub finish : Progress → Ran G o → Ended
    finish t r = record {
      state = r.state;
      taken = t.taken + (length (draws_of G t.rest) - length r.rest.draws);
      samples = t.samples + length r.samples;
      lines = t.lines + length r.records;
      added = t.added + sum_of r.added;
      output = overwritten t.output (2 * t.samples) (flatten r.samples);
      records = overwritten t.records (record_bytes * t.lines) (join r.records);
      stop = r.stop;
    }

    -- what the rest of a call yields
    unfoldable pub rest_of : Progress → Ended
    rest_of t = finish t (all_steps t.state (left_of t))

    -- the counts lie within the buffers
    pub record Within (t : Progress) : Type 0 where
      pub output_in : 2 * t.samples ≤ length t.output
      pub noise_in_lem : 2 * t.samples ≤ length noise
      pub records_in_lem : record_bytes * t.lines ≤ length t.records

    -- a bound on the steps that are left, since each takes a draw or fills output. It is enough (run_call_model/proofs/Batched, `batched-steps-are`).
    abbrev pub step_fuel : Progress → ℕ
    step_fuel t = suc (length t.rest / draw_bytes + (length t.output / 2 - t.samples))
