-- A tape for callers in C, in numbers: how much of it stands before its noise, what it begins with, its run between two chunks of noise, how it ends, and its text (SPECIFICATION 11.1, 11.2).
use Rattle.std.specs.Prelude.{ℕ, ◌+◌, ◌/◌, Bool, true, false, cond, not, ◌&&◌, Result, Ok, Err, List, eqb, ltb, length, Float}
use Rattle.constants.specs.Setting.{per_pulse}
use Rattle.refusals.specs.Number.{number_of}
use Rattle.refusals.specs.declared.Refusal.{Refusal}
use Rattle.refusals.specs.declared.Refusal.TheVariants.{Tape}
use Rattle.refusals.specs.Flat.{values_flat}
use Rattle.run_call.specs.Given.{stop_number}
use Rattle.run_steps.specs.declared.Stop as Stop
use Rattle.run_open.specs.Opening.{OpenBuffers}
use Rattle.more1090_generator.specs.States.{flat_of, state_from, no_state}
use Rattle.tape_sections.specs.Sections.{taps_offset, draws_offset, tape_sps, head_length}
use Rattle.tape_text.specs.Text.{run_text, refused_text}
use Rattle.tape_head.specs.declared.Beginning.{Beginning}
use Rattle.tape_head.specs.Head.{head_of}
use Rattle.tape_feed.specs.declared.Feed.{Feed}
use Rattle.tape_feed.specs.Verdict.{start_of}
use Rattle.tape_feed.specs.FeedModel.{Fed, called_of}
use Rattle.more1090_tape.specs.declared.FlatTape.{FlatTape}
use Rattle.more1090_tape.specs.declared.FlatBeginning.{FlatBeginning}
use Rattle.more1090_tape.specs.declared.FlatEnding.{FlatEnding}

-- how many bytes of a tape stand before its noise, as far as its first bytes say: the settings, then as far as the draws' count, then all
unfoldable pub head_wanted : List ℕ → ℕ
head_wanted first = cond (ltb (length first) taps_offset) taps_offset (cond (ltb (length first) (draws_offset (tape_sps first) + 4)) (draws_offset (tape_sps first) + 4) (head_length first))

-- a run between two chunks: refusal 0 is none, stop 5 is none
unfoldable pub tape_of : Feed → ℕ → ℕ → ℕ → ℕ → FlatTape
tape_of f stop refusal value field = record { state = flat_of f.state; taken = f.taken; records = f.records; stop = stop; refusal = refusal; value = value; field = field }

unfoldable pub tape_then : Feed → Result Stop.Stop Refusal → FlatTape
tape_then f (Ok w) = tape_of f (stop_number w) 0 0 0
tape_then f (Err q) = tape_of f 5 (number_of q) (values_flat q).value (values_flat q).field

unfoldable pub tape_flat : Feed → FlatTape
tape_flat f = tape_then f f.answer

-- back, of a run that is not refused: a call does not look at the stop before it
unfoldable pub feed_from : FlatTape → Feed
feed_from t = record { state = state_from t.state; taken = t.taken; records = t.records; answer = Ok Stop.TheVariants.WantsNoise }

-- of a tape that is refused before its noise
unfoldable pub refused_tape : Refusal → FlatTape
refused_tape q = record { state = no_state; taken = 0; records = 0; stop = 5; refusal = number_of q; value = (values_flat q).value; field = (values_flat q).field }

-- what a tape begins with
unfoldable pub begun_flat : Result Beginning Refusal → FlatBeginning
begun_flat (Ok b) = record { tape = tape_flat (start_of b.state); draws_at = draws_offset (per_pulse b.state.setting) + 4; draws = b.draws; noise = b.noise }
begun_flat (Err q) = record { tape = refused_tape q; draws_at = 0; draws = 0; noise = 0 }

-- and what opening leaves in its buffers
pub record OpenLeft : Type 0 where
  pub beginning : FlatBeginning
  pub left : OpenBuffers

unfoldable pub open_left : List ℕ → OpenBuffers → OpenLeft
open_left head lent = record { beginning = begun_flat (head_of head lent).head; left = (head_of head lent).left }

-- a run and its buffers for writing
pub record FlatFed : Type 0 where
  pub tape : FlatTape
  pub memory : List Float
  pub output : List Float
  pub records : List ℕ

unfoldable pub fed_out : Fed → FlatFed
fed_out d = record { tape = tape_flat d.feed; memory = d.memory; output = d.output; records = d.records }

-- after a chunk of noise: one run call; once refused, all stays as it is
unfoldable pub flat_fed : List Float → List Float → List ℕ → List Float → FlatFed → FlatFed
flat_fed mode_s mode_ac draws noise d =
    cond (eqb d.tape.refusal 0) (fed_out (called_of mode_s mode_ac draws noise (record { feed = feed_from d.tape; memory = d.memory; output = d.output; records = d.records }))) d

-- an ending: refused, or done
unfoldable pub refused_ending : FlatTape → ℕ → ℕ → ℕ → FlatEnding
refused_ending t refusal value field = record { refusal = refusal; value = value; field = field; records = 0; samples = t.state.written }

unfoldable pub done_ending : FlatTape → FlatEnding
done_ending t = record { refusal = 0; value = 0; field = 0; records = t.records; samples = t.state.written }

-- of a run that was fed all its noise, with or without bytes left over
unfoldable pub answered_ending : FlatTape → Bool → FlatEnding
answered_ending t left = cond (eqb t.refusal 0) (cond (eqb t.stop 0 && not left) (done_ending t) (refused_ending t (number_of Tape) 0 0)) (refused_ending t t.refusal t.value t.field)

-- by how the noise section ends: 0 whole, 1 with bytes left over, any other number short
unfoldable pub flat_ending : FlatTape → ℕ → FlatEnding
flat_ending t end = cond (eqb end 0) (answered_ending t false) (cond (eqb end 1) (answered_ending t true) (refused_ending t (number_of Tape) 0 0))

-- the text of an ending, with the records of the run
unfoldable pub flat_text : FlatEnding → List ℕ → List ℕ
flat_text e records = cond (eqb e.refusal 0) (run_text records (length records / 66) e.samples) (refused_text e.refusal)
