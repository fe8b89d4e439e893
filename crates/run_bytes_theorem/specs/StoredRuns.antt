-- The claim on runs that are stored and taken up again (SPECIFICATION 16.4), hypothesis and claim in one statement: `StoredRuns`, at the end of this file.
-- Of the generator it cites the claim on every list of run calls (`run_theorem/specs/OpenedRuns`), and of a rack the definition of its calls.
use Rattle.std.specs.Prelude.{Option, Some, None, Result, Ok, Err, true, List, [], ◌∷◌, ◌++◌, ℕ, ◌≡◌, Float}
use Rattle.std.specs.Float.{binary32}
use Rattle.std.specs.Result.{result_unwrap_or}
use Rattle.rack.specs.declared.Rack.{Rack}
use Rattle.rack.specs.Calls as Racks
use Rattle.refusals.specs.declared.Refusal.{Refusal}
use Rattle.run_theory.specs.Demand3.{plain_output, plain_lines}
use Rattle.run_theory.specs.PlainBench as Bench
use Rattle.run_call.specs.Buffers.{Left, CallBuffers}
use Rattle.run_call.specs.CallModel.{run_left}
use Rattle.run_open.specs.Opening as Opening
use Rattle.run_theorem.specs.OpenedRuns as Runs
use Rattle.run_bytes.specs.declared.Restored.{Restored}
use Rattle.run_bytes.specs.declared.Unreadable.{Unreadable}
use Rattle.run_bytes.specs.Layout.{Held, held_fits, save_left}
use Rattle.run_bytes.specs.Reading.{Lent, restore_left}
use Rattle.run_bytes_theorem.specs.Typed.{AllOf, TypedAny}

-- what is done with a run: a run call, a call on the rack behind it, or it is stored in bytes, ended, and taken up again from these into other buffers
pub data Member : Type 0 where
  call : CallBuffers → Member
  feed : Racks.Call → Member
  stored : List ℕ → Lent → Member

-- the run that is taken up; where storing it or reading it back is refused, the one that was to be stored
abbrev pub with_buffers : Held → Lent → Result Restored Unreadable → Held
with_buffers h lent (Ok r) = record { state = r.state; mode_s = lent.mode_s; mode_ac = lent.mode_ac; memory = lent.memory; rack = r.rack; rack_memory = lent.rack_memory }
with_buffers h lent (Err q) = h

abbrev pub read_again : Held → Lent → List ℕ → Result (Unit {0}) Refusal → Held
read_again h lent bytes (Ok u) = with_buffers h (restore_left bytes lent).lent (restore_left bytes lent).answer
read_again h lent bytes (Err q) = h

abbrev pub taken_up : Held → List ℕ → Lent → Held
taken_up h bytes lent = read_again h lent (save_left h bytes).bytes (save_left h bytes).answer

-- a run call on what is held, and a call on its rack, if any
abbrev pub called : Held → CallBuffers → Left
called h c = run_left h.state h.mode_s h.mode_ac h.memory c.draws c.noise c.output c.records

abbrev pub with_rack : Held → Option Rack → List Float → Held
with_rack h rack memory = record { state = h.state; mode_s = h.mode_s; mode_ac = h.mode_ac; memory = h.memory; rack = rack; rack_memory = memory }

abbrev pub fed : Held → Option Rack → Racks.Call → Held
fed h None c = h
fed h (Some rack) c = with_rack h (Some (result_unwrap_or (Racks.run_left rack h.rack_memory c).answer rack)) (Racks.run_left rack h.rack_memory c).memory

-- what is held after a member
abbrev pub after : Held → Member → Held
after h (call c) = record { state = (called h c).ran.state; mode_s = h.mode_s; mode_ac = h.mode_ac; memory = (called h c).memory; rack = h.rack; rack_memory = h.rack_memory }
after h (feed c) = fed h h.rack c
after h (stored bytes lent) = taken_up h bytes lent

-- what is held after a list
abbrev pub after_all : Held → List Member → Held
after_all h [] = h
after_all h (m ∷ ms) = after_all (after h m) ms

-- what the run calls answer and leave, and what the calls on the rack do
abbrev pub run_answers : Held → List Member → List Left
run_answers h [] = []
run_answers h (call c ∷ ms) = called h c ∷ run_answers (after h (call c)) ms
run_answers h (feed c ∷ ms) = run_answers (after h (feed c)) ms
run_answers h (stored bytes lent ∷ ms) = run_answers (after h (stored bytes lent)) ms

abbrev pub feed_answer : Held → Option Rack → Racks.Call → List Racks.Left
feed_answer h None c = []
feed_answer h (Some rack) c = Racks.run_left rack h.rack_memory c ∷ []

abbrev pub feed_answers : Held → List Member → List Racks.Left
feed_answers h [] = []
feed_answers h (call c ∷ ms) = feed_answers (after h (call c)) ms
feed_answers h (feed c ∷ ms) = feed_answer h h.rack c ++ feed_answers (after h (feed c)) ms
feed_answers h (stored bytes lent ∷ ms) = feed_answers (after h (stored bytes lent)) ms

-- the calls of a list without storing
abbrev pub calls_of : List Member → List CallBuffers
calls_of [] = []
calls_of (call c ∷ ms) = c ∷ calls_of ms
calls_of (feed c ∷ ms) = calls_of ms
calls_of (stored bytes lent ∷ ms) = calls_of ms

abbrev pub feeds_of : List Member → List Racks.Call
feeds_of [] = []
feeds_of (call c ∷ ms) = feeds_of ms
feeds_of (feed c ∷ ms) = c ∷ feeds_of ms
feeds_of (stored bytes lent ∷ ms) = feeds_of ms

-- The samples that the rack takes are values of f32. So are the numbers of its memory, and its own are values of their types: the types of a program see to all three. Of the run it is shown.
abbrev pub TypedFeeds : List Member → Type 0
TypedFeeds [] = Unit {0}
TypedFeeds (call c ∷ ms) = TypedFeeds ms
TypedFeeds (feed c ∷ ms) = AllOf binary32 c.samples × TypedFeeds ms
TypedFeeds (stored bytes lent ∷ ms) = TypedFeeds ms

-- a run as opening left it, with a rack behind it or without
abbrev pub held : Runs.Run → Option Rack → List Float → Held
held r rack memory = record { state = r.state; mode_s = r.buffers.mode_s; mode_ac = r.buffers.mode_ac; memory = r.buffers.memory; rack = rack; rack_memory = memory }

-- the claim, on a run and a list: as if nothing had been stored
pub record Uninterrupted (r : Runs.Run) (rack : Option Rack) (memory : List Float) (ms : List Member) : Type 0 where
  -- Each run call answers and leaves what it does where the list is of run calls alone.
  pub answers : run_answers (held r rack memory) ms ≡ Runs.calls r (calls_of ms)
  -- So all samples and records are the plain run's on the draws taken and the noise used.
  pub samples : Runs.all_samples (run_answers (held r rack memory) ms) ≡ plain_output (Runs.gen r) (Runs.draws_taken r (calls_of ms)) (Bench.pairs (Runs.noise_used r (calls_of ms)))
  pub records : Runs.all_records (run_answers (held r rack memory) ms) ≡ plain_lines (Runs.gen r) (Runs.draws_taken r (calls_of ms))
  -- Storing it then is not refused for its lists: they have the lengths of its setting, if the rack's memory had its own. (`RoundTrip` says that it is then stored and read back.)
  pub storable : held_fits (held r rack memory) ≡ true → held_fits (after_all (held r rack memory) ms) ≡ true
  -- Each call on the rack, too.
  pub feeds : (k : Rack) → rack ≡ Some k → feed_answers (held r rack memory) ms ≡ Racks.runs_left k memory (feeds_of ms)

abbrev pub StoredRuns : Type 0
StoredRuns =
    (taps_s taps_ac : List Float) (settings : List ℕ) (given : Opening.OpenBuffers) (r : Runs.Run) → Runs.Opens taps_s taps_ac settings given r
    → (rack : Option Rack) (memory : List Float) → TypedAny rack → AllOf binary32 memory → (ms : List Member) → TypedFeeds ms → Uninterrupted r rack memory ms
