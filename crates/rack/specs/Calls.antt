-- Calls on a rack (SPECIFICATION 15.2): refusal 9, the feeds that a call writes, and what it leaves; on any state and any buffers.
use Rattle.std.specs.Prelude.{Result, Ok, Err, Bool, cond, ◌&&◌, List, [], ◌∷◌, ◌++◌, ℕ, zero, suc, ◌+◌, ◌*◌, ◌/◌, ◌%◌, min, eqb, Float, length, get_or}
use Rattle.std.specs.Float.{nan}
use Rattle.std.specs.Result.{result_unwrap_or}
use Rattle.refusals.specs.declared.Refusal.{Refusal}
use Rattle.refusals.specs.declared.Refusal.TheVariants.{Length}
use Rattle.rack.specs.declared.Rack.{Rack}
use Rattle.rack.specs.Feeds.{most_feeds, longest_delay, memory_length}
use Rattle.rack.specs.Memory.{feed_of, held_after}

-- the feeds of a state: more than sixteen are read as sixteen
unfoldable pub feed_count : ℕ → ℕ
feed_count feeds = min feeds most_feeds

-- the lengths that a call is accepted with, of its memory, samples and room; else it is refused with 9
unfoldable pub lengths_fit : ℕ → ℕ → ℕ → ℕ → Bool
lengths_fit count memory samples room = eqb memory memory_length && eqb (samples % 2) 0 && eqb room (count * samples)

-- feed i, of these delays, gains and samples seen
unfoldable pub feed_at : ℕ → List ℕ → List Float → ℕ → List Float → List Float → List Float
feed_at i delays gains seen memory samples = feed_of (get_or gains i nan) (get_or delays i 0) seen memory samples

-- the first feeds, feed 0's first
unfoldable pub feeds_up_to : ℕ → List ℕ → List Float → ℕ → List Float → List Float → List Float
feeds_up_to zero delays gains seen memory samples = []
feeds_up_to (suc i) delays gains seen memory samples = feeds_up_to i delays gains seen memory samples ++ feed_at i delays gains seen memory samples

-- the rack after n numbers more: the samples seen are counted up to 4,095
unfoldable pub rack_after : Rack → ℕ → Rack
rack_after rack n = record { feeds = rack.feeds; seen = min (rack.seen + n / 2) longest_delay; delays = rack.delays; gains = rack.gains }

-- a call: samples to read, and room to write the feeds
pub record Call : Type 0 where
  pub samples : List Float
  pub room : List Float

-- what a call answers, and its buffers afterwards
pub record Left : Type 0 where
  pub answer : Result Rack Refusal
  pub memory : List Float
  pub room : List Float

-- A refused call leaves both buffers as they are.
unfoldable pub run_left : Rack → List Float → Call → Left
run_left rack memory c =
    cond (lengths_fit (feed_count rack.feeds) (length memory) (length c.samples) (length c.room))
    (record {
      answer = Ok (rack_after rack (length c.samples));
      memory = held_after memory c.samples;
      room = feeds_up_to (feed_count rack.feeds) rack.delays rack.gains rack.seen memory c.samples;
    })
    (record { answer = Err Length; memory = memory; room = c.room })

-- a list of calls, each given the memory as the last one left it and the rack that the last accepted one answered
unfoldable pub runs_left : Rack → List Float → List Call → List Left
runs_left rack memory [] = []
runs_left rack memory (c ∷ cs) = run_left rack memory c ∷ runs_left (result_unwrap_or (run_left rack memory c).answer rack) (run_left rack memory c).memory cs
