-- A run that is fed its noise chunk by chunk, as the code does it: each chunk is a run call, given the draws that are not taken and the room behind the records written.
use Rattle.std.specs.Prelude.{Result, Ok, Err}
use Rattle.refusals.specs.declared.Refusal.{Refusal}
use Rattle.run_steps.specs.declared.Stop.{Stop}
use Rattle.std.specs.Prelude.{ℕ, ◌+◌, ◌*◌, ◌%◌, ◌^◌, List, ◌++◌, take, drop, Float}
use Rattle.run_call.specs.declared.Ran.{Ran}
use Rattle.run_call.specs.Buffers.{Left}
use Rattle.run_call.specs.CallModel.{run_left}
use Rattle.tape_feed.specs.declared.Feed.{Feed}

-- a run so far, and its buffers for writing
pub record Fed : Type 0 where
  pub feed : Feed
  pub memory : List Float
  pub output : List Float
  pub records : List ℕ

-- the run after a call; counts are kept modulo 2^64, which no tape reaches
unfoldable pub feed_after : Feed → Ran → Feed
feed_after f r = record {
  state = r.state;
  taken = (f.taken + r.counts.taken) % 2 ^ 64;
  records = (f.records + r.counts.records) % 2 ^ 64;
  answer = r.answer;
}

unfoldable pub fed_after : Feed → List ℕ → Left → Fed
fed_after f records l = record { feed = feed_after f l.ran; memory = l.memory; output = l.output; records = take (66 * f.records) records ++ l.records }

module _ (mode_s mode_ac : List Float) (draws : List ℕ) (noise : List Float) where
  -- one run call
  unfoldable pub called_of : Fed → Fed
  called_of d =
      fed_after d.feed d.records (run_left d.feed.state mode_s mode_ac d.memory (drop (65 * d.feed.taken) draws) noise d.output (drop (66 * d.feed.records) d.records))

  -- once refused, a run stays as it is
  unfoldable pub fed_then : Fed → (Result Stop Refusal) → Fed
  fed_then d (Ok w) = called_of d
  fed_then d (Err q) = d

  -- the run after a chunk of noise
  unfoldable pub fed_of : Fed → Fed
  fed_of d = fed_then d d.feed.answer
