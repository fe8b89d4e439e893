-- A run fed chunk by chunk: the run after all of them, the run calls that it makes, what each of them leaves, and the samples that they give.
use Rattle.std.specs.Prelude.{Result, Ok, Err}
use Rattle.refusals.specs.declared.Refusal.{Refusal}
use Rattle.run_steps.specs.declared.Stop.{Stop}
use Rattle.std.specs.Prelude.{ℕ, ◌-◌, ◌*◌, List, [], ◌∷◌, ◌++◌, take, drop, Float}
use Rattle.run_call.specs.declared.State.{State}
use Rattle.run_call.specs.Buffers.{Left, CallBuffers}
use Rattle.run_call.specs.CallModel.{run_left}
use Rattle.tape_feed.specs.declared.Feed.{Feed}
use Rattle.tape_feed.specs.Verdict.{start_of}
use Rattle.tape_feed.specs.FeedModel.{Fed, fed_after, fed_of}

-- a run so far, between chunks
pub record Held : Type 0 where
  pub feed : Feed
  pub memory : List Float
  pub records : List ℕ

-- a run that nothing has been fed
unfoldable pub begun : State → List Float → List ℕ → Held
begun s memory records = record { feed = start_of s; memory = memory; records = records }

-- a chunk of noise, and the output that is given for it
pub record Chunk : Type 0 where
  pub noise : List Float
  pub output : List Float

unfoldable pub lend : Chunk → Held → Fed
lend c d = record { feed = d.feed; memory = d.memory; output = c.output; records = d.records }

unfoldable pub keep : Fed → Held
keep d = record { feed = d.feed; memory = d.memory; records = d.records }

module _ (mode_s mode_ac : List Float) (draws : List ℕ) where
  -- the run after every chunk
  unfoldable pub fed_all : Held → List Chunk → Held
  fed_all d [] = d
  fed_all d (c ∷ cs) = fed_all (keep (fed_of mode_s mode_ac draws c.noise (lend c d))) cs

  -- what the call for a chunk is given: the draws that are not taken, the chunk, and the room behind the records
  unfoldable pub lent_for : Held → Chunk → CallBuffers
  lent_for d c = record { draws = drop (65 * d.feed.taken) draws; noise = c.noise; output = c.output; records = drop (66 * d.feed.records) d.records }

  unfoldable pub left_for : Held → Chunk → Left
  left_for d c = run_left d.feed.state mode_s mode_ac d.memory (drop (65 * d.feed.taken) draws) c.noise c.output (drop (66 * d.feed.records) d.records)

  -- the run after what a call left
  unfoldable pub held_after : Held → Left → Held
  held_after d l = keep (fed_after d.feed d.records l)

  -- the calls, none once one was refused
  unfoldable pub lents : List Chunk → (Result Stop Refusal) → Held → List CallBuffers
  lents [] a d = []
  lents (c ∷ cs) (Err q) d = []
  lents (c ∷ cs) (Ok w) d = lent_for d c ∷ lents cs (left_for d c).ran.answer (held_after d (left_for d c))

  -- what they leave
  unfoldable pub lefts : List Chunk → (Result Stop Refusal) → Held → List Left
  lefts [] a d = []
  lefts (c ∷ cs) (Err q) d = []
  lefts (c ∷ cs) (Ok w) d = left_for d c ∷ lefts cs (left_for d c).ran.answer (held_after d (left_for d c))

  -- the run after what the calls left
  unfoldable pub feed_lefts : Held → List Left → Held
  feed_lefts d [] = d
  feed_lefts d (l ∷ ls) = feed_lefts (held_after d l) ls

  -- the samples that chunks give, as they are taken chunk by chunk: of each output, two numbers for each sample that the chunk brought
  unfoldable pub samples_fed : Held → List Chunk → List Float
  samples_fed d [] = []
  samples_fed d (c ∷ cs) =
      let f = fed_of mode_s mode_ac draws c.noise (lend c d) in
      take (2 * (f.feed.state.written - d.feed.state.written)) f.output ++ samples_fed (keep f) cs
