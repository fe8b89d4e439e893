-- The claim on a rack (SPECIFICATION 15.3), hypothesis and claim in one statement: `OpenedRacks`, at the end of this file. If opening answers a rack, then (a) to (d) hold of every list of calls on it, refused calls among them, with any buffers.
use Rattle.std.specs.Prelude.{Ok, is_ok, Bool, cond, List, [], ◌∷◌, ◌++◌, map, ◌≡◌, ℕ, ◌*◌, ◌<◌, Float, length, get_or, take, drop}
use Rattle.std.specs.Float.{nan}
use Rattle.std.specs.Result.{result_err}
use Rattle.rack.specs.declared.Rack.{Rack}
use Rattle.rack.specs.Feeds.{delayed}
use Rattle.rack.specs.Opening.{open_left}
use Rattle.rack.specs.Calls.{Call, Left, runs_left}
use Rattle.rack_theory.specs.PlainRack.{Seen, plain_calls}

-- ---- the hypothesis
-- a rack before its first call: its state, and the memory that opening left
pub record Opened : Type 0 where
  pub state : Rack
  pub memory : List Float

-- Opening with these delays and gains, given a memory, answers the rack and leaves its memory. (So the contract of `open` says it.)
pub record Opens (delays : List ℕ) (gains : List Float) (given : List Float) (r : Opened) : Type 0 where
  pub leaves : open_left given delays gains ≡ record { answer = Ok r.state; memory = r.memory }

-- ---- a list of calls on a rack
-- what each call answers and leaves, given the memory as the last call left it and the rack of the last accepted one (by the contract of `run`)
abbrev pub calls : Opened → List Call → List Left
calls r cs = runs_left r.state r.memory cs

abbrev pub is_accepted : Left → Bool
is_accepted l = is_ok l.answer

-- the samples of the accepted calls, joined in order
abbrev pub all_taken : List Call → List Left → List Float
all_taken [] ls = []
all_taken (c ∷ cs) [] = []
all_taken (c ∷ cs) (l ∷ ls) = cond (is_accepted l) c.samples [] ++ all_taken cs ls

-- the part of a call's room that is feed i's: as long as the call's samples, behind those of the feeds before it
abbrev pub part_of : ℕ → Call → Left → List Float
part_of i c l = take (length c.samples) (drop (i * length c.samples) l.room)

-- feed i's parts of the accepted calls, joined in order
abbrev pub all_of_feed : ℕ → List Call → List Left → List Float
all_of_feed i [] ls = []
all_of_feed i (c ∷ cs) [] = []
all_of_feed i (c ∷ cs) (l ∷ ls) = cond (is_accepted l) (part_of i c l) [] ++ all_of_feed i cs ls

abbrev pub samples_taken : Opened → List Call → List Float
samples_taken r cs = all_taken cs (calls r cs)

abbrev pub feed_written : Opened → ℕ → List Call → List Float
feed_written r i cs = all_of_feed i cs (calls r cs)

abbrev pub seen_of : (delays : List ℕ) (gains : List Float) → Left → Seen delays gains
seen_of delays gains l = record { refusal = result_err l.answer; room = l.room }

-- ---- the claim, on a rack opened with these delays and gains
pub record Fed (delays : List ℕ) (gains : List Float) (r : Opened) : Type 0 where
  -- The first n calls of a list answer and leave what the list of these n calls does. So whatever is claimed of every list holds after each call.
  pub first_calls : (cs : List Call) (n : ℕ) → take n (calls r cs) ≡ calls r (take n cs)
  -- (a) Each answer is the plain rack's, and so is the room after it, refused calls among them.
  pub answers : (cs : List Call) → map (seen_of delays gains) (calls r cs) ≡ plain_calls delays gains [] cs
  -- (b) Each feed so far is the samples taken, delayed and scaled; so it is as long as they are.
  pub feeds : (cs : List Call) (i : ℕ) → i < length delays → feed_written r i cs ≡ delayed (get_or gains i nan) (get_or delays i 0) (samples_taken r cs)
  pub as_long : (cs : List Call) (i : ℕ) → i < length delays → length (feed_written r i cs) ≡ length (samples_taken r cs)
  -- (c) Another opening with the same settings, whatever its memory held, opens the same rack.
  pub same_rack : (given' : List Float) (r' : Opened) → Opens delays gains given' r' → r ≡ r'
  -- (d) Another rack, with other feeds and more or fewer of them, one of which has the delay and gain of feed i: on any calls that take the same samples, cut elsewhere or not, the two feeds are the same.
  pub alike :
      (delays' : List ℕ) (gains' given' : List Float) (r' : Opened) → Opens delays' gains' given' r' → (i i' : ℕ) → i < length delays → i' < length delays'
      → get_or delays i 0 ≡ get_or delays' i' 0 → get_or gains i nan ≡ get_or gains' i' nan
      → (cs cs' : List Call) → samples_taken r cs ≡ samples_taken r' cs' → feed_written r i cs ≡ feed_written r' i' cs'

abbrev pub OpenedRacks : Type 0
OpenedRacks = (delays : List ℕ) (gains given : List Float) (r : Opened) → Opens delays gains given r → Fed delays gains r
