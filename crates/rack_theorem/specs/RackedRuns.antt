-- The claim on a rack behind a run (SPECIFICATION 15.4), hypothesis and claim in one statement: `RackedRuns`, at the end of this file.
-- Of the generator it cites the claim on every list of run calls (`run_theorem/specs/OpenedRuns`) and nothing else; of the rack its own (`rack_theory/specs/OpenedRacks`).
use Rattle.std.specs.Prelude.{None}
use Rattle.std.specs.Prelude.{List, [], ◌∷◌, ◌++◌, ◌≡◌, ℕ, ◌*◌, ◌<◌, Float, length, get_or, take}
use Rattle.std.specs.Float.{nan}
use Rattle.run_theory.specs.PlainRun.{time_of}
use Rattle.run_theory.specs.PlainBench as Bench
use Rattle.run_theory.specs.Demand3.{Prefix, plain_output}
use Rattle.run_generator.specs.Instance.{RepresentableDraw}
use Rattle.run_call.specs.Buffers.{Left, CallBuffers}
use Rattle.run_open.specs.Opening as Opening
use Rattle.run_theorem.specs.OpenedRuns as Runs
use Rattle.rack.specs.Feeds.{delayed}
use Rattle.rack.specs.Calls as Rack
use Rattle.rack_theory.specs.OpenedRacks as Racks

-- The rack calls took what the run calls wrote, in whatever parts, refused rack calls among them.
abbrev pub TookAll : (r : Runs.Run) → List CallBuffers → (k : Racks.Opened) → List Rack.Call → Type 0
TookAll r cs k ks = Racks.samples_taken k ks ≡ Runs.samples_written r cs

-- what a run call wrote
abbrev pub written : Left → List Float
written l = take (2 * l.ran.counts.samples) l.output

-- a rack call for each run call, on what that wrote
abbrev pub call_each : List Left → List (List Float) → List Rack.Call
call_each [] rooms = []
call_each (l ∷ ls) [] = []
call_each (l ∷ ls) (room ∷ rooms) = record { samples = written l; room = room } ∷ call_each ls rooms

-- a room for each of them, of as many numbers for each feed
abbrev pub RoomEach : ℕ → List Left → List (List Float) → Type 0
RoomEach feeds [] rooms = Unit {0}
RoomEach feeds (l ∷ ls) [] = ⊥
RoomEach feeds (l ∷ ls) (room ∷ rooms) = (length room ≡ feeds * length (written l)) × RoomEach feeds ls rooms

-- the claim, on a run and a rack that are opened
pub record Racked (taps_s taps_ac : List Float) (settings : List ℕ) (r : Runs.Run) (delays : List ℕ) (gains : List Float) (k : Racks.Opened) : Type 0 where
  -- A rack call for each run call, on what that wrote, takes all of it.
  pub took_each : (cs : List CallBuffers) (rooms : List (List Float)) → RoomEach (length delays) (Runs.calls r cs) rooms → TookAll r cs k (call_each (Runs.calls r cs) rooms)
  -- Feed i is the plain run on the draws taken and the noise used, delayed and scaled.
  pub plain :
      (cs : List CallBuffers) (ks : List Rack.Call) → TookAll r cs k ks → (i : ℕ) → i < length delays
      → Racks.feed_written k i ks ≡ delayed (get_or gains i nan) (get_or delays i 0) (plain_output (Runs.gen r) (Runs.draws_taken r cs) (Bench.pairs (Runs.noise_used r cs)))
  -- It stays a first part of that when any noise, and any draws in range that the state does not refuse, are put after.
  pub stays :
      (cs : List CallBuffers) (ks : List Rack.Call) → TookAll r cs k ks → (i : ℕ) → i < length delays → (ds : List RepresentableDraw) (vs : List Float)
      → Bench.draw_refusal (Runs.gen r) (time_of (Runs.gen r) (Runs.gen r).t0 (Runs.draws_taken r cs)) (Runs.bench r cs).mark ds ≡ None
      → Prefix (Racks.feed_written k i ks) (delayed (get_or gains i nan) (get_or delays i 0) (plain_output (Runs.gen r) (Runs.draws_taken r cs ++ ds) (Bench.pairs (Runs.noise_used r cs ++ vs))))
  -- After Done each feed is as long as the run.
  pub as_long : (cs : List CallBuffers) (ks : List Rack.Call) → TookAll r cs k ks → Runs.ReachesDone (Runs.calls r cs) → (i : ℕ) → i < length delays → length (Racks.feed_written k i ks) ≡ 2 * r.state.total
  -- Cut elsewhere, with another opening of the run and another rack, whose feed i' has the delay and gain of feed i: lists alike in draws taken and noise used, that reach Done, give the same feed.
  pub alike :
      (given' : Opening.OpenBuffers) (r' : Runs.Run) → Runs.Opens taps_s taps_ac settings given' r'
      → (delays' : List ℕ) (gains' given'' : List Float) (k' : Racks.Opened) → Racks.Opens delays' gains' given'' k'
      → (i i' : ℕ) → i < length delays → i' < length delays' → get_or delays i 0 ≡ get_or delays' i' 0 → get_or gains i nan ≡ get_or gains' i' nan
      → (cs cs' : List CallBuffers) (ks ks' : List Rack.Call) → TookAll r cs k ks → TookAll r' cs' k' ks'
      → Runs.ReachesDone (Runs.calls r cs) → Runs.ReachesDone (Runs.calls r' cs') → Runs.draws_taken r cs ≡ Runs.draws_taken r' cs' → Runs.noise_used r cs ≡ Runs.noise_used r' cs'
      → Racks.feed_written k i ks ≡ Racks.feed_written k' i' ks'

abbrev pub RackedRuns : Type 0
RackedRuns =
    (taps_s taps_ac : List Float) (settings : List ℕ) (given : Opening.OpenBuffers) (r : Runs.Run) → Runs.Opens taps_s taps_ac settings given r
    → (delays : List ℕ) (gains given' : List Float) (k : Racks.Opened) → Racks.Opens delays gains given' k
    → Racked taps_s taps_ac settings r delays gains k
