-- What C is answered is what `open_left` and `run_left` answer and leave. The claim on lists of calls (rack_theory) is over these.
use Rattle.std.specs.Prelude.{[], ◌≡◌, List, ℕ, Float}
use Rattle.std.specs.Option.{option_map_or}
use Rattle.std.specs.Result.{result_unwrap_or, result_err}
use Rattle.refusals.specs.Number.{number_of}
use Rattle.rack.specs.declared.Rack.{Rack}
use Rattle.rack.specs.Opening.{rack_of, open_left}
use Rattle.rack.specs.Calls.{Call, run_left}
use Rattle.more1090_rack.specs.Flat.{open_flat, run_flat}

pub record OpenIsLeft (memory : List Float) (delays : List ℕ) (gains : List Float) : Type 0 where
  -- the rack that is opened, or one of zeros
  pub rack : (open_flat memory delays gains).answered.rack ≡ result_unwrap_or (open_left memory delays gains).answer (rack_of [] [])
  -- the refusal's number, or 0
  pub refusal : (open_flat memory delays gains).answered.refusal ≡ option_map_or number_of (result_err (open_left memory delays gains).answer) 0
  pub memory_left : (open_flat memory delays gains).memory ≡ (open_left memory delays gains).memory

pub record RunIsLeft (before : Rack) (memory : List Float) (c : Call) : Type 0 where
  -- the rack that `runs_left` gives the next call
  pub rack : (run_flat before memory c).answered.rack ≡ result_unwrap_or (run_left before memory c).answer before
  pub refusal : (run_flat before memory c).answered.refusal ≡ option_map_or number_of (result_err (run_left before memory c).answer) 0
  pub memory_left : (run_flat before memory c).memory ≡ (run_left before memory c).memory
  pub room_left : (run_flat before memory c).room ≡ (run_left before memory c).room

pub record FlatIsLeft : Type 0 where
  pub opens : (memory : List Float) (delays : List ℕ) (gains : List Float) → OpenIsLeft memory delays gains
  pub runs : (before : Rack) (memory : List Float) (c : Call) → RunIsLeft before memory c
