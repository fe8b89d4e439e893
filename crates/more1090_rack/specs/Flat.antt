-- What a rack's calls answer and leave, as C has it: the rack for the next call, and the refusal's number (SPECIFICATION 3.1), or 0.
use Rattle.std.specs.Prelude.{Result, Ok, Err, [], List, ℕ, Float}
use Rattle.refusals.specs.declared.Refusal.{Refusal}
use Rattle.refusals.specs.Number.{number_of}
use Rattle.rack.specs.declared.Rack.{Rack}
use Rattle.rack.specs.Opening.{rack_of, open_left}
use Rattle.rack.specs.Calls.{Call, run_left}
use Rattle.more1090_rack.specs.declared.Answered.{Answered}

-- the rack that is answered, or the one of before the call
unfoldable pub answer_flat : Rack → Result Rack Refusal → Answered
answer_flat before (Ok rack) = record { rack = rack; refusal = 0 }
answer_flat before (Err q) = record { rack = before; refusal = number_of q }

-- what an opening answers, and its memory afterwards
pub record FlatOpenLeft : Type 0 where
  pub answered : Answered
  pub memory : List Float

-- refused, it answers a rack of zeros
unfoldable pub open_flat : List Float → List ℕ → List Float → FlatOpenLeft
open_flat memory delays gains = record { answered = answer_flat (rack_of [] []) (open_left memory delays gains).answer; memory = (open_left memory delays gains).memory }

-- what a call answers, and its buffers afterwards
pub record FlatRunLeft : Type 0 where
  pub answered : Answered
  pub memory : List Float
  pub room : List Float

-- refused, it answers the rack that it was given
unfoldable pub run_flat : Rack → List Float → Call → FlatRunLeft
run_flat rack memory c = record { answered = answer_flat rack (run_left rack memory c).answer; memory = (run_left rack memory c).memory; room = (run_left rack memory c).room }
