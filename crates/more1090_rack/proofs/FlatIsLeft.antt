-- `flat_is_left`: what C is answered is what `open_left` and `run_left` answer and leave, by the two cases of an answer.
use Rattle.std.specs.Prelude.{Result, Ok, Err}
use Rattle.std.specs.Option.{option_map_or}
use Rattle.std.specs.Result.{result_unwrap_or, result_err}
use mathlib.Core.Path.{◌≡◌, refl}
use mathlib.Core.List.{List, []}
use Prim.Native.Nat.{ℕ}
use lib.Ieee.{Float}
use Rattle.refusals.specs.declared.Refusal.{Refusal}
use Rattle.refusals.specs.Number.{number_of}
use Rattle.rack.specs.declared.Rack.{Rack}
use Rattle.rack.specs.Opening.{rack_of, open_left}
use Rattle.rack.specs.Calls.{Call, run_left}
use Rattle.more1090_rack.specs.Flat.{answer_flat, open_flat, run_flat}
use Rattle.more1090_rack.specs.FlatIsLeft.{OpenIsLeft, RunIsLeft, FlatIsLeft}

rack_answered : (before : Rack) (r : Result Rack Refusal) → (answer_flat before r).rack ≡ result_unwrap_or r before
unfolding answer_flat
rack_answered before (Ok rack) = refl
rack_answered before (Err q) = refl

refusal_answered : (before : Rack) (r : Result Rack Refusal) → (answer_flat before r).refusal ≡ option_map_or number_of (result_err r) 0
unfolding answer_flat
refusal_answered before (Ok rack) = refl
refusal_answered before (Err q) = refl

open_is_left : (memory : List Float) (delays : List ℕ) (gains : List Float) → OpenIsLeft memory delays gains
unfolding open_flat
open_is_left memory delays gains =
    let r = (open_left memory delays gains).answer in
    record { rack = rack_answered (rack_of [] []) r; refusal = refusal_answered (rack_of [] []) r; memory_left = refl }

run_is_left : (before : Rack) (memory : List Float) (c : Call) → RunIsLeft before memory c
unfolding run_flat
run_is_left before memory c =
    let r = (run_left before memory c).answer in
    record { rack = rack_answered before r; refusal = refusal_answered before r; memory_left = refl; room_left = refl }

pub flat_is_left : FlatIsLeft
flat_is_left = record { opens = open_is_left; runs = run_is_left }
