-- What storing a run and reading it back answer and leave, as C has it: the refusal's number (SPECIFICATION 3.1), or 0.
use Rattle.std.specs.Prelude.{Option, Some, None, Result, Ok, Err, cond, List, [], ℕ, eqb, Float, length}
use Rattle.refusals.specs.declared.Refusal.{Refusal}
use Rattle.refusals.specs.Number as Refusals
use Rattle.rack.specs.declared.Rack.{Rack}
use Rattle.rack.specs.Opening.{rack_of}
use Rattle.more1090_generator.specs.declared.FlatState.{FlatState}
use Rattle.more1090_generator.specs.States.{flat_of, state_from, no_state}
use Rattle.run_bytes.specs.declared.Restored.{Restored}
use Rattle.run_bytes.specs.declared.Unreadable.{Unreadable}
use Rattle.run_bytes.specs.Layout.{Saved, save_left}
use Rattle.run_bytes.specs.Reading as Reading
use Rattle.more1090_bytes.specs.declared.FlatRestored.{FlatRestored}

-- a rack is there where it has a memory
unfoldable pub rack_given : Rack → List Float → Option Rack
rack_given rack rack_memory = cond (eqb (length rack_memory) 0) None (Some rack)

-- what `more1090_save` answers, and its bytes afterwards
pub record FlatSaved : Type 0 where
  pub refusal : ℕ
  pub bytes : List ℕ

unfoldable pub saved_flat : Result (Unit {0}) Refusal → ℕ
saved_flat (Ok u) = 0
saved_flat (Err q) = Refusals.number_of q

unfoldable pub flat_saved : Saved → FlatSaved
flat_saved s = record { refusal = saved_flat s.answer; bytes = s.bytes }

unfoldable pub save_flat : FlatState → List Float → List Float → List Float → Rack → List Float → List ℕ → FlatSaved
save_flat f mode_s mode_ac memory rack rack_memory bytes =
    flat_saved (save_left (record { state = state_from f; mode_s = mode_s; mode_ac = mode_ac; memory = memory; rack = rack_given rack rack_memory; rack_memory = rack_memory }) bytes)

-- the rack, or one of zeros where there is none
unfoldable pub rack_flat : Option Rack → Rack
rack_flat None = rack_of [] []
rack_flat (Some r) = r

-- refused, the state and the rack are zeros
unfoldable pub restored_flat : Result Restored Unreadable → FlatRestored
restored_flat (Ok r) = record { state = flat_of r.state; rack = rack_flat r.rack; refusal = 0 }
restored_flat (Err q) = record { state = no_state; rack = rack_of [] []; refusal = Reading.number_of q }

-- what `more1090_restore` answers, and its buffers afterwards
pub record FlatTaken : Type 0 where
  pub answered : FlatRestored
  pub lent : Reading.Lent

unfoldable pub restore_flat : List ℕ → Reading.Lent → FlatTaken
restore_flat bytes lent = record { answered = restored_flat (Reading.restore_left bytes lent).answer; lent = (Reading.restore_left bytes lent).lent }
