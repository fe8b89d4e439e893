-- The claims on stored runs for callers in C (SPECIFICATION 16.4): `ReadBackInC` and `RefusesInC`, at the end of this file. The state is one that a call answered, so that of a run in C's numbers.
use Rattle.std.specs.Prelude.{is_some, List, ℕ, ◌≡◌, true, Float, length}
use Rattle.rack.specs.declared.Rack.{Rack}
use Rattle.run_theory.specs.Each.{Each}
use Rattle.run_call.specs.declared.State.{State}
use Rattle.more1090_generator.specs.States.{flat_of}
use Rattle.run_bytes.specs.Layout.{Held, held_fits, stored_length, stored_bytes}
use Rattle.run_bytes.specs.Reading.{Lent}
use Rattle.run_bytes_theorem.specs.Typed.{Typed}
use Rattle.run_bytes_theorem.specs.RoundTrip.{AsLong, lists_of}
use Rattle.run_bytes_theorem.specs.Damage.{Byte, Differ}
use Rattle.more1090_bytes.specs.Flat.{rack_given, save_flat, rack_flat, restore_flat}

-- what a caller holds: the run, and a rack where it has a memory
abbrev pub held_in_c : State → List Float → List Float → List Float → Rack → List Float → Held
held_in_c s mode_s mode_ac memory rack rack_memory = record { state = s; mode_s = mode_s; mode_ac = mode_ac; memory = memory; rack = rack_given rack rack_memory; rack_memory = rack_memory }

-- Stored in as many bytes as it needs, and read back into any buffers as long, the run is what it was: no call is refused.
abbrev pub ReadBackInC : Type 0
ReadBackInC =
    (s : State) (mode_s mode_ac memory : List Float) (rack : Rack) (rack_memory : List Float) → let h = held_in_c s mode_s mode_ac memory rack rack_memory in
    Typed h → held_fits h ≡ true → (bytes : List ℕ) → length bytes ≡ stored_length s.setting (is_some h.rack) → (lent : Lent) → AsLong h lent
    → (save_flat (flat_of s) mode_s mode_ac memory rack rack_memory bytes ≡ record { refusal = 0; bytes = stored_bytes h })
    × (restore_flat (stored_bytes h) lent ≡ record { answered = record { state = flat_of s; rack = rack_flat h.rack; refusal = 0 }; lent = lists_of h })

-- What `more1090_save` writes is refused where one byte or two have changed, and no buffer is changed.
abbrev pub RefusesInC : Type 0
RefusesInC =
    (s : State) (mode_s mode_ac memory : List Float) (rack : Rack) (rack_memory : List Float) → let h = held_in_c s mode_s mode_ac memory rack rack_memory in
    Typed h → held_fits h ≡ true → (bytes : List ℕ) → Each Byte bytes → Differ 2 (stored_bytes h) bytes → (stored_bytes h ≡ bytes → ⊥) → (lent : Lent)
    → ((restore_flat bytes lent).answered.refusal ≡ 0 → ⊥) × ((restore_flat bytes lent).lent ≡ lent)
