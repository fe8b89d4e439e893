-- The claim on a run that is stored and read back: `ReadBack`, at the end of this file. Every float is compared as a value, so bit for bit, but for the patterns of a NaN, of which the kit's floats have one.
use Rattle.std.specs.Prelude.{Ok, is_some, List, ℕ, ◌≡◌, true, length}
use Rattle.run_bytes.specs.Layout.{Held, held_fits, stored_length, stored_bytes, save_left}
use Rattle.run_bytes.specs.Reading.{Lent, restore_left}
use Rattle.run_bytes_theorem.specs.Typed.{Typed}

-- buffers as long as the run's lists, whatever they hold
pub record AsLong (h : Held) (lent : Lent) : Type 0 where
  pub mode_s : length lent.mode_s ≡ length h.mode_s
  pub mode_ac : length lent.mode_ac ≡ length h.mode_ac
  pub memory : length lent.memory ≡ length h.memory
  pub rack_memory : length lent.rack_memory ≡ length h.rack_memory

-- the lists of a run
abbrev pub lists_of : Held → Lent
lists_of h = record { mode_s = h.mode_s; mode_ac = h.mode_ac; memory = h.memory; rack_memory = h.rack_memory }

-- A run with lists of the lengths of its setting is stored, in as many bytes as it needs, whatever they held; and read back from these, into any buffers as long, it is the run.
abbrev pub ReadBack : Type 0
ReadBack = (h : Held) → Typed h → held_fits h ≡ true → (bytes : List ℕ) → length bytes ≡ stored_length h.state.setting (is_some h.rack) → (lent : Lent) → AsLong h lent
    → (save_left h bytes ≡ record { answer = Ok tt; bytes = stored_bytes h }) × (restore_left (stored_bytes h) lent ≡ record { answer = Ok (record { state = h.state; rack = h.rack }); lent = lists_of h })
