-- `read_back_in_c` and `refuses_in_c` are terms of the claims `ReadBackInC` and `RefusesInC`.
use Rattle.std.specs.Prelude.{is_ok, Result, Ok, Err}
use Prim.Native.Nat.{ℕ}
use mathlib.Core.Path.{◌≡◌, refl, sym, ap, ◌∙◌}
use mathlib.Core.Bool.{Bool, true, false}
use native.Mathlib.Omega.{arith}
use Rattle.run_call.specs.declared.State.{State}
use Rattle.more1090_generator.specs.States.{flat_of, state_from}
use Rattle.more1090_generator.proofs.StateBack.{state_back}
use Rattle.run_bytes.specs.declared.Restored.{Restored}
use Rattle.run_bytes.specs.declared.Unreadable.{Unreadable}
use Rattle.run_bytes.specs.declared.Unreadable.TheVariants.{Buffers, Short, Foreign, Version, Damaged}
use Rattle.run_bytes.specs.Layout.{Saved, save_left, stored_bytes}
use Rattle.run_bytes.specs.Reading as Reading
use Rattle.run_bytes.proofs.Lengths.{false-true}
use Rattle.run_bytes_theorem.proofs.RoundTrip.{read_back}
use Rattle.run_bytes_theorem.proofs.Damage.{refuses}
use Rattle.more1090_bytes.specs.Flat.{saved_flat, flat_saved, FlatSaved, save_flat, restored_flat, FlatTaken, restore_flat}
use Rattle.more1090_bytes.specs.StoredInC.{held_in_c, ReadBackInC, RefusesInC}

taken_flat : Reading.Taken → FlatTaken
taken_flat t = record { answered = restored_flat t.answer; lent = t.lent }

pub read_back_in_c : ReadBackInC
unfolding save_flat restore_flat flat_saved saved_flat restored_flat taken_flat
read_back_in_c s mode_s mode_ac memory rack rack_memory t f bytes l lent n =
    let r = read_back (held_in_c s mode_s mode_ac memory rack rack_memory) t f bytes l lent n in
    (ap (λ (x : State). flat_saved (save_left (held_in_c x mode_s mode_ac memory rack rack_memory) bytes)) (state_back s) ∙ ap flat_saved r.0, ap taken_flat r.1)

some_number : (q : Unreadable) → Reading.number_of q ≡ 0 → ⊥
unfolding Reading.number_of
some_number Buffers e = absurd (omega (arith, e))
some_number Short e = absurd (omega (arith, e))
some_number Foreign e = absurd (omega (arith, e))
some_number Version e = absurd (omega (arith, e))
some_number Damaged e = absurd (omega (arith, e))

refused_flat : (a : Result Restored Unreadable) → is_ok a ≡ false → (restored_flat a).refusal ≡ 0 → ⊥
unfolding restored_flat
refused_flat (Ok r) e z = false-true (sym e)
refused_flat (Err q) e z = some_number q z

pub refuses_in_c : RefusesInC
unfolding restore_flat
refuses_in_c s mode_s mode_ac memory rack rack_memory t f bytes u d n lent =
    let r = refuses (held_in_c s mode_s mode_ac memory rack rack_memory) t f bytes u d n lent in
    (refused_flat (Reading.restore_left bytes lent).answer r.answer, r.lent_left)
