-- `save` meets its contract: the lengths are right, and all bytes are written.
use mathlib.Core.Path.{◌≡◌, refl}
use Prim.Native.Nat.{ℕ, ◌-◌}
use native.Mathlib.Omega.{arith}
use lib.ListN.{length}
use Rattle.std.specs.Prelude.{is_some}
use Rattle.run_bytes.specs.Layout.{held_fits, stored_bytes, body_of, Held}
use Rattle.run_bytes.proofs.Lengths.{total, small, some, tested}
use Rattle.run_bytes.proofs.Parts.{all_written, saved}
use Rattle.run_bytes.proofs.save.Goals as goal

pub put_body-requires : goal.put_body-requires
put_body-requires c =
    let f = tested c.args.state.setting (length c.args.prototypes.mode_s.now) (length c.args.prototypes.mode_ac.now) (length c.args.memory.now) (length c.args.rack_memory.now) (length c.args.bytes.now) refl c.is_some-racked.ensures c.lists_fit-fits.ensures c.if-not-fits.false c.if-bytes-stored_len.false c.stored_len.ensures.0 in
    omega (arith, total c.args.state.setting (is_some c.args.rack) (length c.args.prototypes.mode_s.now) (length c.args.prototypes.mode_ac.now) (length c.args.memory.now) (length c.args.rack_memory.now) (length c.args.bytes.now) f.0 f.1)

pub overflow_sub-bytes : goal.overflow_sub-bytes
overflow_sub-bytes c =
    let f = tested c.args.state.setting (length c.args.prototypes.mode_s.now) (length c.args.prototypes.mode_ac.now) (length c.args.memory.now) (length c.args.rack_memory.now) (length c.args.bytes.now) refl c.is_some-racked.ensures c.lists_fit-fits.ensures c.if-not-fits.false c.if-bytes-stored_len.false c.stored_len.ensures.0 in
    omega (arith, c.put_body.auto.out, some c.args.state.setting (is_some c.args.rack) (length c.args.prototypes.mode_s.now) (length c.args.prototypes.mode_ac.now) (length c.args.memory.now) (length c.args.rack_memory.now) (length c.args.bytes.now) f.0 f.1)

pub put_check-requires : goal.put_check-requires
put_check-requires c =
    let f = tested c.args.state.setting (length c.args.prototypes.mode_s.now) (length c.args.prototypes.mode_ac.now) (length c.args.memory.now) (length c.args.rack_memory.now) (length c.args.bytes.now) refl c.is_some-racked.ensures c.lists_fit-fits.ensures c.if-not-fits.false c.if-bytes-stored_len.false c.stored_len.ensures.0 in
    (omega (arith, c.put_body.auto.out, some c.args.state.setting (is_some c.args.rack) (length c.args.prototypes.mode_s.now) (length c.args.prototypes.mode_ac.now) (length c.args.memory.now) (length c.args.rack_memory.now) (length c.args.bytes.now) f.0 f.1), omega (arith, c.put_body.auto.out, small c.args.state.setting (is_some c.args.rack) (length c.args.prototypes.mode_s.now) (length c.args.prototypes.mode_ac.now) (length c.args.memory.now) (length c.args.rack_memory.now) (length c.args.bytes.now) f.0 f.1))

pub returns : goal.returns
unfolding held_fits stored_bytes
returns c =
    let h : Held = record { state = c.args.state; mode_s = c.args.prototypes.mode_s.now; mode_ac = c.args.prototypes.mode_ac.now; memory = c.args.memory.now; rack = c.args.rack; rack_memory = c.args.rack_memory.now } in
    let f = tested c.args.state.setting (length c.args.prototypes.mode_s.now) (length c.args.prototypes.mode_ac.now) (length c.args.memory.now) (length c.args.rack_memory.now) (length c.args.bytes.now) refl c.is_some-racked.ensures c.lists_fit-fits.ensures c.if-not-fits.false c.if-bytes-stored_len.false c.stored_len.ensures.0 in
    let n : ℕ = length c.put_body.new.out - 16 in
    let l : length (body_of h) ≡ n = omega (arith, c.put_body.ensures.1, c.put_body.auto.out, total c.args.state.setting (is_some c.args.rack) (length c.args.prototypes.mode_s.now) (length c.args.prototypes.mode_ac.now) (length c.args.memory.now) (length c.args.rack_memory.now) (length c.args.bytes.now) f.0 f.1) in
    saved h c.args.bytes.now c.put_check.new.out f.0 f.1 (all_written (body_of h) c.args.bytes.now n l (omega (arith, c.put_body.auto.out, some c.args.state.setting (is_some c.args.rack) (length c.args.prototypes.mode_s.now) (length c.args.prototypes.mode_ac.now) (length c.args.memory.now) (length c.args.rack_memory.now) (length c.args.bytes.now) f.0 f.1)) c.put_body.ensures.0 c.put_check.ensures)
