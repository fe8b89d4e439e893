-- `put_bytes` meets its contract.
use Prim.Native.Nat.{◌+◌, ◌-◌}
use mathlib.Core.Path.{refl, ap, ◌∙◌}
use native.Mathlib.Omega.{arith}
use lib.ListN.{length}
use borrow.Rule.Slice.PartMut.{put_mid}
use Rattle.tape_text.proofs.Puts.{mid_overwritten}
use Rattle.tape_text.proofs.put_bytes.Goals as goal

pub returns : goal.returns
returns c =
    let a = c.args in
    let k = a.at + length a.from.now - a.at in
    record { held = ap (put_mid a.at k a.out.now) c.copy_from_slice.ensures.after ∙ mid_overwritten a.out.now a.at k a.from.now (omega arith); ends = refl }
