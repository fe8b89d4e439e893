-- `draws_of` meets its contract: draws that are counted lie on the tape.
use Prim.Native.Nat.{ℕ, ◌+◌, ◌*◌, ◌≤◌}
use mathlib.Core.Path.{ap, ◌∙◌, subst}
use lib.ListN.{length}
use Rattle.std.specs.Result.{result_ok}
use Rattle.tape_sections.proofs.Counts.{counted}
use Rattle.tape_head.proofs.draws_of.Goals as goal

pub check_draws-requires : goal.check_draws-requires
check_draws-requires c =
    let t = counted _ _ _ _ _ _ c.section-counted.ensures (c.ok_or.ensures.ok_part ∙ ap result_ok c.in_ok-ok_or.was) in
    (t.1, subst (λ (at : ℕ). at + 4 + 65 * c.in_ok-ok_or.field-0 ≤ length c.args.tape.now) c.draws_count_offset-at.ensures.0 t.2)
