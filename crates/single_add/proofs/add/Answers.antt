-- `add` meets its contract.
use Rattle.std.proofs.Common.{w64}
use mathlib.Core.Path.{ap, ◌∙◌}
use mir.Facts.{to_z-of_z}
use Rattle.single_add.specs.Stretch.{first_reached, passed_over}
use Rattle.single_add.proofs.Joined.{past_the_end, all_before, in_window}
use Rattle.single_add.proofs.add.Goals as goal
use Rattle.single_add.proofs.add.Goals.{else-first-output-via-then-first-output+else-past-slots, else-first-output-via-else-first-output}

pub returns-then-past-slots : goal.returns-then-past-slots
returns-then-past-slots c =
    let start = to_z-of_z {w = w64} (record { sfits = c.first_sample_index-start.type_inv }) ∙ c.first_sample_index-start.ensures in
    in_window _ _ _ _ _ _ _ _ (c.first_reached-first.ensures.0 ∙ ap first_reached start) (c.passed_over-past.ensures ∙ ap passed_over start) c.ring_slots-slots.ensures.0 c.if-first-output.true c.if-past-slots.true c.add_window.ensures

pub returns-else-first-output : goal.returns-else-first-output
returns-else-first-output c =
    let start = to_z-of_z {w = w64} (record { sfits = c.first_sample_index-start.type_inv }) ∙ c.first_sample_index-start.ensures in
    elim c.else-first-output.branch [
      | else-first-output-via-then-first-output+else-past-slots w ↦ all_before _ _ _ _ _ _ _ (c.first_reached-first.ensures.0 ∙ ap first_reached start) (c.passed_over-past.ensures ∙ ap passed_over start) c.ring_slots-slots.ensures.0 w.if-first-output.true w.if-past-slots.false
      | else-first-output-via-else-first-output w ↦ past_the_end _ _ _ c.args.output.now c.first_reached-first.result (c.first_reached-first.ensures.0 ∙ ap first_reached start) w.if-first-output.false
    ]
