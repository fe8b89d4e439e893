-- `setting_of` is safe: settings that are counted lie on the tape.
use native.Mathlib.Omega.{arith}
use mathlib.Core.Path.{ap, ◌∙◌}
use Rattle.std.specs.Result.{result_ok}
use Rattle.tape_sections.proofs.Counts.{counted}
use Rattle.tape_head.proofs.setting_of.Goals as goal

pub slice_bounds-bytes-end : goal.slice_bounds-bytes-end
slice_bounds-bytes-end c = let t = counted _ _ _ _ _ _ c.section.ensures (c.ok_or.ensures.ok_part ∙ ap result_ok c.in_ok-ok_or.was) in omega (arith, t.0, t.2)
