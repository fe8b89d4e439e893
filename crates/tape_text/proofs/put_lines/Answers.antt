-- `put_lines` meets its contract: the invariant is `Going`.
use native.Mathlib.Omega.{arith}
use Rattle.tape_text.proofs.Lines.{first, next_line}
use Rattle.tape_text.proofs.put_lines.Goals as goal

pub loop-k-init : goal.loop-k-init
loop-k-init c = first _ _ _

pub loop-k-preserved : goal.loop-k-preserved
loop-k-preserved c = next_line _ _ _ _ _ _ (omega arith) c.requires c.loop-k.invariant c.put_line-end.ensures
