-- `put_lines` meets its contract: after k steps the lines of k records are put.
use Rattle.reply_record.proofs.Overwritten.{none_overwritten}
use Rattle.page.specs.Pages.{record_lines}
use Rattle.page.proofs.Filled.{one_filled}
use native.Mathlib.Omega.{arith}
use Rattle.page.proofs.put_lines.Goals as goal

pub loop-k-init : goal.loop-k-init
unfolding record_lines
loop-k-init c = none_overwritten c.args.out.now 0

pub loop-k-preserved : goal.loop-k-preserved
loop-k-preserved c =
    let a = c.args in
    let l = c.loop-k in
    one_filled a.records.now c.requires.0 a.out.now c.requires.1 l.out l.k l.invariant (omega arith) c.put.ensures.1
