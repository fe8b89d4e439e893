-- `put_blank_lines` meets its contract: after k steps k lines are put.
use Rattle.reply_record.proofs.Overwritten.{none_overwritten}
use Rattle.page.specs.Pages.{blank_lines}
use Rattle.page.proofs.Filled.{one_blank}
use native.Mathlib.Omega.{arith}
use Rattle.page.proofs.put_blank_lines.Goals as goal

pub loop-k-init : goal.loop-k-init
unfolding blank_lines
loop-k-init c = none_overwritten c.args.out.now c.args.start

pub loop-k-preserved : goal.loop-k-preserved
loop-k-preserved c =
    let a = c.args in
    let l = c.loop-k in
    one_blank a.n a.out.now a.start c.requires l.out l.k l.invariant (omega arith) c.put_blank.ensures.1
