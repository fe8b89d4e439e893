-- `read_message` meets its contract: after k steps k bytes are read.
use lib.ListN.{length-set}
use Rattle.page.proofs.Values.{no_byte, next_shown}
use borrow.Author.Rules.{rules}
use native.Mathlib.Omega.{arith}
use Rattle.page.proofs.read_message.Goals as goal

pub loop-k-init : goal.loop-k-init
loop-k-init c = (search rules, no_byte c.args.kind c.args.line.now)

pub loop-k-preserved : goal.loop-k-preserved
loop-k-preserved c =
    let l = c.loop-k in
    let a = c.args in
    (simp length-set (search rules), next_shown a.kind a.line.now l.k l.message (omega arith) l.invariant.1 c.shown_byte.ensures c.place_of.ensures.0)
