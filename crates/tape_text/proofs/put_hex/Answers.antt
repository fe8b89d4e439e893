-- `put_hex` meets its contract: after k steps the first k bytes are there in hexadecimal.
use borrow.Author.Rules.{rules}
use native.Mathlib.Omega.{arith}
use lib.ListN.{length}
use Rattle.reply_record.proofs.Overwritten.{none_overwritten}
use Rattle.tape_text.specs.Text.{hex}
use Rattle.tape_text.proofs.Puts.{hex_of_first}
use Rattle.tape_text.proofs.put_hex.Goals as goal

pub loop-k-init : goal.loop-k-init
unfolding hex
loop-k-init c = (search rules, none_overwritten c.args.out.now c.args.at)

pub loop-k-preserved : goal.loop-k-preserved
loop-k-preserved c =
    let l = c.loop-k in
    let a = c.args in
    (search rules, hex_of_first a.out.now a.at a.bytes.now (length a.bytes.now) l.k l.out _ c.loop-k-test.true (omega arith) c.requires l.invariant.1 c.put_hex_byte.ensures)
