-- `put_message` meets its contract.
use borrow.Author.Rules.{rules}
use Rattle.tape_text.proofs.Lines.{mode_ac_put, mode_s_put}
use Rattle.tape_text.proofs.put_message.Goals as goal

pub returns-then-rec-eq6 : goal.returns-then-rec-eq6
returns-then-rec-eq6 c = mode_ac_put _ c.if-rec-eq6.true (search rules) (search rules) c.put_hex_line.ensures

pub returns : goal.returns
returns c = mode_s_put _ c.requires.0 c.if-rec-eq6.false c.from.ensures c.min-n.ensures c.put_hex_line-2.ensures
