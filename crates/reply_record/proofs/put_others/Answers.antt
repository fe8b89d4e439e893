-- `put_others` meets its contract.
use borrow.Author.Rules.{rules}
use Rattle.le_read.proofs.Halves.{overwritten_one}
use Rattle.reply_record.proofs.Overwritten.{others_overwritten}
use Rattle.reply_record.proofs.put_others.Goals as goal

pub returns : goal.returns
returns c =
    let a = c.args in
    others_overwritten a.d.now a.at a.reply a.first a.kind a.count c.message_length.result c.requires c.message_length.ensures c.put.ensures.1 (overwritten_one _ _ _ (search rules)) c.put-2.ensures.1 (overwritten_one _ _ _ (search rules)) c.put_bytes.ensures
