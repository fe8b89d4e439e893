-- `put_floats` meets its contract.
use Rattle.reply_record.proofs.Overwritten.{floats_overwritten}
use Rattle.reply_record.proofs.put_floats.Goals as goal

pub returns : goal.returns
returns c =
    floats_overwritten c.args.d.now c.args.at c.args.c c.requires c.put.ensures.1 c.put-2.ensures.1 c.put-3.ensures.1 c.put-4.ensures.1 c.put-5.ensures.1
