-- `add_reply` meets its contract.
use Rattle.reply_add.proofs.Adding.{pulses_most, by_reply}
use Rattle.reply_add.proofs.add_reply.Goals as goal

pub shared_ref_as_front-pad_pulses : goal.shared_ref_as_front-pad_pulses
shared_ref_as_front-pad_pulses c = pulses_most c.args.r.config.reply _ c.message_to_pulses-p.ensures

pub returns : goal.returns
returns c =
    let a = c.args in
    by_reply a.r _ _ _ _ a.memory.now _ a.slot _ c.message_to_pulses-p.ensures c.pad_pulses-padded.ensures c.prototype.ensures c.wave.ensures.0 c.add_wave.ensures
