-- `add` meets its contract, from what its calls give.
use Rattle.reply_add.specs.Signal.{samples_of, count_of}
use Rattle.run_call.proofs.Joined.{added, counted, recorded}
use Rattle.run_call.proofs.add.Goals as goal

pub returns : goal.returns
unfolding samples_of count_of
returns c =
    let a = c.args in
    let place = c.slot_of.ensures in
    let type = c.byte_at-kind.ensures in
    let loudness = c.number-amplitude.ensures in
    let picks = c.picks.ensures in
    let made = c.completed-c.ensures in
    let sum = c.add_reply-count.ensures in (
      added a.setting a.pending a.delays a.first a.rest.now _ _ _ _ _ place type loudness picks made a.prototypes.mode_s.now a.prototypes.mode_ac.now a.memory.now _ sum.0,
      recorded a.setting a.pending a.delays a.first a.rest.now _ _ _ _ _ place type loudness picks made a.memory.now a.records.now _ a.at _ sum.1 c.put.ensures.1,
      counted a.setting a.pending a.delays a.first a.rest.now _ _ _ _ _ place type loudness picks made a.memory.now _ sum.1,
    )
