-- `more1090_tape_feed` meets its contract.
use Rattle.more1090_tape.proofs.Feed.{in_parts}
use Rattle.more1090_tape.proofs.more1090_tape_feed.Goals as goal

pub returns : goal.returns
returns c =
    let a = c.args in
    in_parts a.mode_s.now a.mode_ac.now a.draws.now a.noise.now a.memory.now a.output.now a.records.now a.tape c.feed_in.result c.feed_noise.result c.tape_out.result
    c.feed_noise.new.memory c.feed_noise.new.output c.feed_noise.new.records c.if-tape-ne0.false c.feed_in.ensures c.feed_noise.ensures c.tape_out.ensures
