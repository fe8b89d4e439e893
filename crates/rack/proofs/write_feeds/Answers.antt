-- `write_feeds` meets its contract: the first i feeds are written.
use Rattle.rack.proofs.Feeds.{feed_inside, next_feed}
use borrow.Author.Rules.{rules}
use mathlib.Core.Path.{◌∙◌}
use lib.ListN.{length}
use Rattle.rack.specs.Calls.{feed_at}
use Rattle.rack.proofs.write_feeds.Goals as goal

pub loop-i-preserved : goal.loop-i-preserved
unfolding feed_at
loop-i-preserved c =
    let l = c.loop-i in
    let n = length c.args.past.samples.now in
    let h = feed_inside l.i c.args.count n (length l.room) (l.auto.room ∙ c.requires.1) c.loop-i-test.true in
    next_feed _ _ _ _ _ l.room c.write_feed.new.room l.i n h (search rules) l.invariant c.write_feed.ensures
