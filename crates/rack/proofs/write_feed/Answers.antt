-- `write_feed` meets its contract: three stretches, one behind the other.
use mathlib.Core.Path.{refl, ap, ◌∙◌}
use Prim.Native.Nat.{min}
use lib.Ieee.{of_bits}
use borrow.Author.Rules.{rules}
use lib.ListN.{length}
use Rattle.rack.specs.Feeds.{silent}
use Rattle.rack.proofs.ThreeParts.{feed_written}
use Rattle.rack.proofs.write_feed.Goals as goal

pub returns : goal.returns
unfolding silent of_bits
returns c =
    let a = c.args in
    feed_written a.feed.gain a.feed.delay a.past.seen a.past.memory.now a.past.samples.now a.room.now c.fill.new.self c.scale.new.to c.scale-2.new.to c.numbers-back.result c.numbers.result c.min-unseen.result c.min-held.result (search rules) c.requires.1 c.numbers-back.ensures c.numbers.ensures
    (c.min-unseen.ensures ∙ ap (min (length a.past.samples.now)) c.saturating_sub.ensures) c.min-held.ensures (c.fill.ensures.after (λ y h. h)) c.scale.ensures c.scale-2.ensures _ refl
