-- `run` meets its contract: the feeds are written only where the lengths fit.
use mathlib.Core.Path.{sym, ◌∙◌}
use native.Mathlib.Omega.{arith}
use lib.ListN.{length}
use Rattle.rack.specs.Calls.{feed_count, lengths_fit}
use Rattle.rack.proofs.Lengths.{fits}
use Rattle.rack.proofs.run.Goals as goal

pub write_feeds-requires : goal.write_feeds-requires
unfolding feed_count lengths_fit
write_feeds-requires c =
    let f = fits c.feed_count-count.result 8190 (length c.args.samples.now) (length c.args.room.now) (sym c.lengths_fit.ensures ∙ c.if-not-lengths_fit.false) in
    (c.if-memory-ne-MEMORY_LEN.false, f.room_is, omega (arith, c.feed_count-count.ensures))
