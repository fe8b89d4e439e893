-- `each_fits` meets its contract: what is left decides.
use borrow.Author.Rules.{rules}
use lib.ListN.{length-append}
use Rattle.std.proofs.lemmas.Slice.Zip.{zip_turn, zip_end}
use Rattle.rack.proofs.Checks.{delay_out, gain_out, feed_in, all_in}
use Rattle.rack.proofs.each_fits.Goals as goal
use Rattle.rack.proofs.each_fits.Goals.{then-delay-gt-LONGEST_DELAY-via-then-delay-gt-LONGEST_DELAY, then-delay-gt-LONGEST_DELAY-via-else-delay-gt-LONGEST_DELAY+then-not-gain_fits}

pub returns-then-delay-gt-LONGEST_DELAY : goal.returns-then-delay-gt-LONGEST_DELAY
returns-then-delay-gt-LONGEST_DELAY c =
    let t = zip_turn c.args.delays.now c.args.gains.now c.loop-delay.yielded _ _ c.next.new.self _ (search rules) (search rules) c.loop-delay.yielded_by _ c.in-Some.is c.next.ensures.steps in
    elim c.then-delay-gt-LONGEST_DELAY.branch [
      | then-delay-gt-LONGEST_DELAY-via-then-delay-gt-LONGEST_DELAY w ↦ delay_out _ _ _ _ _ t w.if-delay-gt-LONGEST_DELAY.true c.loop-delay.invariant
      | then-delay-gt-LONGEST_DELAY-via-else-delay-gt-LONGEST_DELAY+then-not-gain_fits w ↦ gain_out _ _ _ _ _ t w.if-delay-gt-LONGEST_DELAY.false w.gain_fits.result w.gain_fits.ensures w.if-not-gain_fits.true c.loop-delay.invariant
    ]

pub loop-delay-preserved : goal.loop-delay-preserved
loop-delay-preserved c =
    let t = zip_turn c.args.delays.now c.args.gains.now c.loop-delay.yielded _ _ c.next.new.self _ (search rules) (search rules) c.loop-delay.yielded_by _ c.in-Some.is c.next.ensures.steps in
    feed_in _ _ _ _ _ t c.if-delay-gt-LONGEST_DELAY.false c.gain_fits.result c.gain_fits.ensures c.if-not-gain_fits.false _ (length-append c.loop-delay.yielded _) c.loop-delay.invariant

pub returns : goal.returns
returns c = all_in _ _ _ (zip_end c.args.delays.now c.args.gains.now c.loop-delay.yielded _ _ c.next.new.self _ (search rules) (search rules) c.loop-delay.yielded_by c.in-None.is c.next.ensures.steps) c.loop-delay.invariant
