-- `open` meets its contract: where nothing is refused it leaves the rack that is opened.
use lib.Ieee.{of_bits}
use Rattle.rack.specs.Feeds.{silent}
use Rattle.rack.specs.Opening.{delay_row, gain_row}
use Rattle.rack.proofs.Checks.{left_opened}
use Rattle.rack.proofs.open.Goals as goal

pub returns : goal.returns
unfolding delay_row gain_row silent of_bits
returns c = left_opened c.args.memory.now c.args.delays.now c.args.gains.now _ c.check.ensures _ c.in_ok-check.was c.fill.new.self _ _ (c.fill.ensures.after (λ y h. h)) c.row.ensures c.row-2.ensures
