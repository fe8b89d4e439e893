-- `row_in_range` meets its contract.
use Rattle.run_call.proofs.Rows.{row_within}
use Rattle.run_call.proofs.row_in_range.Goals as goal

pub returns-then-row-eq255 : goal.returns-then-row-eq255
returns-then-row-eq255 c low = row_within c.args.row c.fits-row.0 c.if-row-eq255.true low
