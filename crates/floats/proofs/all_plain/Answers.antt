-- `all_plain` meets its contract.
use Rattle.std.proofs.Common.{arith, ◌*◌, ◌+◌, ◌/◌, [], get_or, length, ap, ◌∙◌, subst}
use lib.Ieee.{nan}
use lib.Lanes.{Each1}
use Rattle.floats.specs.BlockModel.{Plain}
use Rattle.floats.proofs.Rows.{each_more, first_chunk}
use Rattle.floats.proofs.all_plain.Goals as goal

pub loop-row-preserved : goal.loop-row-preserved
loop-row-preserved c =
    let i = c.loop-row.row-index in
    let x = c.args.x.now in
    let chunks = c.as_chunks.ensures in
    let tested = subst (Each1 Plain) (ap (λ l. get_or l i []) chunks.front ∙ first_chunk 8 (length x / 8) i x (omega (arith, c.loop-row-test.true, chunks.front_len))) (c.row_is_plain.ensures c.if-not-row_is_plain.false) in
    each_more Plain 8 (8 * i) (8 * (i + 1)) x nan (omega arith) (omega (arith, c.loop-row-test.true, chunks.front_len)) tested c.loop-row.invariant

pub returns : goal.returns
returns c _ k h = c.loop-row.invariant k (omega (arith, c.loop-row-test.false, c.as_chunks.ensures.front_len, c.told-x))
