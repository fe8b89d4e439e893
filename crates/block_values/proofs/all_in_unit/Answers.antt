-- `all_in_unit` meets its contract.
use Rattle.std.proofs.Common.{◌≡◌, ◌+◌, ◌*◌, true, get_or, [], subst, ap, ◌∙◌, arith}
use lib.Ieee.{nan}
use Rattle.block_values.specs.BlockValuesModel.{in_unit, EachInUnit}
use Rattle.floats.proofs.Rows.{first_chunk, each_more}
use Rattle.block_values.proofs.all_in_unit.Goals as goal

pub loop-row-preserved : goal.loop-row-preserved
loop-row-preserved c =
    let x = c.args.x.now in
    let i = c.loop-row.row-index in
    let chunks = c.as_chunks.ensures in
    let row = ap (λ l. get_or l i []) chunks.front ∙ first_chunk 8 _ i x (omega (arith, c.loop-row-test.true, chunks.front_len)) in
    each_more (λ p. in_unit p ≡ true) 8 (8 * i) (8 * (i + 1)) x nan (omega arith) (omega (arith, c.loop-row-test.true, chunks.front_len))
    (subst EachInUnit row (c.row_in_unit.ensures c.if-not-row_in_unit.false)) c.loop-row.invariant
