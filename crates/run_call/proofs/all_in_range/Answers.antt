-- `all_in_range` meets its contract.
use Rattle.std.proofs.Common.{rules, arith, ap, ◌∙◌, ◌*◌, get_or, ◌/◌, length, drop, []}
use Rattle.run_call.proofs.Rows.{row_skipped, ended}
use Rattle.run_call.proofs.all_in_range.Goals as goal

pub loop-row-preserved : goal.loop-row-preserved
loop-row-preserved c =
    let i = c.loop-row.row-index in
    let chunks = c.as_chunks.ensures in
    row_skipped c.args.noise.now _ i (length c.args.noise.now / 8) (omega (arith, c.loop-row-test.true, chunks.front_len)) (omega (arith, c.loop-row-test.true, chunks.front_len)) (ap (λ l. get_or l i []) chunks.front) (c.row_in_range.ensures c.if-not-row_in_range.false) c.loop-row.invariant

pub returns : goal.returns
returns c =
    let chunks = c.as_chunks.ensures in
    ended c.is_none.result c.first_out_of_range.result c.args.noise.now c.as_chunks.result.1.now c.loop-row.row-index (search rules)
    (chunks.back ∙ ap (λ k. drop k c.args.noise.now) {x = length c.args.noise.now / 8 * 8} {y = 8 * c.loop-row.row-index} (omega (arith, c.loop-row-test.false, c.loop-row.auto.row-index-end, chunks.front_len)))
    c.first_out_of_range.ensures c.loop-row.invariant
