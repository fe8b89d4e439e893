-- `fill_clocks` meets its contract.
use Rattle.std.proofs.Common.{◌-◌, arith, rules}
use Rattle.block_values.proofs.Filled.{full, stopped, whole_block}
use Rattle.block_values.proofs.fill_clocks.Goals as goal

pub returns-else-at-pace-clause-block : goal.returns-else-at-pace-clause-block
returns-else-at-pace-clause-block c =
    whole_block c.args.pace c.args.first c.args.most c.min-most.result _ _ _ c.min-most.ensures (search rules) (search rules) (search rules) (stopped c.args.pace (c.min-most.result - c.loop-at.at.n) _ _ _ (omega arith) c.loop-at.invariant.rest)

pub returns-after-loop-at-clause-block : goal.returns-after-loop-at-clause-block
returns-after-loop-at-clause-block c =
    whole_block c.args.pace c.args.first c.args.most c.min-most.result _ _ _ c.min-most.ensures (search rules) (search rules) (search rules) (full c.args.pace c.min-most.result _ _ _ (omega arith) c.loop-at.invariant.rest)
