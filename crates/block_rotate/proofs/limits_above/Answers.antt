-- `limits_above` meets its contract.
use Rattle.block_rotate.proofs.Limits.{limits_counted}
use Rattle.block_rotate.proofs.limits_above.Goals as goal

pub returns : goal.returns
returns c = limits_counted c.args.p c.below.ensures c.below-2.ensures c.below-3.ensures c.below-4.ensures
