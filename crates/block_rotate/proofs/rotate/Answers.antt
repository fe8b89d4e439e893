-- `rotate` meets its contract.
use Rattle.block_rotate.proofs.Quarters.{turns_few}
use Rattle.block_rotate.proofs.Blocks.{block_samples}
use Rattle.block_rotate.proofs.rotate.Goals as goal

pub turn_all-requires : goal.turn_all-requires
turn_all-requires c = turns_few c.args.carriers.now c.reduce_all.new.turns c.reduce_all.ensures.0

pub returns : goal.returns
returns c =
    let a = c.args in
    block_samples a.amplitude a.values.now a.carriers.now c.reduce_all.new.s c.reduce_all.new.c c.narrow_block.new.y c.narrow_block-2.new.y _ _ c.reduce_all.new.turns c.reduce_all.ensures.0 c.reduce_all.ensures.1 c.reduce_all.ensures.2 c.narrow_block.ensures c.narrow_block-2.ensures c.turn_all.ensures.0 c.turn_all.ensures.1
