-- What by_fours requires.
use Rattle.std.proofs.Common.{◌∙◌, rules}
use Rattle.constants.specs.Setting.{per_pulse}
use Rattle.block_values.proofs.Lanes.{found_of}
use Rattle.block_values.proofs.fill.Goals as goal

pub by_fours-requires : goal.by_fours-requires
by_fours-requires c = record {
  bank = c.if-p-prototype_len.true ∙ c.prototype_len.ensures.0;
  found = found_of (per_pulse c.args.setting) c.args.block.now.phases c.find_places.new.at c.find_places.new.rest c.narrow_block.new.y (c.find_places.ensures c.if-find_places.true) c.narrow_block.ensures (search rules);
}
