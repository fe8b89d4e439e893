-- `put_rack` meets its contract: the four parts stand one behind the other.
use borrow.Author.Rules.{rules}
use Rattle.run_bytes.proofs.Parts.{length_rack, rack_written}
use Rattle.run_bytes.proofs.put_rack.Goals as goal

pub returns : goal.returns
returns c = (
  rack_written c.args.rack c.args.memory.now (search rules) (search rules) c.args.out.now c.args.at c.requires c.put_words.ensures c.put_words-2.ensures c.put_floats.ensures c.put_floats-2.ensures,
  length_rack c.args.rack c.args.memory.now (search rules) (search rules),
)
