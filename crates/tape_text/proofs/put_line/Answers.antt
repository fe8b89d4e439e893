-- `put_line` meets its contract.
use mathlib.Core.Path.{◌∙◌}
use Rattle.tape_text.proofs.Lines.{line_put}
use Rattle.tape_text.proofs.put_line.Goals as goal

pub returns : goal.returns
returns c = line_put _ c.requires.0 c.requires.1 c.number.ensures c.from.ensures (c.from-2.ensures ∙ c.number-2.ensures) c.put_number-a.ensures c.put_number-b.ensures c.put_number-c.ensures c.put_message.ensures
