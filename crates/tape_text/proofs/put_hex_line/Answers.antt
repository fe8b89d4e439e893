-- `put_hex_line` meets its contract.
use mathlib.Core.Path.{refl}
use Rattle.le_read.proofs.Halves.{overwritten_one}
use borrow.Author.Rules.{rules}
use Rattle.tape_text.proofs.Lines.{hex_line_put}
use Rattle.tape_text.proofs.put_hex_line.Goals as goal

pub returns : goal.returns
returns c = hex_line_put _ c.requires c.put_hex.ensures (overwritten_one _ _ _ (search rules)) refl
