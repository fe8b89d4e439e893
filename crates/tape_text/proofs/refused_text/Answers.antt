-- `refused_text` meets its contract.
use borrow.Author.Rules.{rules}
use mathlib.Core.Path.{refl}
use Rattle.tape_text.proofs.Lines.{refused_put}
use Rattle.tape_text.proofs.refused_text.Goals as goal

pub returns-clause-value : goal.returns-clause-value
returns-clause-value c = refused_put _ (search rules) refl (search rules) c.put_bytes-a.ensures c.put_number.ensures
