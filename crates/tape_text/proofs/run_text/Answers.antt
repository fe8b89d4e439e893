-- `run_text` meets its contract.
use borrow.Author.Rules.{rules}
use Rattle.tape_text.proofs.Lines.{run_put}
use Rattle.tape_text.proofs.run_text.Goals as goal

pub returns-clause-value : goal.returns-clause-value
returns-clause-value c = run_put c.args.records.now _ (search rules) c.min-n.ensures (search rules) c.put_bytes-a.ensures c.put_lines-b.ensures c.put_bytes-c.ensures c.put_number.ensures
