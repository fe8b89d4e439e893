-- `put_number` meets its contract.
use borrow.Author.Rules.{rules}
use native.Mathlib.Omega.{arith}
use Rattle.le_read.proofs.Halves.{overwritten_one}
use Rattle.tape_text.proofs.Decimal.{few_digits}
use Rattle.tape_text.proofs.Lines.{number_put}
use Rattle.tape_text.proofs.put_number.Goals as goal

pub returns : goal.returns
returns c = number_put _ _ _ _ c.ranges.n.fits c.decimal-k.ensures.len c.decimal-k.ensures.digits c.requires c.put_bytes-end.ensures (overwritten_one _ _ _ (omega (arith, few_digits _ _ c.ranges.n.fits c.decimal-k.ensures.len, c.decimal-k.ensures.in_bounds.1, c.put_bytes-end.ensures.ends))) (search rules)
