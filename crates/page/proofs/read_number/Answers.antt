-- `read_number` meets its contract: after k columns v is their number, below 10^k.
use mathlib.Core.Path.{refl, ◌∙◌}
use Rattle.page.specs.Fields.{read_from, read_number}
use Rattle.page.proofs.Values.{next_column, below_2_64}
use native.Mathlib.Omega.{arith}
use Rattle.page.proofs.read_number.Goals as goal

pub loop-c-init : goal.loop-c-init
unfolding read_number read_from
loop-c-init c = (refl, omega arith)

pub overflow_mul-v : goal.overflow_mul-v
overflow_mul-v c = let l = c.loop-c in omega (arith, below_2_64 l.c-index l.v (omega arith) l.invariant.1)

pub overflow_add-v : goal.overflow_add-v
overflow_add-v c = let l = c.loop-c in omega (arith, below_2_64 l.c-index l.v (omega arith) l.invariant.1, c.digit.ensures.1, c.from.ensures)

pub loop-c-preserved : goal.loop-c-preserved
loop-c-preserved c =
    let l = c.loop-c in
    next_column c.args.columns.now l.c-index l.v c.from.result (omega arith) l.invariant.0 l.invariant.1 (c.from.ensures ∙ c.digit.ensures.0) (omega (arith, c.from.ensures, c.digit.ensures.1))
