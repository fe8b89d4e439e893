-- `convolve_at` meets its contract.
use Rattle.std.proofs.Common.{◌≡◌, ◌+◌, min, length, sym, ◌∙◌, rules}
use Rattle.pulse_shape.specs.Convolve.{first_term, convolve_at}
use Rattle.pulse_shape.proofs.LoopSteps.{first_index, products_step, products_end}
use Rattle.pulse_shape.proofs.convolve_at.Goals as goal

pub loop-k-preserved : goal.loop-k-preserved
loop-k-preserved c =
    let l = c.loop-k in
    let a = c.args in
    sym (products_step a.a.now a.b.now a.j _ l.k l.sum (search rules)) ∙ l.invariant

pub returns : goal.returns
unfolding convolve_at
returns c =
    let l = c.loop-k in
    let a = c.args in
    let start : c.saturating_sub-start.result ≡ first_term (length a.b.now) a.j = c.saturating_sub-start.ensures ∙ first_index (length a.b.now) a.j in
    let end : c.min-end.result ≡ min (a.j + 1) (length a.a.now) = c.min-end.ensures in
    sym (products_end a.a.now a.b.now a.j _ l.k l.sum c.loop-k-test.false) ∙ l.invariant ∙ rw (end, start)
