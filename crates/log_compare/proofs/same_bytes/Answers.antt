-- `same_bytes` meets its contract.
use mathlib.Core.Path.{sym, ◌∙◌}
use native.Mathlib.Omega.{arith}
use Rattle.log_compare.proofs.Bytes.{same_on, same_off, same_end}
use Rattle.log_compare.proofs.same_bytes.Goals as goal

pub returns-then-byte_at : goal.returns-then-byte_at
returns-then-byte_at c =
    let l = c.loop-k in
    let a = c.args in
    sym (same_off a.s.now a.t.now a.a a.b a.n l.k (omega arith) (λ e. c.if-byte_at.true (c.byte_at.ensures ∙ e ∙ sym c.byte_at-in-loop-k.ensures))) ∙ l.invariant

pub loop-k-preserved : goal.loop-k-preserved
loop-k-preserved c =
    let l = c.loop-k in
    let a = c.args in
    sym (same_on a.s.now a.t.now a.a a.b a.n l.k (omega arith) (sym c.byte_at.ensures ∙ c.if-byte_at.false ∙ c.byte_at-in-loop-k.ensures)) ∙ l.invariant

pub returns : goal.returns
returns c =
    let a = c.args in
    sym (same_end a.s.now a.t.now a.a a.b a.n c.loop-k.k (omega arith)) ∙ c.loop-k.invariant
