-- `log_accepts` meets its contract.
use Rattle.log_compare.proofs.Accepting.{accepted_start, accepted_on, accepted_off, accepted_end}
use mathlib.Core.Path.{sym, ◌∙◌}
use Prim.Native.Nat.{◌/◌}
use lib.ListN.{length}
use native.Mathlib.Omega.{arith}
use Rattle.log_compare.proofs.log_accepts.Goals as goal

pub loop-k-init : goal.loop-k-init
loop-k-init c = accepted_start c.args.log.now

pub loop-k-preserved : goal.loop-k-preserved
loop-k-preserved c =
    let l = c.loop-k in
    let g = c.args.log.now in
    sym (accepted_on g (length g / 23) l.k (omega arith) (sym c.entry_accepts.ensures ∙ c.if-not-entry_accepts.false)) ∙ l.invariant

pub returns-then-not-entry_accepts : goal.returns-then-not-entry_accepts
returns-then-not-entry_accepts c =
    let l = c.loop-k in
    let g = c.args.log.now in
    sym (accepted_off g (length g / 23) l.k (omega arith) (sym c.entry_accepts.ensures ∙ c.if-not-entry_accepts.true)) ∙ l.invariant

pub returns : goal.returns
returns c =
    let l = c.loop-k in
    let g = c.args.log.now in
    sym (accepted_end g (length g / 23) l.k (omega arith)) ∙ l.invariant
