-- `Search::earliest` meets its contract.
use Rattle.std.specs.Prelude.{Option}
use mathlib.Core.Path.{sym, subst}
use Prim.Native.Nat.{ℕ, ◌+◌, ◌/◌}
use lib.ListN.{length}
use Rattle.log_compare.specs.Held.{logs_of}
use Rattle.log_theory.specs.PairingLaws.{Earliest}
use Rattle.log_theory.specs.PairsModel.{free_in}
use Rattle.log_compare.proofs.Marks.{stops}
use Rattle.log_theory.proofs.Window.{none_behind, one_more, finish}
use borrow.Author.Rules.{rules}
use native.Mathlib.Omega.{arith}
use Rattle.log_compare.proofs.Search.earliest.Goals as goal

pub returns-then-last-f : goal.returns-then-last-f
returns-then-last-f c =
    let a = c.args in
    let L = logs_of a.self.heard in
    let F = free_in a.self.owners.now in
    let l = c.loop-j in
    let h = c.sample_at-h in
    finish L F a.i l.best
    (none_behind L F a.i l.j l.best (omega (arith, c.loop-j-test.true, c.requires.1))
    (stops L F a.i l.best l.j c.first_at-f.result h.result c.sum.result c.sum-latest.result c.limit-last.result a.back (length a.self.heard.records.now / 66) h.ensures c.sum.ensures c.sum-latest.ensures c.limit-last.ensures c.first_at-f.ensures (search rules) c.if-last-f.true c.requires.3)
    l.invariant)

pub loop-j-preserved : goal.loop-j-preserved
loop-j-preserved c =
    let a = c.args in
    let L = logs_of a.self.heard in
    let F = free_in a.self.owners.now in
    let l = c.loop-j in
    subst (λ (x : Option ℕ). Earliest L F a.i (l.j + 1) x) (sym c.better-best.ensures) (one_more L F a.i l.j l.best l.invariant)

pub returns : goal.returns
returns c =
    let a = c.args in
    let L = logs_of a.self.heard in
    let F = free_in a.self.owners.now in
    let l = c.loop-j in
    finish L F a.i l.best
    (none_behind L F a.i l.j l.best (omega (arith, l.auto.j, c.requires.0, c.requires.1)) (λ k le lt. absurd (omega (arith, c.loop-j-test.false, c.requires.1))) l.invariant)
