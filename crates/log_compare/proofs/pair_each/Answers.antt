-- `pair_each` meets its contract.
use mathlib.Core.Path.{sym, ◌∙◌, subst}
use Prim.Native.Nat.{ℕ, ◌/◌}
use lib.ListN.{length}
use Rattle.log_compare.specs.Entries.{first_of}
use Rattle.log_compare.specs.Held.{logs_of}
use Rattle.log_theory.specs.PairsModel.{free_in, Below}
use Rattle.log_theory.proofs.Window.{past_taken}
use Rattle.log_theory.proofs.Turns.{turn, over, lists, paired_partners, paired_owners, paired_pairs, paired_taken}
use native.Mathlib.Omega.{arith}
use Rattle.log_compare.proofs.pair_each.Goals as goal

pub loop-i-preserved : goal.loop-i-preserved
loop-i-preserved c =
    let l = c.loop-i in
    let inv = l.invariant in
    let a = c.args in
    let t = c.settle-pairs in
    let p = c.earliest-p in
    let v = c.advance-lo in
    let e = t.ensures in
    let old = lists l.partners l.owners l.pairs in
    let new = lists t.new.partners t.new.owners t.result in
    let long = paired_owners old new l.i p.result e in
    record {
      partners_kept = paired_partners old new l.i p.result e ∙ inv.partners_kept;
      owners_kept = long ∙ inv.owners_kept;
      few = omega (arith, paired_pairs old new l.i p.result e, inv.few);
      marked = omega (arith, v.ensures.0, long);
      past = past_taken (first_of a.heard.records.now) a.heard.tolerance (free_in l.owners) (free_in t.new.owners) c.sample_at-h.result v.result
          (paired_taken old new l.i p.result (omega arith) (subst (λ (x : ℕ). Below x p.result) (sym (inv.owners_kept ∙ c.requires.2)) p.ensures.1) e)
          v.ensures.1;
      same = turn (logs_of a.heard) (length a.heard.log.now / 23) l.i old new p.result (omega arith) p.ensures.0 e ∙ inv.same;
    }

pub returns : goal.returns
returns c =
    let a = c.args in
    let l = c.loop-i in
    sym (over (logs_of a.heard) (length a.heard.log.now / 23) l.i (lists l.partners l.owners l.pairs) (omega arith)) ∙ l.invariant.same
