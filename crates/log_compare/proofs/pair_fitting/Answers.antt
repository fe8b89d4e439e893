-- `pair_fitting` meets its contract.
use mathlib.Core.Path.{◌∙◌}
use Prim.Native.Nat.{◌/◌}
use lib.ListN.{length}
use Rattle.log_compare.specs.Held.{logs_of}
use Rattle.log_theory.proofs.Turns.{from_filled}
use Rattle.log_theory.proofs.Link.{reported}
use native.Mathlib.Omega.{arith}
use Rattle.log_compare.proofs.pair_fitting.Goals as goal

pub returns : goal.returns
returns c =
    let a = c.args in
    let pre = c.requires in
    let f = c.fill in
    let g = c.fill-2 in
    c.pair_each.ensures
    ∙ from_filled (logs_of a.heard) (length a.heard.log.now / 23) (length a.heard.log.now / 23) (length a.heard.records.now / 66) f.new.self g.new.self a.partners.now a.owners.now (f.ensures.after (λ y e. e)) (g.ensures.after (λ y e. e)) pre.0 pre.1
    ∙ reported (logs_of a.heard) (omega arith)
