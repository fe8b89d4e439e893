-- `compare_log` meets its contract.
use Rattle.std.proofs.lemmas.Result.{err_from_is_err_and}
use Rattle.log_compare.proofs.Decisions.{refusal_is, report_is, pairs_few}
use Rattle.log_theory.proofs.Turns.{lists}
use Rattle.log_compare.specs.Comparison.{counts_of, reported}
use Rattle.log_compare.proofs.compare_log.Goals as goal

pub returns-in_err-check : goal.returns-in_err-check
returns-in_err-check c =
    let a = c.args in
    let p = err_from_is_err_and c.from_residual.result c.from_residual.ensures.1 in
    rw (p.1, p.2) (refusal_is a.log.now a.records.now a.tolerance a.partners.now a.owners.now c.check.result c.check.ensures c.in_err-check.was)

pub overflow_sub-result : goal.overflow_sub-result
overflow_sub-result c =
    let a = c.args in
    let p = c.pair_up-pairs in
    (pairs_few a.log.now a.records.now a.tolerance a.partners.now a.owners.now c.check.result c.check.ensures c.in_ok-check.was (lists p.new.partners p.new.owners p.result) p.ensures).0

pub overflow_sub-result-2 : goal.overflow_sub-result-2
overflow_sub-result-2 c =
    let a = c.args in
    let p = c.pair_up-pairs in
    (pairs_few a.log.now a.records.now a.tolerance a.partners.now a.owners.now c.check.result c.check.ensures c.in_ok-check.was (lists p.new.partners p.new.owners p.result) p.ensures).1

pub returns : goal.returns
unfolding reported counts_of
returns c =
    let a = c.args in
    let p = c.pair_up-pairs in
    report_is a.log.now a.records.now a.tolerance a.partners.now a.owners.now c.check.result c.check.ensures c.in_ok-check.was (lists p.new.partners p.new.owners p.result) p.ensures
