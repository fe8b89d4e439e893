-- `head` meets its contract.
use Rattle.std.proofs.lemmas.Result.{err_from_is_err_and}
use Rattle.run_open.specs.Opening.{OpenBuffers}
use Rattle.tape_head.proofs.Sections.{opening_refused, head_given}
use Rattle.tape_head.proofs.head.Goals as goal

pub returns-in_err-p : goal.returns-in_err-p
returns-in_err-p c =
    let a = c.args in
    let lent : OpenBuffers = record { mode_s = a.mode_s.now; mode_ac = a.mode_ac.now; memory = a.memory.now } in
    let p = err_from_is_err_and c.from_residual-in_err-p.result c.from_residual-in_err-p.ensures.1 in
    rw (p.1, p.2) (opening_refused a.tape.now lent c.setting_of.ensures c.in_ok-setting.was c.before_taps.ensures c.in_ok-before_taps.was c.prepared.ensures c.in_err-p.was)

pub returns : goal.returns
returns c =
    let a = c.args in
    let lent : OpenBuffers = record { mode_s = a.mode_s.now; mode_ac = a.mode_ac.now; memory = a.memory.now } in
    head_given a.tape.now lent c.setting_of.ensures c.in_ok-setting.was c.before_taps.ensures c.in_ok-before_taps.was c.prepared.ensures c.in_ok-p.was c.draws_of.ensures c.in_ok-begun.was c.prototypes.ensures c.fill.ensures
