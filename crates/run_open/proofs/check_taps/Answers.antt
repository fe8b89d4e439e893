-- `check_taps` meets its contract.
use Rattle.constants.specs.Setting.{by_mode}
use Rattle.run_open.proofs.InUse.{prepared}
use Rattle.run_open.proofs.check_taps.Goals as goal

pub returns : goal.returns
unfolding by_mode
returns c =
    let a = c.args in
    prepared a.setting a.s.trigger_level a.taps.mode_s.now a.taps.mode_ac.now a.s.rates a.total a.all c.prototype_len-n.result c.prototype-mode_s.result c.prototype-mode_ac.result c.in_ok-state.state
    c.taps_accepted.ensures c.if-not-taps_accepted.false c.taps_accepted-else-not-taps_accepted.ensures c.if-not-taps_accepted-2.false
    c.prototype_len-n.ensures.0 c.prototype-mode_s.ensures c.prototype-mode_ac.ensures
    c.delay-delay_s.ensures c.delay-delay_ac.ensures c.first_state.ensures c.in_ok-state.was
