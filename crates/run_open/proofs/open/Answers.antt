-- `open` meets its contract: an opened run's buffers are filled.
use mathlib.Core.Path.{ap, sym, ◌∙◌}
use Rattle.run_open.specs.Opening.{OpenBuffers, opened_of, prepared_read}
use Rattle.run_open.proofs.OpenedAs.{opened_as}
use Rattle.run_open.proofs.Filled.{filled}
use Rattle.run_open.proofs.open.Goals as goal

pub returns : goal.returns
unfolding opened_of
returns c =
    let a = c.args in
    let lent : OpenBuffers = record { mode_s = a.mode_s.now; mode_ac = a.mode_ac.now; memory = a.memory.now } in
    let o = opened_as a.taps.mode_s.now a.taps.mode_ac.now (opened_of a.taps.mode_s.now a.taps.mode_ac.now a.settings.now lent) c.in_ok-p.p (sym (ap prepared_read c.in_ok-p.was) ∙ c.prepare.ensures) in (
      sym o.opens,
      filled a.taps.mode_s.now a.taps.mode_ac.now a.settings.now lent c.in_ok-p.p o c.prototypes.ensures c.fill.ensures,
    )
