-- `single` meets its contract: what is made of a stretch that is accepted.
use mathlib.Core.Path.{sym, ap, ◌∙◌}
use Rattle.run_open.specs.Opening.{prepared_read}
use Rattle.run_open.proofs.OpenedAs.{opened_as}
use Rattle.single_run.proofs.Joined.{accepted}
use Rattle.single_run.proofs.single.Goals as goal

pub returns : goal.returns
returns c =
    let a = c.args in
    let p = c.in_ok-p.p in
    let o = opened_as a.taps.mode_s.now a.taps.mode_ac.now _ p (sym (ap prepared_read c.in_ok-p.was) ∙ c.prepare_at.ensures) in
    let own = c.prototypes.ensures in
    accepted a.settings.now a.taps.mode_s.now a.taps.mode_ac.now a.draw.now a.noise.now a.output.now c.in_ok-setting.setting (sym c.samples_per_pulse.ensures ∙ c.in_ok-setting.was) (sym c.check_lengths.ensures ∙ c.in_ok-check_lengths.was) p o
    (sym c.check_values.ensures ∙ c.in_ok-check_values.was) _ _ _ own.0 own.1 c.make.ensures
