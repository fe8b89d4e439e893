-- `booking` meets its contract: a refusal of opening is the booking's.
use Rattle.std.proofs.Common.{sym, ◌∙◌}
use Rattle.std.proofs.lemmas.Result.{err_from_is_err_and}
use Rattle.run_booking.specs.Booked.{booked_read}
use Rattle.run_booking.proofs.Decided.{refused_then}
use Rattle.run_booking.proofs.booking.Goals as goal

pub returns-in_err-p : goal.returns-in_err-p
unfolding booked_read
returns-in_err-p c =
    let a = c.args in
    let f = err_from_is_err_and c.from_residual-in_err-p.result c.from_residual-in_err-p.ensures.1 in
    rw (f.1, f.2) (sym (refused_then a.taps.mode_s.now a.taps.mode_ac.now c.prepare_at.result a.time a.draws.now a.settings.now c.in_ok-setting.setting (sym c.samples_per_pulse.ensures ∙ c.in_ok-setting.was) c.if-draws-ne0.false c.prepare_at.ensures _ c.in_err-p.was))
