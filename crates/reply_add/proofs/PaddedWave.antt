-- The samples of a wave over padded pulses are those of the reply.
use Prim.Native.Nat.{ℕ, zero, suc, ◌≤◌}
use mathlib.Core.Path.{◌≡◌, refl, sym, ap, ◌∙◌}
use mathlib.Core.Bool.{Bool, cond}
use mathlib.Core.List.{List, [], ◌∷◌}
use lib.Dec.{ltb}
use lib.ListN.{length}
use lib.Ieee.{Float}
use Rattle.constants.specs.Setting.{per_pulse}
use Rattle.message_config.specs.Config.{config_clock_phase, config_clock_error, config_rate, config_phase}
use Rattle.filterbank.specs.declared.Clock.{Clock}
use Rattle.filterbank.specs.PaddedPulsesModel.{pad_pulses}
use Rattle.filterbank.specs.Clocked.{step_of, start_clock, advance}
use Rattle.filterbank.specs.Apply.{clock_values, limit_of, fuel_of, value_at, apply_filterbank}
use Rattle.filterbank.proofs.ValueAt.{value_padded}
use Rattle.reply_pulses.specs.ReplyPulses.{pulses_of, positions_of}
use Rattle.reply_samples.specs.Samples.{rotated, samples_by}
use Rattle.reply_add.specs.declared.ReplySignal.{ReplySignal}
use Rattle.reply_add.specs.AddModel.{padded_value, wave_of, wave_samples}
use Rattle.reply_pulses.proofs.Positions.{positions_len, positions_most}

-- ---- the same value at every clock
values_alike : (f g : Clock → Float) → ((s : Clock) → f s ≡ g s) → (fuel limit : ℕ) (d : Float) (s : Clock) → clock_values fuel limit d f s ≡ clock_values fuel limit d g s
unfolding clock_values
values_alike f g h zero limit d s = refl
values_alike f g h (suc fuel) limit d s =
    ap (λ (v : Float). cond (ltb s.index limit) (v ∷ clock_values fuel limit d f (advance d s)) []) (h s)
    ∙ ap (λ (l : List Float). cond (ltb s.index limit) (g s ∷ l) []) (values_alike f g h fuel limit d (advance d s))

value_alike : (sps : ℕ) (prototype : List Float) (pulses : List Bool) → length pulses ≤ 240 → (s : Clock) → padded_value sps prototype (pad_pulses pulses) s ≡ value_at sps prototype pulses s
unfolding padded_value
value_alike sps prototype pulses h s = value_padded sps prototype pulses s h

pub wave_samples_lem : (r : ReplySignal) (prototype : List Float) → wave_samples (per_pulse r.setting) prototype (pad_pulses (positions_of r.config.reply)) (wave_of r (pulses_of r.config.reply).len) ≡ samples_by (per_pulse r.setting) prototype r.delays r.amplitude r.config
unfolding wave_samples wave_of samples_by apply_filterbank
wave_samples_lem r prototype =
    let sps = per_pulse r.setting in
    let positions = positions_of r.config.reply in
    let step = step_of sps (config_clock_error r.config) in
    let first = start_clock sps (config_clock_phase r.delays r.config) in
    let turned = rotated r.amplitude (config_rate sps r.config) (config_phase sps r.delays r.config) in
    ap (λ (n : ℕ). turned (clock_values (fuel_of sps (limit_of n)) (limit_of n) step (padded_value sps prototype (pad_pulses positions)) first)) (sym (positions_len r.config.reply))
    ∙ ap turned (values_alike (padded_value sps prototype (pad_pulses positions)) (value_at sps prototype positions) (value_alike sps prototype positions (positions_most r.config.reply)) (fuel_of sps (limit_of (length positions))) (limit_of (length positions)) step first)
