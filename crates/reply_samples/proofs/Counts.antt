-- A reply has as many samples as its count says, at any rate; and for a clock error of its filter within 0.1 and a first phase from 0 to 2 samples at most `required_samples` of its pulses: 1,094 at 4 samples per pulse, a short message 596, Mode A/C 218 and with SPI 258.
use Prim.Native.Nat.{ℕ, suc, ◌*◌, ◌≤◌}
use mathlib.Core.Path.{◌≡◌, refl, sym, ap, ◌∙◌, subst}
use mathlib.Core.Bool.{true, false}
use mathlib.Core.List.{List, [], ◌∷◌}
use lib.ListN.{length}
use lib.Ieee.{Float, binary64, add}
use Rattle.constants.specs.declared.SamplesPerPulse.{SamplesPerPulse}
use Rattle.constants.specs.Setting.{per_pulse}
use Rattle.constants.specs.Rate.{required_samples, reply_limit}
use Rattle.math.specs.Phase.{phase_wrap_once}
use Rattle.message.specs.declared.ReplyKind.TheVariants.{Short, ModeAc}
use Rattle.message_config.specs.declared.Delays.{Delays}
use Rattle.message_config.specs.declared.MessageConfig.{MessageConfig}
use Rattle.message_config.specs.Config.{config_clock_phase, config_clock_error, config_rate, config_phase}
use Rattle.pulse_map.specs.ModeAC.{mode_ac_length}
use Rattle.filterbank.specs.Apply.{limit_of, apply_filterbank}
use Rattle.filterbank.proofs.ClockSteps.{cells, least}
use Rattle.filterbank.proofs.EndsByItself.{InRange, ends_within, values_counted, most_pulses, pulses_128, pulses_43, pulses_52}
use Rattle.reply_pulses.specs.ReplyPulses.{spi_of, positions_of}
use Rattle.reply_samples.specs.Samples.{rotated, samples_by, prototype_of, reply_samples, reply_count}
use Rattle.reply_pulses.proofs.Positions.{positions_most, positions_short, positions_mode_ac}

pub rotated_length : (amplitude rate phase : Float) (vs : List Float) → length (rotated amplitude rate phase vs) ≡ length vs
unfolding rotated
rotated_length amplitude rate phase [] = refl
rotated_length amplitude rate phase (v ∷ vs) = ap suc (rotated_length amplitude rate (phase_wrap_once (add binary64 phase rate)) vs)

pub samples_counted : (sps : ℕ) (mode_s mode_ac : List Float) (delays : Delays) (amplitude : Float) (c : MessageConfig) → length (reply_samples sps mode_s mode_ac delays amplitude c) ≡ reply_count sps delays c
unfolding reply_samples samples_by reply_count
samples_counted sps mode_s mode_ac delays amplitude c =
    rotated_length amplitude (config_rate sps c) (config_phase sps delays c) (apply_filterbank sps (prototype_of c.reply.kind mode_s mode_ac) (positions_of c.reply) (config_clock_phase delays c) (config_clock_error c))
    ∙ values_counted sps (prototype_of c.reply.kind mode_s mode_ac) (positions_of c.reply) (config_clock_phase delays c) (config_clock_error c)

-- the first phase and the filter's clock error of a message are in range
abbrev pub ClockInRange : Delays → MessageConfig → Type 0
ClockInRange delays c = InRange (config_clock_phase delays c) (config_clock_error c)

module _ (rate : SamplesPerPulse) (delays : Delays) (c : MessageConfig) where
  count_within : (most : ℕ) → cells * limit_of (length (positions_of c.reply)) ≤ least rate * most → ClockInRange delays c → reply_count (per_pulse rate) delays c ≤ most
  unfolding reply_count
  count_within most h r = ends_within rate (length (positions_of c.reply)) most h (config_clock_phase delays c) (config_clock_error c) r

  pub count_most : ClockInRange delays c → reply_count (per_pulse rate) delays c ≤ reply_limit (per_pulse rate)
  count_most = count_within (reply_limit (per_pulse rate)) (most_pulses rate (length (positions_of c.reply)) (positions_most c.reply))

  count_at : (n : ℕ) → length (positions_of c.reply) ≡ n → cells * limit_of n ≤ least rate * required_samples (per_pulse rate) n → ClockInRange delays c → reply_count (per_pulse rate) delays c ≤ required_samples (per_pulse rate) n
  count_at n e h = count_within (required_samples (per_pulse rate) n) (subst (λ (k : ℕ). cells * limit_of k ≤ least rate * required_samples (per_pulse rate) n) (sym e) h)

  pub count_short : c.reply.kind ≡ Short → ClockInRange delays c → reply_count (per_pulse rate) delays c ≤ required_samples (per_pulse rate) 128
  count_short e = count_at 128 (positions_short c.reply e) (pulses_128 rate)

  pub count_mode_ac : c.reply.kind ≡ ModeAc → spi_of c.reply.bytes ≡ false → ClockInRange delays c → reply_count (per_pulse rate) delays c ≤ required_samples (per_pulse rate) 43
  unfolding mode_ac_length
  count_mode_ac e s = count_at 43 (positions_mode_ac c.reply e ∙ ap mode_ac_length s) (pulses_43 rate)

  pub count_spi : c.reply.kind ≡ ModeAc → spi_of c.reply.bytes ≡ true → ClockInRange delays c → reply_count (per_pulse rate) delays c ≤ required_samples (per_pulse rate) 52
  unfolding mode_ac_length
  count_spi e s = count_at 52 (positions_mode_ac c.reply e ∙ ap mode_ac_length s) (pulses_52 rate)
