-- What a reply adds to a sample is at most 336 times 2 ^ 20 in each part, where its amplitude is at most 2 ^ 20 and its clock, rate and phase are in range (`reply-sized`).
use mathlib.Core.Path.{◌≡◌, refl}
use Prim.Native.Nat.{ℕ, ◌*◌, ◌^◌}
use mathlib.Core.Bool.{true}
use mathlib.Core.List.{List, [], ◌∷◌}
use lib.Dec.{lit≤}
use lib.ListN.{length}
use lib.Ieee.{Float, nan, inf, fin, binary32, binary64, up, down, round, add, mul}
use lib.Ieee.Fits.{down_pos}
use Rattle.constants.specs.declared.SamplesPerPulse.{SamplesPerPulse}
use Rattle.constants.specs.Setting.{per_pulse}
use Rattle.constants.specs.Rate.{prototype_length}
use Rattle.float_rounding.proofs.AtMost.{AtMost, Rounds, rounds_whole, at_most_within, round_at_most, mul_at_most}
use Rattle.float_rounding.proofs.Size.{Within}
use Rattle.floats.specs.Narrow.{narrow}
use Rattle.math.specs.Phase.{phase_wrap_once}
use Rattle.math.specs.Carrier.{sin_cos}
use Rattle.math.proofs.Constants.{pi_units}
use Rattle.math.proofs.Sums.{unity}
use Rattle.math.proofs.Bounded.{sin_cos_within}
use Rattle.math.proofs.InRange.{stepped_within}
use Rattle.run_theory.specs.Each.{Each}
use Rattle.message.specs.declared.ReplyKind.{ReplyKind}
use Rattle.message.specs.declared.ReplyKind.TheVariants.{Short, Long, ModeAc}
use Rattle.message_config.specs.declared.Delays.{Delays}
use Rattle.message_config.specs.declared.MessageConfig.{MessageConfig}
use Rattle.message_config.specs.Config.{config_clock_phase, config_clock_error, config_rate, config_phase}
use Rattle.pulse_shape.specs.Accepted.{all_within16}
use Rattle.filterbank.specs.Apply.{apply_filterbank}
use Rattle.reply_pulses.specs.ReplyPulses.{positions_of}
use Rattle.reply_samples.specs.declared.Sample.{Sample}
use Rattle.reply_samples.specs.Samples.{sample_at, rotated, samples_by, prototype_of, reply_samples}
use Rattle.reply_samples.proofs.Counts.{ClockInRange}
use Rattle.run_generator.proofs.Values.{values_sized}

-- 2 ^ 20 times 336
abbrev pub most : ℕ
most = 352321536

abbrev pub Sized : Sample → Type 0
Sized z = AtMost most z.re × AtMost most z.im

-- ---- one sample
narrow_sized : (x : Float) → AtMost 1 x → AtMost 1 (narrow x)
unfolding narrow
narrow_sized nan h = h
narrow_sized (inf s) h = h
narrow_sized (fin s m e) h = round_at_most binary32 s (m * up e) (down e) 1 1 (down_pos e) h (rounds_whole binary32 1 (lit≤ tt))

most_held : Rounds binary32 most most
unfolding round
most_held = (refl, refl)

part_sized : (amplitude value x : Float) → AtMost (2 ^ 20) amplitude → AtMost 336 value → Within x unity → AtMost most (mul binary32 (mul binary32 amplitude value) (narrow x))
part_sized amplitude value x a v w =
    mul_at_most binary32 (mul binary32 amplitude value) (narrow x) most 1 most (mul_at_most binary32 amplitude value (2 ^ 20) 336 most a v most_held) (narrow_sized x (at_most_within x unity 1 (lit≤ tt) w)) most_held

sample_sized : (amplitude value phase : Float) → AtMost (2 ^ 20) amplitude → AtMost 336 value → Within phase pi_units → Sized (sample_at amplitude value phase)
unfolding sample_at
sample_sized amplitude value phase a v w =
    let b = sin_cos_within phase w in
    (part_sized amplitude value (sin_cos phase).cos a v b.1, part_sized amplitude value (sin_cos phase).sin a v b.0)

-- ---- all of them
rotated_sized : (amplitude rate phase : Float) (vs : List Float) → AtMost (2 ^ 20) amplitude → Within rate pi_units → Within phase pi_units → Each (AtMost 336) vs → Each Sized (rotated amplitude rate phase vs)
unfolding rotated
rotated_sized amplitude rate phase [] a r w h = tt
rotated_sized amplitude rate phase (v ∷ vs) a r w h =
    (sample_sized amplitude v phase a h.0 w, rotated_sized amplitude rate (phase_wrap_once (add binary64 phase rate)) vs a r (stepped_within phase rate w r) h.1)

-- a prototype that a run is opened with
pub record SmallPrototype (s : SamplesPerPulse) (p : List Float) : Type 0 where
  pub whole : length p ≡ prototype_length (per_pulse s)
  pub small : all_within16 p ≡ true

module _ (s : SamplesPerPulse) where
  own : (k : ReplyKind) (mode_s mode_ac : List Float) → SmallPrototype s mode_s → SmallPrototype s mode_ac → SmallPrototype s (prototype_of k mode_s mode_ac)
  unfolding prototype_of
  own Short mode_s mode_ac p q = p
  own Long mode_s mode_ac p q = p
  own ModeAc mode_s mode_ac p q = q

  pub reply_sized : (mode_s mode_ac : List Float) → SmallPrototype s mode_s → SmallPrototype s mode_ac → (delays : Delays) (amplitude : Float) (c : MessageConfig) → AtMost (2 ^ 20) amplitude → ClockInRange delays c → Within (config_rate (per_pulse s) c) pi_units → Within (config_phase (per_pulse s) delays c) pi_units
      → Each Sized (reply_samples (per_pulse s) mode_s mode_ac delays amplitude c)
  unfolding reply_samples samples_by
  reply_sized mode_s mode_ac p q delays amplitude c a clock rate phase =
      let g = own c.reply.kind mode_s mode_ac p q in
      rotated_sized amplitude (config_rate (per_pulse s) c) (config_phase (per_pulse s) delays c) (apply_filterbank (per_pulse s) (prototype_of c.reply.kind mode_s mode_ac) (positions_of c.reply) (config_clock_phase delays c) (config_clock_error c)) a rate phase
      (values_sized s (prototype_of c.reply.kind mode_s mode_ac) g.whole g.small (positions_of c.reply) (config_clock_phase delays c) (config_clock_error c) clock)
