-- The samples that a reply adds, from its first one on: `MessageConfig::samples` of the Rust, which knows not where they are added. Their number is a definition apart from their values.
use Rattle.std.specs.Prelude.{ℕ, List, [], ◌∷◌, length, Float}
use Rattle.std.specs.Float.{binary32, binary64}
use Rattle.std.specs.Float.Ieee.{add, mul}
use Rattle.floats.specs.Narrow.{narrow}
use Rattle.math.specs.Phase.{phase_wrap_once}
use Rattle.math.specs.Carrier.{sin_cos}
use Rattle.message.specs.declared.ReplyKind.{ReplyKind}
use Rattle.message.specs.declared.ReplyKind.TheVariants.{Short, Long, ModeAc}
use Rattle.message_config.specs.declared.Delays.{Delays}
use Rattle.message_config.specs.declared.MessageConfig.{MessageConfig}
use Rattle.message_config.specs.Config.{config_clock_phase, config_clock_error, config_rate, config_phase}
use Rattle.filterbank.specs.Apply.{apply_filterbank, sample_count}
use Rattle.reply_samples.specs.declared.Sample.{Sample}
use Rattle.reply_pulses.specs.ReplyPulses.{positions_of}

-- a value of the filterbank times the amplitude, and that times the cosine and the sine of a phase, each narrowed to f32
unfoldable pub sample_at : Float → Float → Float → Sample
sample_at amplitude value phase =
    let x = mul binary32 amplitude value in
    record { re = mul binary32 x (narrow (sin_cos phase).cos); im = mul binary32 x (narrow (sin_cos phase).sin) }

-- the values in order, the phase going on by the rate and wrapped once after each
unfoldable pub rotated : Float → Float → Float → List Float → List Sample
rotated amplitude rate phase [] = []
rotated amplitude rate phase (v ∷ vs) = sample_at amplitude v phase ∷ rotated amplitude rate (phase_wrap_once (add binary64 phase rate)) vs

-- the samples of a reply by a prototype, given the delays and the draw's amplitude
unfoldable pub samples_by : ℕ → List Float → Delays → Float → MessageConfig → List Sample
samples_by sps prototype delays amplitude c =
    rotated amplitude (config_rate sps c) (config_phase sps delays c) (apply_filterbank sps prototype (positions_of c.reply) (config_clock_phase delays c) (config_clock_error c))

-- each kind of reply has its prototype
unfoldable pub prototype_of : ReplyKind → List Float → List Float → List Float
prototype_of Short mode_s mode_ac = mode_s
prototype_of Long mode_s mode_ac = mode_s
prototype_of ModeAc mode_s mode_ac = mode_ac

-- the samples of a reply, given the two prototypes
unfoldable pub reply_samples : ℕ → List Float → List Float → Delays → Float → MessageConfig → List Sample
reply_samples sps mode_s mode_ac delays amplitude c = samples_by sps (prototype_of c.reply.kind mode_s mode_ac) delays amplitude c

-- how many they are: the count of a reply (SPECIFICATION 6.8)
unfoldable pub reply_count : ℕ → Delays → MessageConfig → ℕ
reply_count sps delays c = sample_count sps (length (positions_of c.reply)) (config_clock_phase delays c) (config_clock_error c)
