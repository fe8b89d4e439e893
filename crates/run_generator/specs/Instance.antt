-- What the settings and filters of a run make of draws: the generator, as plain run and plain bench take it (SPECIFICATION 10).
use Rattle.std.specs.Prelude.{ℕ, Bool, not, List, map, Float}
use Rattle.std.specs.Float.{binary32}
use Rattle.std.specs.Float.Ieee.{of_bits}
use Rattle.constants.specs.declared.SamplesPerPulse.{SamplesPerPulse}
use Rattle.constants.specs.Setting.{per_pulse}
use Rattle.run_theory.specs.Generator.{Generator, start_from, Pair}
use Rattle.run_theory.specs.FloatGenerator.{Draws, generator}
use Rattle.floats.specs.Range.{within}
use Rattle.message_config.specs.declared.Delays.{Delays}
use Rattle.settings.specs.declared.Distributions.{Distributions}
use Rattle.settings.specs.declared.MessagesPerSecond.{MessagesPerSecond}
use Rattle.draw.specs.declared.Draw.{Draw}
use Rattle.draw.specs.Draw.{draw_at, Representable}
use Rattle.draw.specs.Fault.{draw_fault}
use Rattle.draw.specs.Config.{start_at, config_of}
use Rattle.draw.proofs.Bytes.{read_held}
use Rattle.reply_samples.specs.declared.Sample.{Sample}
use Rattle.reply_samples.specs.Samples.{reply_samples}
use Rattle.reply_record.specs.Record.{record_bytes}

unfoldable pub pair_of : Sample → Pair Float
pair_of z = record { re = z.re; im = z.im }

-- Refusal 8 (SPECIFICATION 3.1): a noise value not finite or above 64 in size
unfoldable pub out_of_range : Float → Bool
out_of_range v = not (within v (of_bits binary32 0x4280_0000))

-- what a run is opened to: samples per pulse, rates, distributions, delays and prototypes
pub record Filters : Type 0 where
  pub setting : SamplesPerPulse
  pub rates : MessagesPerSecond
  pub distributions : Distributions
  pub delays : Delays
  pub mode_s : List Float
  pub mode_ac : List Float

-- a draw that bytes can hold: each number is a value of its format, as those of every 65 bytes are (`read_held`); two with the same fields are the same (`same-draw` of proofs/SameDraw.antt)
pub record RepresentableDraw : Type 0 where
  pub draw : Draw
  pub held : Representable draw

-- its samples per pulse as a number
abbrev pub pulse_samples : Filters → ℕ
pulse_samples f = per_pulse f.setting

abbrev pub draws : Filters → Draws
draws f = record {
  Draw = RepresentableDraw;
  gap = λ d. d.draw.gap;
  start = λ t d. start_from (start_at f.distributions f.delays t d.draw);
  adds = λ t d s. map pair_of (reply_samples (pulse_samples f) f.mode_s f.mode_ac f.delays d.draw.amplitude (config_of f.distributions t d.draw));
  entry = λ t d s n. record_bytes (config_of f.distributions t d.draw) s d.draw.kind n;
  fault = λ d. draw_fault f.rates f.distributions d.draw;
  out_of_range = out_of_range;
  draw_at = λ s. record { draw = draw_at s; held = read_held s };
}

-- the generator of a run of n samples
abbrev pub instance_of : Filters → ℕ → Generator
instance_of f total = generator (draws f) (pulse_samples f) total
