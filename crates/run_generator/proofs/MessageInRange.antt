-- The message of a draw in range is in range, by filters in range (`message-in-range`). So every number that follows from a draw is what `NeverNan` of `message_config` says (`draw-finite`, `reply-finite`).
use Prim.Native.Nat.{ℕ, ◌^◌, ◌<◌}
use mathlib.Core.Path.{◌≡◌}
use lib.IntN.{pos}
use lib.Ieee.{Float}
use Rattle.constants.proofs.Settings.{rate_few}
use Rattle.message_config.proofs.InRange.{TimeInRange, MessageInRange}
use Rattle.message_config.proofs.NeverNan.{DrawNumbers, ReplyNumbers, draw_numbers, reply_numbers}
use Rattle.draw.specs.Config.{config_with, config_of, start_at}
use Rattle.draw.proofs.InRange.{InRange}
use Rattle.run_generator.specs.Instance.{Filters, pulse_samples, RepresentableDraw}
use Rattle.run_generator.proofs.DrawInRange.{message_error}
use Rattle.run_generator.proofs.DrawnInRange.{drawn_offset, drawn_phase}
use Rattle.run_generator.proofs.FiltersInRange.{FiltersInRange}

module _ (f : Filters) (R : FiltersInRange f) (t : Float) (A : TimeInRange t) (d : RepresentableDraw) (r : InRange f.rates f.distributions d.draw) where
  pub message_in_range : MessageInRange (pulse_samples f) (config_of f.distributions t d.draw)
  unfolding config_of config_with
  message_in_range =
      let offset = drawn_offset (pulse_samples f) (rate_few f.setting) f.distributions.carrier d.draw.carrier R.distributions.carrier r.carrier in
      record {
        time = A;
        error = message_error f.rates f.distributions R.distributions.clock d.draw d.held.clock r t;
        offset_fit = offset.0;
        offset = offset.1;
        phase = drawn_phase f.distributions.phase d.draw.phase R.distributions.phase d.held.phase r.phase;
      }

  pub draw_finite : DrawNumbers (pulse_samples f) f.delays (config_of f.distributions t d.draw)
  draw_finite = draw_numbers f.setting f.delays R.delays (config_of f.distributions t d.draw) message_in_range

  pub reply_finite : (s : ℕ) → start_at f.distributions f.delays t d.draw ≡ pos s → s < 2 ^ 52 → ReplyNumbers (pulse_samples f) f.delays (config_of f.distributions t d.draw)
  reply_finite s e few = reply_numbers f.setting f.delays R.delays (config_of f.distributions t d.draw) message_in_range s e few
