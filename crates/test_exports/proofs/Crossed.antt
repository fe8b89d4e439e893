-- The numbers of a message that cross to the Rust, from what `port_message` calls.
use mathlib.Core.Path.{◌≡◌, ap, ◌∙◌}
use mathlib.Core.List.{[], ◌∷◌}
use lib.IntN.{ℤ}
use lib.Ieee.{Float}
use Rattle.constants.specs.Rate.{four}
use Rattle.message.specs.declared.ReplyKind.{ReplyKind}
use Rattle.message_config.specs.declared.Delays.{Delays}
use Rattle.message_config.specs.declared.Onset.{Onset}
use Rattle.message_config.specs.Config.{config_start, config_clock_phase, config_clock_error, config_rate, config_phase, onset_of}
use Rattle.test_exports.specs.Messages.{message_at}

module _ (delays : Delays) (time offset phase error : Float) (kind k : ReplyKind) (sent : k ≡ kind) where
  pub start_crosses : (z : ℤ) → z ≡ config_start delays (message_at time offset phase error k) → z ≡ config_start delays (message_at time offset phase error kind)
  start_crosses z e = e ∙ ap (λ (x : ReplyKind). config_start delays (message_at time offset phase error x)) sent

  pub onset_crosses : (o : Onset) → o ≡ onset_of four delays (message_at time offset phase error k)
      → o.clock_error ∷ o.clock_phase ∷ o.carrier_rate ∷ o.carrier_phase ∷ [] ≡ config_clock_error (message_at time offset phase error kind) ∷ config_clock_phase delays (message_at time offset phase error kind) ∷ config_rate four (message_at time offset phase error kind) ∷ config_phase four delays (message_at time offset phase error kind) ∷ []
  unfolding onset_of
  onset_crosses o e = ap (λ (x : Onset). x.clock_error ∷ x.clock_phase ∷ x.carrier_rate ∷ x.carrier_phase ∷ []) (e ∙ ap (λ (x : ReplyKind). onset_of four delays (message_at time offset phase error x)) sent)
