-- A draw's message, before its reply's bytes are made and after: it starts where the draw does (`pending-start`), and completed it is the draw's (`completed-is`).
use mathlib.Core.Path.{◌≡◌, refl}
use lib.Ieee.{Float}
use Rattle.message_config.specs.declared.Delays.{Delays}
use Rattle.message_config.specs.Config.{config_start}
use Rattle.settings.specs.declared.Distributions.{Distributions}
use Rattle.draw.specs.declared.Draw.{Draw}
use Rattle.draw.specs.Config.{config_with, config_of, start_at}
use Rattle.draw.proofs.Message.{start_before_bytes}
use Rattle.draw.specs.Pending.{pending_of, completed_by}

module _ (all : Distributions) (time : Float) (d : Draw) where
  pub pending_time : (pending_of all time d).time ≡ time
  unfolding pending_of config_with
  pending_time = refl

  pub pending_start : (delays : Delays) → config_start delays (pending_of all time d) ≡ start_at all delays time d
  unfolding pending_of
  pending_start delays = start_before_bytes all delays time d _

  pub completed_is : completed_by (pending_of all time d) d.kind d.picks ≡ config_of all time d
  unfolding pending_of completed_by config_with config_of
  completed_is = refl
