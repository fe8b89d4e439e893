-- A draw in range becomes a message of its own type: no type or reply is put in its place (`type-drawn`, `reply-drawn`). A message starts where it does before its reply's bytes are made (`start-before-bytes`).
use Rattle.std.specs.Prelude.{Option}
use mathlib.Core.Path.{◌≡◌, refl, ap, ◌∙◌}
use mathlib.Core.List.{List}
use Prim.Native.Nat.{ℕ}
use lib.Ieee.{Float}
use Rattle.message.specs.declared.MessageType.{MessageType}
use Rattle.message.specs.Types.{type_numbered}
use Rattle.message.specs.Making.{kind_of, reply_of, made_where, made}
use Rattle.message_config.specs.declared.Delays.{Delays}
use Rattle.message_config.specs.Config.{config_start}
use Rattle.settings.specs.declared.Distributions.{Distributions}
use Rattle.settings.specs.declared.MessagesPerSecond.{MessagesPerSecond}
use Rattle.draw.specs.declared.Draw.{Draw}
use Rattle.draw.specs.Config.{type_drawn, kind_drawn, bytes_made, bytes_drawn, config_with, config_of, start_at}
use Rattle.draw.proofs.InRange.{InRange, no_pick_fault}

-- the start does not depend on the reply's bytes
pub start_before_bytes : (all : Distributions) (delays : Delays) (time : Float) (d : Draw) (bytes : List ℕ) → config_start delays (config_with all time d bytes) ≡ start_at all delays time d
unfolding config_start config_with config_of
start_before_bytes all delays time d bytes = refl

module _ (rates : MessagesPerSecond) (all : Distributions) (d : Draw) (r : InRange rates all d) where
  pub type_drawn_lem : type_drawn (type_numbered d.kind) ≡ r.message_type
  unfolding type_drawn
  type_drawn_lem = ap type_drawn r.known

  pub kind_drawn_lem : kind_drawn d ≡ kind_of r.message_type
  unfolding kind_drawn
  kind_drawn_lem = ap kind_of type_drawn_lem

  bytes_drawn_lem : bytes_drawn d.kind d.picks ≡ (reply_of r.message_type d.picks).bytes
  unfolding bytes_drawn bytes_made made made_where
  bytes_drawn_lem =
      ap (λ (t : MessageType). bytes_made (made t d.picks)) type_drawn_lem
      ∙ ap (λ (f : Option ℕ). bytes_made (made_where f (reply_of r.message_type d.picks))) (no_pick_fault r.message_type d.picks r.picks)

  pub reply_drawn : (time : Float) → (config_of all time d).reply ≡ reply_of r.message_type d.picks
  unfolding config_of config_with reply_of
  reply_drawn time = λ i. record { kind = kind_drawn_lem i; bytes = bytes_drawn_lem i }
