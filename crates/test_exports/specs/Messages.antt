-- How a message and its delays cross from the Rust, as numbers.
use Rattle.std.specs.Prelude.{Bool, true, false, replicate, Float}
use Rattle.message.specs.declared.ReplyKind.{ReplyKind}
use Rattle.message.specs.declared.ReplyKind.TheVariants.{Long, ModeAc}
use Rattle.message_config.specs.declared.Delays.{Delays}
use Rattle.message_config.specs.declared.MessageConfig.{MessageConfig}

unfoldable pub kind_of : Bool → ReplyKind
kind_of true = ModeAc
kind_of false = Long

-- the bytes of the reply change none of its numbers
unfoldable pub message_at : Float → Float → Float → Float → ReplyKind → MessageConfig
message_at t o p e k = record { time = t; cn0 = t; offset = o; phase = p; error = e; reply = record { kind = k; bytes = replicate 14 0 } }

unfoldable pub delays_at : Float → Float → Delays
delays_at s a = record { mode_s = s; mode_ac = a }
