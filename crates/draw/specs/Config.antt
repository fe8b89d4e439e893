-- What a draw becomes at its time: the time after it, its message, and its start.
use Rattle.std.specs.Prelude.{ℕ, List, ℤ, Float, Option, Some, None, Result, Ok, Err, replicate}
use Rattle.std.specs.Float.{binary64}
use Rattle.std.specs.Float.Ieee.{add}
use Rattle.distributions.specs.Drawn.{offset_of, phase_of, error_of}
use Rattle.message.specs.declared.MessageType.{MessageType}
use Rattle.message.specs.declared.MessageType.TheVariants.{ModeAc}
use Rattle.message.specs.declared.ReplyKind.{ReplyKind}
use Rattle.message.specs.declared.Picks.{Picks}
use Rattle.message.specs.declared.Reply.{Reply}
use Rattle.message.specs.Types.{type_numbered}
use Rattle.message.specs.Making.{kind_of, made}
use Rattle.message_config.specs.declared.Delays.{Delays}
use Rattle.message_config.specs.declared.MessageConfig.{MessageConfig}
use Rattle.message_config.specs.Config.{config_start}
use Rattle.settings.specs.declared.Distributions.{Distributions}
use Rattle.draw.specs.declared.Draw.{Draw}

-- the type drawn. A number that no type has, which a run refuses at field 1, is read as Mode A/C
unfoldable pub type_drawn : Option MessageType → MessageType
type_drawn (Some t) = t
type_drawn None = ModeAc

unfoldable pub kind_drawn : Draw → ReplyKind
kind_drawn d = kind_of (type_drawn (type_numbered d.kind))

-- SPECIFICATION 5.3: the time before, 0.0 at first, plus the gap
unfoldable pub time_after : Float → Draw → Float
time_after before d = add binary64 before d.gap

unfoldable pub error_drawn : Distributions → Draw → Float
error_drawn all d = error_of all.clock d.clock

-- the bytes of the reply that was made; zeros where a field is at fault
unfoldable pub bytes_made : Result Reply ℕ → List ℕ
bytes_made (Ok r) = r.bytes
bytes_made (Err field) = replicate 14 0

-- the bytes of the reply that a type's number and picks make
unfoldable pub bytes_drawn : ℕ → Picks → List ℕ
bytes_drawn kind p = bytes_made (made (type_drawn (type_numbered kind)) p)

-- the message of a draw at its time, given its reply's bytes
unfoldable pub config_with : Distributions → Float → Draw → List ℕ → MessageConfig
config_with all time d bytes = record {
  time = time;
  cn0 = d.cn0;
  offset = offset_of all.carrier d.carrier;
  phase = phase_of all.phase d.phase;
  error = error_drawn all d;
  reply = record { kind = kind_drawn d; bytes = bytes };
}

-- the message of a draw at its time
unfoldable pub config_of : Distributions → Float → Draw → MessageConfig
config_of all time d = config_with all time d (bytes_drawn d.kind d.picks)

-- the start of a draw at its time: its message's own
abbrev pub start_at : Distributions → Delays → Float → Draw → ℤ
start_at all delays time d = config_start delays (config_of all time d)
