-- How a message's configuration crosses from the Rust, as numbers.
use Rattle.std.specs.Prelude.{ℕ, List, Float}
use Rattle.message.specs.declared.ReplyKind.{ReplyKind}
use Rattle.message_config.specs.declared.MessageConfig.{MessageConfig}

unfoldable pub config_at : Float → Float → Float → Float → Float → ReplyKind → List ℕ → MessageConfig
config_at time cn0 offset phase error kind bytes = record { time = time; cn0 = cn0; offset = offset; phase = phase; error = error; reply = record { kind = kind; bytes = bytes } }
