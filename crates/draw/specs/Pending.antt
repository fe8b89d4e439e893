-- A model of code: a draw's message before its reply's bytes are made, and with them.
use Rattle.std.specs.Prelude.{ℕ, replicate, Float}
use Rattle.message.specs.declared.Picks.{Picks}
use Rattle.message_config.specs.declared.MessageConfig.{MessageConfig}
use Rattle.settings.specs.declared.Distributions.{Distributions}
use Rattle.draw.specs.declared.Draw.{Draw}
use Rattle.draw.specs.Config.{bytes_drawn, config_with}

-- all but the reply's bytes, which are 0
unfoldable pub pending_of : Distributions → Float → Draw → MessageConfig
pending_of all time d = config_with all time d (replicate 14 0)

-- a message with the bytes of its reply, given its type's number and picks
unfoldable pub completed_by : MessageConfig → ℕ → Picks → MessageConfig
completed_by c kind p = record {
  time = c.time;
  cn0 = c.cn0;
  offset = c.offset;
  phase = c.phase;
  error = c.error;
  reply = record { kind = c.reply.kind; bytes = bytes_drawn kind p };
}
