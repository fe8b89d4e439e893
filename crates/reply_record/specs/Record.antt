-- A record's 66 bytes (SPECIFICATION 4.5).
use Rattle.std.specs.Prelude.{ℕ, cond, List, [], ◌∷◌, ◌++◌, Float}
use Rattle.std.specs.Float.{binary64}
use Rattle.std.specs.Float.Ieee.{to_bits}
use Rattle.le_read.specs.LeBytes.{bytes_of, inside, overwritten}
use Rattle.message.specs.declared.Reply.{Reply}
use Rattle.message.specs.declared.ReplyKind.{ReplyKind}
use Rattle.message.specs.declared.ReplyKind.TheVariants.{Short, Long, ModeAc}
use Rattle.message_config.specs.declared.MessageConfig.{MessageConfig}

-- the bytes of a record
abbrev pub record_length : ℕ
record_length = 66

-- the bytes of a message: 7, 14, or 2 for Mode A/C
unfoldable pub message_length : ReplyKind → ℕ
message_length Short = 7
message_length Long = 14
message_length ModeAc = 2

unfoldable pub f64_bytes : Float → List ℕ
f64_bytes x = bytes_of 8 (to_bits binary64 x)

-- offsets 0 to 39 (SPECIFICATION 4.5): time, CN0, offset, phase and clock error
unfoldable pub float_bytes : MessageConfig → List ℕ
float_bytes c = f64_bytes c.time ++ f64_bytes c.cn0 ++ f64_bytes c.offset ++ f64_bytes c.phase ++ f64_bytes c.error

-- offsets 40 to 65 (SPECIFICATION 4.5): first sample, type, count, message length and message
unfoldable pub other_bytes : Reply → ℕ → ℕ → ℕ → List ℕ
other_bytes reply first type count = bytes_of 8 first ++ (type ∷ []) ++ bytes_of 2 count ++ (message_length reply.kind ∷ []) ++ reply.bytes

-- the record of a message with its first sample, its type's number and its count of samples
unfoldable pub record_bytes : MessageConfig → ℕ → ℕ → ℕ → List ℕ
record_bytes c first type count = float_bytes c ++ other_bytes c.reply first type count

-- s with a record written from at; s itself where it would run past the end
unfoldable pub record_at : List ℕ → ℕ → List ℕ → List ℕ
record_at s at record' = cond (inside record_length s at) (overwritten s at record') s
