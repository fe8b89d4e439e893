-- A record has 66 bytes (`record-length`), its reply having 14.
use Prim.Native.Nat.{ℕ}
use mathlib.Core.Path.{◌≡◌}
use lib.ListN.{length, length-append}
use Rattle.le_read.proofs.Halves.{length_bytes}
use Rattle.message.specs.declared.Reply.{Reply}
use Rattle.message_config.specs.declared.MessageConfig.{MessageConfig}
use Rattle.reply_record.specs.Record.{record_length, f64_bytes, float_bytes, other_bytes, record_bytes}

pub float_length : (c : MessageConfig) → length (float_bytes c) ≡ 40
unfolding float_bytes f64_bytes
float_length c = simp (length-append, length_bytes)

pub other_length : (r : Reply) (first type count : ℕ) → length r.bytes ≡ 14 → length (other_bytes r first type count) ≡ 26
unfolding other_bytes
other_length r first type count h = simp (length-append, length_bytes, h)

pub record_length_lem : (c : MessageConfig) (first type count : ℕ) → length c.reply.bytes ≡ 14 → length (record_bytes c first type count) ≡ record_length
unfolding record_bytes
record_length_lem c first type count h = simp (length-append, float_length c, other_length c.reply first type count h)
