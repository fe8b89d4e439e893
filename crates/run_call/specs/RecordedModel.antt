-- A model of code: a reply added into working memory and recorded, from its message and the bytes of its draw: what is left of the two.
use Rattle.std.specs.Prelude.{ℕ, ◌%◌, List, Float}
use Rattle.constants.specs.Rate.{ring_slots}
use Rattle.constants.specs.Setting.{per_pulse}
use Rattle.constants.specs.declared.SamplesPerPulse.{SamplesPerPulse}
use Rattle.message_config.specs.declared.Delays.{Delays}
use Rattle.message_config.specs.declared.MessageConfig.{MessageConfig}
use Rattle.draw.specs.Draw.{draw_at}
use Rattle.draw.specs.Pending.{completed_by}
use Rattle.reply_record.specs.Record.{record_bytes, record_at}
use Rattle.reply_samples.specs.Samples.{reply_samples, reply_count}
use Rattle.reply_samples.specs.RingModel.{added_reply, added_count}

-- the samples per pulse, the message but for its reply's bytes, its first sample, and the bytes that begin with its draw
module _ (setting : SamplesPerPulse) (pending : MessageConfig) (delays : Delays) (first : ℕ) (rest : List ℕ) where
  abbrev pub message_at : MessageConfig
  message_at = completed_by pending (draw_at rest).kind (draw_at rest).picks

  -- its samples are added from the slot of its first sample on
  unfoldable pub memory_with : List Float → List Float → List Float → List Float
  memory_with mode_s mode_ac memory = added_reply (per_pulse setting) memory (first % ring_slots (per_pulse setting)) (reply_samples (per_pulse setting) mode_s mode_ac delays (draw_at rest).amplitude message_at)

  -- the count of the samples added
  unfoldable pub count_with : List Float → ℕ
  count_with memory = added_count (per_pulse setting) memory (first % ring_slots (per_pulse setting)) (reply_count (per_pulse setting) delays message_at)

  -- its record is written from an offset on, with that count
  unfoldable pub records_with : List Float → ℕ → List ℕ → List ℕ
  records_with memory at records = record_at records at (record_bytes message_at first (draw_at rest).kind (count_with memory))
