-- What `add` leaves, from what its calls give.
use Prim.Native.Nat.{ℕ, ◌%◌}
use mathlib.Core.Path.{◌≡◌, ◌∙◌}
use mathlib.Core.List.{List}
use lib.ListN.{get_or}
use lib.Ieee.{Float, binary32, of_bits}
use Rattle.constants.specs.Rate.{ring_slots}
use Rattle.constants.specs.Setting.{per_pulse}
use Rattle.constants.specs.declared.SamplesPerPulse.{SamplesPerPulse}
use Rattle.le_read.specs.LeBytes.{number_at}
use Rattle.message.specs.declared.Picks.{Picks}
use Rattle.message_config.specs.declared.Delays.{Delays}
use Rattle.message_config.specs.declared.MessageConfig.{MessageConfig}
use Rattle.draw.specs.Draw.{picks_at, draw_at}
use Rattle.draw.specs.Pending.{completed_by}
use Rattle.reply_record.specs.Record.{record_bytes, record_at}
use Rattle.reply_samples.specs.Samples.{reply_samples, reply_count}
use Rattle.reply_samples.specs.RingModel.{added_reply, added_count}
use Rattle.run_call.specs.RecordedModel.{message_at, memory_with, count_with, records_with}

module _ (setting : SamplesPerPulse) (pending : MessageConfig) (delays : Delays) (first : ℕ) (rest : List ℕ) (place kind : ℕ) (amplitude : Float) (p : Picks) (c : MessageConfig)
    (here : place ≡ first % ring_slots (per_pulse setting)) (type : kind ≡ get_or rest 8 0) (loudness : amplitude ≡ of_bits binary32 (number_at 4 rest 17)) (picks : p ≡ picks_at rest) (made : c ≡ completed_by pending kind p) where
  abbrev sps : ℕ
  sps = per_pulse setting

  message : c ≡ message_at setting pending delays first rest
  unfolding draw_at
  message = made ∙ (λ i. completed_by pending (type i) (picks i))

  pub added : (mode_s mode_ac m m' : List Float) → m' ≡ added_reply sps m place (reply_samples sps mode_s mode_ac delays amplitude c) → m' ≡ memory_with setting pending delays first rest mode_s mode_ac m
  unfolding memory_with draw_at
  added mode_s mode_ac m m' e = e ∙ (λ i. added_reply sps m (here i) (reply_samples sps mode_s mode_ac delays (loudness i) (message i)))

  pub counted : (m : List Float) (n : ℕ) → n ≡ added_count sps m place (reply_count sps delays c) → n ≡ count_with setting pending delays first rest m
  unfolding count_with
  counted m n e = e ∙ (λ j. added_count sps m (here j) (reply_count sps delays (message j)))

  pub recorded : (m : List Float) (s s' : List ℕ) (at n : ℕ) → n ≡ added_count sps m place (reply_count sps delays c) → s' ≡ record_at s at (record_bytes c first kind n) → s' ≡ records_with setting pending delays first rest m at s
  unfolding records_with draw_at
  recorded m s s' at n e q = q ∙ (λ i. record_at s at (record_bytes (message i) first (type i) (counted m n e i)))
