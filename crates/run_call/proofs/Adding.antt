-- A reply added slot by slot is the theory's `put`, and its record the theory's `entry`.
use mathlib.Core.Path.{◌≡◌, refl, ap, ◌∙◌}
use mathlib.Core.Bool.{Bool, true, cond}
use mathlib.Core.List.{List, [], ◌∷◌, map, append_assoc}
use Prim.Native.Nat.{ℕ, ◌+◌, ◌%◌, ◌≤◌, ◌<◌}
use native.Mathlib.Nat.{mod-lt}
use native.Mathlib.Numerals.{add-one}
use lib.ListN.{length, take, drop, length-map}
use lib.Ieee.{Float, nan}
use borrow.Author.Tests.{le-leb, eq-eqb, lt-ltb}
use Rattle.constants.specs.Rate.{ring_slots, working_memory}
use Rattle.constants.specs.Setting.{per_pulse}
use Rattle.constants.specs.declared.SamplesPerPulse.{SamplesPerPulse}
use Rattle.constants.proofs.Settings.{ring_pos}
use Rattle.run_call_model.specs.Machine.{put}
use Rattle.le_read.specs.LeBytes.{overwritten}
use Rattle.message_config.specs.declared.Delays.{Delays}
use Rattle.message_config.specs.declared.MessageConfig.{MessageConfig}
use Rattle.settings.specs.declared.Distributions.{Distributions}
use Rattle.draw.specs.Draw.{draw_at}
use Rattle.draw.specs.Config.{config_of}
use Rattle.draw.specs.Pending.{pending_of, completed_by}
use Rattle.draw.proofs.MessageOfDraw.{completed_is}
use Rattle.reply_record.specs.Record.{record_bytes, record_at}
use Rattle.reply_samples.specs.declared.Sample.{Sample}
use Rattle.reply_samples.specs.Samples.{reply_samples, reply_count}
use Rattle.reply_samples.specs.RingModel.{added_at, added_from, is_slot, added_reply, added_count}
use Rattle.reply_samples.proofs.Ring.{next_ring}
use Rattle.reply_samples.proofs.Counts.{samples_counted}
use Rattle.run_call.specs.RecordedModel.{message_at, memory_with, count_with, records_with}
use Rattle.run_generator.specs.Instance.{pair_of, Filters, pulse_samples, instance_of}

module _ (f : Filters) (total : ℕ) where
  abbrev slots : ℕ
  slots = ring_slots (pulse_samples f)

  pub added_put : (zs : List Sample) (m : List Float) (s : ℕ) → added_from (pulse_samples f) m (s % ring_slots (pulse_samples f)) zs ≡ put (instance_of f total) nan m s (map pair_of zs)
  unfolding added_from added_at pair_of
  added_put [] m s = refl
  added_put (z ∷ zs) m s =
      ap (λ (q : ℕ). added_from (pulse_samples f) (added_at m (s % slots) z) q zs) (next_ring f.setting s)
      ∙ added_put zs (added_at m (s % slots) z) (s + 1)
      ∙ ap (λ (n : ℕ). put (instance_of f total) nan (added_at m (s % slots) z) n (map pair_of zs)) (add-one s)

  -- the number of samples that the theory counts
  pub counts : (amplitude : Float) (c : MessageConfig) → length (map pair_of (reply_samples (pulse_samples f) f.mode_s f.mode_ac f.delays amplitude c)) ≡ reply_count (pulse_samples f) f.delays c
  counts amplitude c = length-map (reply_samples (pulse_samples f) f.mode_s f.mode_ac f.delays amplitude c) pair_of ∙ samples_counted (pulse_samples f) f.mode_s f.mode_ac f.delays amplitude c

-- ---- what the two calls leave, at a slot of working memory and where there is room for a record
a_slot : (sps : ℕ) (m : List Float) (slot : ℕ) → length m ≡ working_memory sps → slot < ring_slots sps → is_slot sps m slot ≡ true
unfolding is_slot
a_slot sps m slot e h = rw (eq-eqb (length m) (working_memory sps) e, lt-ltb slot (ring_slots sps) h)

memory_is : (sps : ℕ) (m m' : List Float) (slot : ℕ) (zs : List Sample) → length m ≡ working_memory sps → slot < ring_slots sps → m' ≡ added_reply sps m slot zs → m' ≡ added_from sps m slot zs
unfolding added_reply
memory_is sps m m' slot zs e h p = p ∙ ap (λ (b : Bool). cond b (added_from sps m slot zs) m) (a_slot sps m slot e h)

count_is : (sps : ℕ) (m : List Float) (slot n r : ℕ) → length m ≡ working_memory sps → slot < ring_slots sps → r ≡ added_count sps m slot n → r ≡ n
unfolding added_count
count_is sps m slot n r e h p = p ∙ ap (λ (b : Bool). cond b n 0) (a_slot sps m slot e h)

record_is : (s s' : List ℕ) (at : ℕ) (line : List ℕ) → at + 66 ≤ length s → s' ≡ record_at s at line → s' ≡ overwritten s at line
unfolding record_at
record_is s s' at line h p =
    p ∙ ap (λ (b : Bool). cond b (overwritten s at line) s) (le-leb (at + 66) (length s) h)

-- what adding and recording a reply leaves, in working memory and where there is room for a record
module _ (s : SamplesPerPulse) (all : Distributions) (delays : Delays) (time : Float) (first : ℕ) (rest : List ℕ) (last : MessageConfig) (e : last ≡ pending_of all time (draw_at rest)) (m : List Float) (l : length m ≡ working_memory (per_pulse s)) where
  abbrev slot : ℕ
  slot = first % ring_slots (per_pulse s)

  message : message_at s last delays first rest ≡ config_of all time (draw_at rest)
  message = ap (λ (c : MessageConfig). completed_by c (draw_at rest).kind (draw_at rest).picks) e ∙ completed_is all time (draw_at rest)

  in_ring : slot < ring_slots (per_pulse s)
  in_ring = mod-lt first (ring_pos s)

  pub added_by : (mode_s mode_ac m' : List Float) → m' ≡ memory_with s last delays first rest mode_s mode_ac m
      → m' ≡ added_from (per_pulse s) m slot (reply_samples (per_pulse s) mode_s mode_ac delays (draw_at rest).amplitude (config_of all time (draw_at rest)))
  unfolding memory_with
  added_by mode_s mode_ac m' p =
      memory_is (per_pulse s) m m' slot _ l in_ring (p ∙ ap (λ (c : MessageConfig). added_reply (per_pulse s) m slot (reply_samples (per_pulse s) mode_s mode_ac delays (draw_at rest).amplitude c)) message)

  pub counted_by : (n : ℕ) → n ≡ count_with s last delays first rest m → n ≡ reply_count (per_pulse s) delays (config_of all time (draw_at rest))
  unfolding count_with
  counted_by n p = count_is (per_pulse s) m slot (reply_count (per_pulse s) delays (message_at s last delays first rest)) n l in_ring p ∙ ap (reply_count (per_pulse s) delays) message

  pub recorded_by : (r r' : List ℕ) (at : ℕ) → at + 66 ≤ length r → r' ≡ records_with s last delays first rest m at r
      → r' ≡ overwritten r at (record_bytes (config_of all time (draw_at rest)) first (draw_at rest).kind (reply_count (per_pulse s) delays (config_of all time (draw_at rest))))
  unfolding records_with
  recorded_by r r' at h p =
      record_is r r' at _ h p
      ∙ (λ i. overwritten r at (record_bytes (message i) first (draw_at rest).kind (counted_by (count_with s last delays first rest m) refl i)))
