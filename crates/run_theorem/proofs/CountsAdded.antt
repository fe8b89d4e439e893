-- The counts in the records that a call wrote are those of their replies, so the number of reply samples added is their sum (`counts-added`).
use Prim.Native.Nat.{ℕ, suc, ◌+◌, ◌*◌, ◌≤◌, ◌<◌, ◌^◌}
use mathlib.Core.List.{List, [], ◌∷◌, ◌++◌, map, append_assoc}
use mathlib.Core.Path.{◌≡◌, refl, sym, ap, ◌∙◌, subst}
use native.Mathlib.Nat.{mul-suc, mod-eq_of_lt}
use native.Mathlib.Omega.{arith}
use lib.Dec.{lit<}
use lib.ListN.{length, take, drop, length-append, length-map, take-append-drop}
use lib.Seq.{drop_at, take_at}
use borrow.Author.Tests.{le-leb}
use Rattle.constants.specs.Rate.{reply_limit}
use Rattle.constants.specs.Setting.{per_pulse}
use Rattle.constants.specs.declared.SamplesPerPulse.{SamplesPerPulse}
use Rattle.constants.specs.declared.SamplesPerPulse.TheVariants.{Four, Eight}
use Rattle.le_read.specs.LeBytes.{le_of, bytes_of, le_at, read_at, number_at}
use Rattle.le_read.proofs.Halves.{length_bytes}
use Rattle.le_read.proofs.RoundTrip.{le_bytes}
use Rattle.message_config.specs.declared.MessageConfig.{MessageConfig}
use Rattle.reply_record.specs.Record.{message_length, float_bytes, other_bytes, record_bytes}
use Rattle.reply_record.proofs.RecordLength.{float_length}
use Rattle.draw.specs.Config.{config_of}
use Rattle.run_generator.proofs.InstanceDrawLaws.{line_length}
use Rattle.run_theory.specs.Added.{sum_of, high_half, low_half, whole_of}
use Rattle.run_theory.specs.Each.{Each}
use Rattle.run_theory.specs.PlainRun.{Reply}
use Rattle.run_theory.specs.PlainBench as Bench
use Rattle.run_theory.proofs.ListClaim.{Recorded}
use Rattle.run_call.specs.Buffers.{Left}
use Rattle.run_theorem.specs.OpenedRuns.{Run, gen, samples_added, record_counts, counts_written, CountsAdded}

pub whole_back : (n : ℕ) → whole_of (high_half n) (low_half n) ≡ n
whole_back n = omega arith

-- ---- a number in bytes between others
number_at_lem : (n : ℕ) (xs ys zs : List ℕ) (at : ℕ) → length xs ≡ at → length ys ≡ n → number_at n (xs ++ (ys ++ zs)) at ≡ le_of ys
unfolding read_at le_at
number_at_lem n xs ys zs at e h =
    rw (le-leb (at + n) (length (xs ++ (ys ++ zs))) (omega (arith, e, h, length-append xs (ys ++ zs), length-append ys zs)), drop_at xs (ys ++ zs) at e, take_at ys zs n h) refl

-- ---- the count in a record, with any bytes behind
module _ (c : MessageConfig) (first type n : ℕ) (more : List ℕ) where
  before : List ℕ
  before = float_bytes c ++ (bytes_of 8 first ++ (type ∷ []))

  before_length : length before ≡ 49
  unfolding before
  before_length = omega (arith, length-append (float_bytes c) (bytes_of 8 first ++ (type ∷ [])), length-append (bytes_of 8 first) (type ∷ []), float_length c, length_bytes 8 first)

  parts : record_bytes c first type n ++ more ≡ before ++ (bytes_of 2 n ++ ((message_length c.reply.kind ∷ []) ++ (c.reply.bytes ++ more)))
  unfolding record_bytes other_bytes before
  parts = simp append_assoc

  count_read : n < 2 ^ 16 → number_at 2 (record_bytes c first type n ++ more) 49 ≡ n
  count_read h =
      ap (λ (l : List ℕ). number_at 2 l 49) parts
      ∙ number_at_lem 2 before (bytes_of 2 n) ((message_length c.reply.kind ∷ []) ++ (c.reply.bytes ++ more)) 49 before_length (length_bytes 2 n)
      ∙ le_bytes 2 n
      ∙ mod-eq_of_lt h

limit_small : (s : SamplesPerPulse) → reply_limit (per_pulse s) < 2 ^ 16
limit_small Four = lit< tt
limit_small Eight = lit< tt

sum_most : (m : ℕ) (ns : List ℕ) → Each (λ n. n ≤ m) ns → sum_of ns ≤ m * length ns
sum_most m [] h = omega arith
sum_most m (n ∷ ns) h = omega (arith, h.0, sum_most m ns h.1, mul-suc m (length ns))

-- ---- the counts in the records of replies
module _ (r : Run) where
  abbrev sps : ℕ
  sps = per_pulse r.state.setting

  abbrev Replies : Type 0
  Replies = List (Reply (gen r))

  count : Reply (gen r) → ℕ
  count x = length x.values

  lines : Replies → List ℕ
  lines new = Bench.join (map (λ x. x.line) new)

  line_is : (x : Reply (gen r)) → Recorded (gen r) x → (more : List ℕ) → (number_at 2 (x.line ++ more) 49 ≡ count x) × (drop 66 (x.line ++ more) ≡ more)
  unfolding count
  line_is x k more = (
    ap (λ (l : List ℕ). number_at 2 (l ++ more) 49) k.line ∙ count_read (config_of r.state.distributions k.time k.draw.draw) x.first k.draw.draw.kind (length x.values) more (omega (arith, k.few, limit_small r.state.setting)),
    drop_at x.line more 66 (ap length k.line ∙ line_length r.state.distributions k.time k.draw.draw x.first (length x.values)),
  )

  counts_are : (new : Replies) (more : List ℕ) → Each (Recorded (gen r)) new → record_counts (length new) (lines new ++ more) ≡ map count new
  unfolding lines
  counts_are [] more h = refl
  counts_are (x ∷ new) more h =
      let k = line_is x h.0 (lines new ++ more) in
      ap (λ (l : List ℕ). record_counts (suc (length new)) l) (append_assoc x.line (lines new) more)
      ∙ (λ i. k.0 i ∷ record_counts (length new) (k.1 i))
      ∙ ap (λ (l : List ℕ). count x ∷ l) (counts_are new more h.1)

  each_few : (new : Replies) → Each (Recorded (gen r)) new → Each (λ n. n ≤ reply_limit sps) (map count new)
  unfolding count
  each_few [] h = tt
  each_few (x ∷ new) h = (h.0.few, each_few new h.1)

  -- a call that wrote the records of these replies, and whose number is the sum of their counts
  pub counts_added : (new : Replies) (l : Left) → Each (Recorded (gen r)) new → l.ran.counts.records ≡ length new
      → take (66 * length new) l.records ≡ Bench.join (map (λ x. x.line) new) → samples_added l ≡ sum_of (map (λ x. length x.values) new) → CountsAdded sps l
  unfolding count lines
  counts_added new l h many bytes added = record {
    sum = added ∙ ap sum_of (sym written);
    each = subst (Each (λ n. n ≤ reply_limit sps)) (sym written) (each_few new h);
    most = subst (λ (n : ℕ). samples_added l ≤ reply_limit sps * n) (length-map new count ∙ sym many) (subst (λ (n : ℕ). n ≤ reply_limit sps * length (map count new)) (sym added) (sum_most (reply_limit sps) (map count new) (each_few new h)));
  }
    where
      split : l.records ≡ lines new ++ drop (66 * length new) l.records
      split = sym (take-append-drop (66 * length new) l.records) ∙ ap (λ (b : List ℕ). b ++ drop (66 * length new) l.records) bytes

      written : counts_written l ≡ map count new
      written = (λ i. record_counts (many i) (split i)) ∙ counts_are new (drop (66 * length new) l.records) h
