-- A wave block by block: the samples of its ticks, the ticks and the samples added split after any number of them.
use mathlib.Core.Logic.{◌⊎◌, inl, inr}
use Rattle.std.proofs.Common.{◌≡◌, ℕ, zero, suc, ◌+◌, ◌-◌, ◌*◌, ◌%◌, ◌<◌, ◌≤◌, Bool, true, false, cond, List, [], ◌∷◌, ◌++◌, length, take, drop, map, min, refl, sym, ap, ◌∙◌, subst, arith, le-ltb, lt-ltb, add-zero, zero-add, zero-le, suc-le-suc, append-nil, drop_of_length-le}
use native.Mathlib.Nat.{mod-eq_of_lt, sub-zero}
use borrow.Author.Tests.{ltb-true}
use Rattle.std.proofs.Math.Seq.{take-append_seam}
use Rattle.std.proofs.lemmas.List.{length-append, length-map, map-append}
use lib.Dec.{ltb}
use lib.Ieee.{Float, binary64, add}
use Rattle.constants.specs.declared.SamplesPerPulse.{SamplesPerPulse}
use Rattle.constants.specs.Setting.{per_pulse}
use Rattle.constants.specs.Rate.{ring_slots, working_memory}
use Rattle.math.specs.Phase.{phase_wrap_once}
use Rattle.filterbank.specs.declared.Clock.{Clock}
use Rattle.filterbank.specs.Clocked.{advance, in64}
use Rattle.filterbank.specs.Apply.{clock_values}
use Rattle.reply_samples.specs.declared.Sample.{Sample}
use Rattle.reply_samples.specs.Samples.{sample_at, rotated}
use Rattle.reply_samples.specs.RingModel.{added_at, added_from, added_reply}
use Rattle.reply_samples.proofs.Ring.{next_ring}
use Rattle.reply_samples.proofs.AtSlot.{added_here}
use Rattle.block_values.specs.declared.Tick.{Tick}
use Rattle.block_values.specs.declared.Pace.{Pace}
use Rattle.block_values.specs.declared.Ended.{Ended}
use Rattle.block_values.specs.declared.Block.{Block}
use Rattle.block_values.specs.Ticks.{next_tick, ticks, tick_after, written}
use Rattle.block_values.specs.BlockValues.{values_at, values_left}
use Rattle.block_rotate.specs.BlockSamples.{samples_at}
use Rattle.reply_add.specs.declared.Wave.{Wave}
use Rattle.reply_add.specs.AddModel.{padded_value, wave_samples}
use Rattle.reply_add.proofs.Filling.{in64_idle}

-- ---- the ticks
no_ticks : (k : ℕ) (pace : Pace) (t : Tick) → pace.limit ≤ t.clock.index → ticks k pace t ≡ []
unfolding ticks
no_ticks zero pace t h = refl
no_ticks (suc k) pace t h = rw (le-ltb t.clock.index pace.limit h) refl

-- the first m of them, and those after
split_ticks : (m k : ℕ) (pace : Pace) (t : Tick) → m ≤ k → ticks k pace t ≡ ticks m pace t ++ ticks (k - length (ticks m pace t)) pace (tick_after (length (ticks m pace t)) pace t)
unfolding ticks tick_after
split_ticks zero k pace t h = ap (λ (n : ℕ). ticks n pace t) (sym (sub-zero k))
split_ticks (suc m) zero pace t h = absurd (omega arith)
split_ticks (suc m) (suc k) pace t h = go (ltb t.clock.index pace.limit) refl (split_ticks m k pace (next_tick pace t) (le-of-suc m k h))
  where
    le-of-suc : (m k : ℕ) → suc m ≤ suc k → m ≤ k
    le-of-suc m k h = omega arith

    less : (k n : ℕ) → suc k - suc n ≡ k - n
    less k n = omega arith

    go : (c : Bool) → ltb t.clock.index pace.limit ≡ c → ticks k pace (next_tick pace t) ≡ ticks m pace (next_tick pace t) ++ ticks (k - length (ticks m pace (next_tick pace t))) pace (tick_after (length (ticks m pace (next_tick pace t))) pace (next_tick pace t))
        → cond c (t ∷ ticks k pace (next_tick pace t)) [] ≡ cond c (t ∷ ticks m pace (next_tick pace t)) [] ++ ticks (suc k - length (cond c (t ∷ ticks m pace (next_tick pace t)) [])) pace (tick_after (length (cond c (t ∷ ticks m pace (next_tick pace t)) [])) pace t)
    go true e ih =
        ap (λ (l : List Tick). t ∷ l) ih
        ∙ ap (λ (n : ℕ). t ∷ (ticks m pace (next_tick pace t) ++ ticks n pace (tick_after (length (ticks m pace (next_tick pace t))) pace (next_tick pace t)))) (sym (less k (length (ticks m pace (next_tick pace t)))))
    go false e ih = sym (rw (sub-zero (suc k)) (ap (λ (b : Bool). cond b (t ∷ ticks k pace (next_tick pace t)) []) e))

-- where there is room and an index, there is one at least
pub some_ticks : (k : ℕ) (pace : Pace) (t : Tick) → 0 < k → t.clock.index < pace.limit → 0 < length (ticks k pace t)
unfolding ticks
some_ticks zero pace t k h = k
some_ticks (suc k) pace t l h = rw (lt-ltb t.clock.index pace.limit h) (suc-le-suc zero-le)

-- ---- the values and the samples of a block
module _ (sps : ℕ) (prototype : List Float) (padded : List Bool) (amplitude : Float) where
  abbrev pub value_of : Tick → Float
  value_of t = padded_value sps prototype padded t.clock

  abbrev pub sample_of : Tick → Sample
  sample_of t = sample_at amplitude (padded_value sps prototype padded t.clock) t.carrier

  values_split : (ts : List Tick) (ps : List Float) (is : List ℕ) → values_at sps prototype padded (map (λ (t : Tick). t.clock.phase) ts ++ ps) (map (λ (t : Tick). t.clock.index) ts ++ is) ≡ map value_of ts ++ values_at sps prototype padded ps is
  unfolding values_at padded_value
  values_split [] ps is = refl
  values_split (t ∷ ts) ps is = ap (λ (l : List Float). value_of t ∷ l) (values_split ts ps is)

  left_of : (a b old : List Float) → length old ≡ length a → values_left (a ++ b) old ≡ a
  unfolding values_left
  left_of a b old h =
      ap (λ (n : ℕ). take n (a ++ b) ++ drop (length (a ++ b)) old) h
      ∙ ap (λ (l : List Float). l ++ drop (length (a ++ b)) old) (take-append_seam a b)
      ∙ ap (λ (l : List Float). a ++ l) (drop_of_length-le old (covered (length (a ++ b)) (length old) (length a) (length b) (length-append a b) h))
      ∙ append-nil a
    where
      covered : (w o m n : ℕ) → w ≡ m + n → o ≡ m → o ≤ w
      covered w o m n e h = omega arith

  -- whatever a block holds behind its ticks
  samples_of_block : (ts : List Tick) (vs cs : List Float) → take (length ts) (samples_at amplitude (map value_of ts ++ vs) (map (λ (t : Tick). t.carrier) ts ++ cs)) ≡ map sample_of ts
  unfolding samples_at
  samples_of_block [] vs cs = refl
  samples_of_block (t ∷ ts) vs cs = ap (λ (l : List Sample). sample_of t ∷ l) (samples_of_block ts vs cs)

  -- those of all ticks are those of the wave
  wave_of_ticks : (k limit : ℕ) (step rate : Float) (clock : Clock) (carrier : Float) → limit ≤ 246
      → rotated amplitude rate carrier (clock_values k limit step (padded_value sps prototype padded) clock) ≡ map sample_of (ticks k (record { step = step; rate = rate; limit = limit }) (record { clock = clock; carrier = carrier }))
  unfolding rotated clock_values ticks next_tick
  wave_of_ticks zero limit step rate clock carrier l = refl
  wave_of_ticks (suc k) limit step rate clock carrier l = go (ltb clock.index limit) refl (wave_of_ticks k limit step rate (advance step clock) (phase_wrap_once (add binary64 carrier rate)) l)
    where
      pace : Pace
      pace = record { step = step; rate = rate; limit = limit }

      below : (i n : ℕ) → ltb i n ≡ true → n ≤ 246 → i < 246
      below i n e h = let b : i < n = ltb-true i n e in omega arith

      next : Float
      next = phase_wrap_once (add binary64 carrier rate)

      go : (c : Bool) → ltb clock.index limit ≡ c
          → rotated amplitude rate next (clock_values k limit step (padded_value sps prototype padded) (advance step clock)) ≡ map sample_of (ticks k pace (record { clock = advance step clock; carrier = next }))
          → rotated amplitude rate carrier (cond c (padded_value sps prototype padded clock ∷ clock_values k limit step (padded_value sps prototype padded) (advance step clock)) [])
          ≡ map sample_of (cond c (record { clock = clock; carrier = carrier } ∷ ticks k pace (record { clock = in64 (advance step clock); carrier = next })) [])
      go true e ih =
          ap (λ (l : List Sample). sample_at amplitude (padded_value sps prototype padded clock) carrier ∷ l) (ih ∙ ap (λ (x : Clock). map sample_of (ticks k pace (record { clock = x; carrier = next }))) (sym (in64_idle step clock (below clock.index limit e l))))
      go false e ih = refl

-- ---- the samples added
module _ (setting : SamplesPerPulse) where
  -- those of a list after those of another, from the slot after the last
  split_added : (xs ys : List Sample) (m : List Float) (s : ℕ) → added_from (per_pulse setting) m (s % ring_slots (per_pulse setting)) (xs ++ ys)
      ≡ added_from (per_pulse setting) (added_from (per_pulse setting) m (s % ring_slots (per_pulse setting)) xs) ((s + length xs) % ring_slots (per_pulse setting)) ys
  unfolding added_from
  split_added [] ys m s = ap (λ (k : ℕ). added_from (per_pulse setting) m (k % ring_slots (per_pulse setting)) ys) (sym (add-zero s))
  split_added (x ∷ xs) ys m s =
      let at = s % ring_slots (per_pulse setting) in
      ap (λ (k : ℕ). added_from (per_pulse setting) (added_at m at x) k (xs ++ ys)) (next_ring setting s)
      ∙ split_added xs ys (added_at m at x) (s + 1)
      ∙ ap (λ (k : ℕ). added_from (per_pulse setting) (added_from (per_pulse setting) (added_at m at x) ((s + 1) % ring_slots (per_pulse setting)) xs) (k % ring_slots (per_pulse setting)) ys) (more s (length xs))
      ∙ ap (λ (k : ℕ). added_from (per_pulse setting) (added_from (per_pulse setting) (added_at m at x) k xs) ((s + suc (length xs)) % ring_slots (per_pulse setting)) ys) (sym (next_ring setting s))
    where
      more : (s n : ℕ) → s + 1 + n ≡ s + suc n
      more s n = omega arith

  pub split_at : (xs ys : List Sample) (m : List Float) (s : ℕ) → s < ring_slots (per_pulse setting) → added_from (per_pulse setting) m s (xs ++ ys) ≡ added_from (per_pulse setting) (added_from (per_pulse setting) m s xs) ((s + length xs) % ring_slots (per_pulse setting)) ys
  split_at xs ys m s h = subst (λ (k : ℕ). added_from (per_pulse setting) m k (xs ++ ys) ≡ added_from (per_pulse setting) (added_from (per_pulse setting) m k xs) ((s + length xs) % ring_slots (per_pulse setting)) ys) (mod-eq_of_lt h) (split_added xs ys m s)

  -- where the memory has its length and the slot is one of its ring
  pub added_inside : (m : List Float) (s : ℕ) (zs : List Sample) → length m ≡ working_memory (per_pulse setting) → s < ring_slots (per_pulse setting) → added_reply (per_pulse setting) m s zs ≡ added_from (per_pulse setting) m s zs
  added_inside m s zs l h = sym (added_here (per_pulse setting) m (added_from (per_pulse setting) m s zs) s zs l h refl)

-- ---- the loop over the blocks of a wave
abbrev pub pace_of : Wave → Pace
pace_of w = record { step = w.step; rate = w.carrier.rate; limit = w.limit }

abbrev pub first_tick : Wave → Tick
first_tick w = record { clock = w.clock; carrier = w.carrier.phase }

module _ (setting : SamplesPerPulse) (prototype : List Float) (padded : List Bool) (w : Wave) where
  abbrev sps : ℕ
  sps = per_pulse setting

  -- the samples at some ticks
  abbrev pub samples : List Tick → List Sample
  samples ts = map (sample_of sps prototype padded w.carrier.amplitude) ts

  abbrev pub whole : List Sample
  whole = wave_samples sps prototype padded w

  pub all_samples : (most : ℕ) → most ≡ (sps + 1) * w.limit → w.limit ≤ 246 → samples (ticks (most - 0) (pace_of w) (first_tick w)) ≡ whole
  unfolding wave_samples
  all_samples most e h =
      ap (λ (k : ℕ). samples (ticks k (pace_of w) (first_tick w))) (sub-zero most ∙ e)
      ∙ sym (wave_of_ticks sps prototype padded w.carrier.amplitude ((sps + 1) * w.limit) w.limit w.step w.carrier.rate w.clock w.carrier.phase h)

  -- a block: its ticks, and the memory after them
  module _ (k count most : ℕ) (t : Tick) (at : Ended) (old new : Block) where
    abbrev of_block : List Tick
    of_block = ticks (min k 32) (pace_of w) t

    abbrev rest : List Tick
    rest = ticks (k - length of_block) (pace_of w) (tick_after (length of_block) (pace_of w) t)

    least : (k : ℕ) → min k 32 ≤ k
    least k = omega arith

    parts : ticks k (pace_of w) t ≡ of_block ++ rest
    parts = split_ticks (min k 32) k (pace_of w) t (least k)

    abbrev Filled : Type 0
    Filled = (at ≡ record { tick = tick_after (length of_block) (pace_of w) t; n = length of_block })
        × (new ≡ record { phases = written (λ (t : Tick). t.clock.phase) of_block old.phases; indices = written (λ (t : Tick). t.clock.index) of_block old.indices; carriers = written (λ (t : Tick). t.carrier) of_block old.carriers })

    after : Filled → k ≡ most - count → ticks (most - (count + at.n)) (pace_of w) at.tick ≡ rest
    after f e = ap (λ (x : Ended). ticks (most - (count + x.n)) (pace_of w) x.tick) f.0 ∙ ap (λ (j : ℕ). ticks j (pace_of w) (tick_after (length of_block) (pace_of w) t)) (less k count most (length of_block) e)
      where
        less : (k c m n : ℕ) → k ≡ m - c → m - (c + n) ≡ k - n
        less k c m n e = omega arith

    pub block_counted : (all : ℕ) → Filled → k ≡ most - count → count + length (ticks k (pace_of w) t) ≡ all → count + at.n + length (ticks (most - (count + at.n)) (pace_of w) at.tick) ≡ all
    block_counted all f e h =
        let l : length (ticks k (pace_of w) t) ≡ length of_block + length rest = ap length parts ∙ length-append of_block rest in
        let n : at.n ≡ length of_block = ap (λ (x : Ended). x.n) f.0 in
        let r : length (ticks (most - (count + at.n)) (pace_of w) at.tick) ≡ length rest = ap length (after f e) in
        omega arith

    block_values : (before values : List Float) → Filled → length before ≡ at.n → values ≡ values_left (values_at sps prototype padded new.phases new.indices) before → values ≡ map (value_of sps prototype padded w.carrier.amplitude) of_block
    unfolding written
    block_values before values f l e =
        e
        ∙ ap (λ (b : Block). values_left (values_at sps prototype padded b.phases b.indices) before) f.1
        ∙ ap (λ (vs : List Float). values_left vs before) (values_split sps prototype padded w.carrier.amplitude of_block (drop (length of_block) old.phases) (drop (length of_block) old.indices))
        ∙ left_of sps prototype padded w.carrier.amplitude (map (value_of sps prototype padded w.carrier.amplitude) of_block) (values_at sps prototype padded (drop (length of_block) old.phases) (drop (length of_block) old.indices)) before (l ∙ ap (λ (x : Ended). x.n) f.0 ∙ sym (length-map of_block (value_of sps prototype padded w.carrier.amplitude)))

    pub block_added : (slot slots : ℕ) (m m' before values behind all : List Float) → Filled → k ≡ most - count → length m ≡ working_memory sps → slot < ring_slots sps → slots ≡ ring_slots sps → length before ≡ at.n
        → values ≡ values_left (values_at sps prototype padded new.phases new.indices) before → m' ≡ added_reply sps m slot (take at.n (samples_at w.carrier.amplitude (values ++ behind) new.carriers))
        → added_from sps m slot (samples (ticks k (pace_of w) t)) ≡ all
        → added_from sps m' ((slot + at.n) % slots) (samples (ticks (most - (count + at.n)) (pace_of w) at.tick)) ≡ all
    unfolding written
    block_added slot slots m m' before values behind all f e long held es l ev em h =
        let turned : take at.n (samples_at w.carrier.amplitude (values ++ behind) new.carriers) ≡ samples of_block =
        (λ j. take (f.0 j).n (samples_at w.carrier.amplitude (block_values before values f l ev j ++ behind) (f.1 j).carriers))
        ∙ samples_of_block sps prototype padded w.carrier.amplitude of_block behind (drop (length of_block) old.carriers) in
        let here : m' ≡ added_from sps m slot (samples of_block) = em ∙ ap (added_reply sps m slot) turned ∙ added_inside setting m slot (samples of_block) long held in
        let place : slot + at.n ≡ slot + length (samples of_block) = ap (λ (n : ℕ). slot + n) (ap (λ (x : Ended). x.n) f.0 ∙ sym (length-map of_block (sample_of sps prototype padded w.carrier.amplitude))) in
        (λ j. added_from sps (here j) (place j % es j) (samples (after f e j)))
        ∙ sym (split_at setting (samples of_block) (samples rest) m slot held)
        ∙ ap (added_from sps m slot) (sym (map-append (sample_of sps prototype padded w.carrier.amplitude) of_block rest) ∙ ap samples (sym parts))
        ∙ h

  -- no tick is left
  pub nothing_left : (k : ℕ) (t : Tick) → (k ≡ 0) ⊎ (w.limit ≤ t.clock.index) → ticks k (pace_of w) t ≡ []
  unfolding ticks
  nothing_left k t (inl e) = ap (λ (n : ℕ). ticks n (pace_of w) t) e
  nothing_left k t (inr h) = no_ticks k (pace_of w) t h

  pub all_added : (k : ℕ) (t : Tick) (slot : ℕ) (m all : List Float) → (k ≡ 0) ⊎ (w.limit ≤ t.clock.index) → added_from sps m slot (samples (ticks k (pace_of w) t)) ≡ all → m ≡ all
  unfolding added_from
  all_added k t slot m all n h = ap (λ (ts : List Tick). added_from sps m slot (samples ts)) (sym (nothing_left k t n)) ∙ h

  pub all_counted : (k count all : ℕ) (t : Tick) → (k ≡ 0) ⊎ (w.limit ≤ t.clock.index) → count + length (ticks k (pace_of w) t) ≡ all → count ≡ all
  all_counted k count all t n h = let z : length (ticks k (pace_of w) t) ≡ 0 = ap length (nothing_left k t n) in omega arith

  pub all_ticks_counted : (most : ℕ) → most ≡ (sps + 1) * w.limit → w.limit ≤ 246 → 0 + length (ticks (most - 0) (pace_of w) (first_tick w)) ≡ length whole
  all_ticks_counted most e h =
      zero-add (length (ticks (most - 0) (pace_of w) (first_tick w)))
      ∙ sym (length-map (ticks (most - 0) (pace_of w) (first_tick w)) (sample_of sps prototype padded w.carrier.amplitude))
      ∙ ap length (all_samples most e h)
