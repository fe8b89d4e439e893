-- A sample more, a wrap that is left out, and what a whole block holds.
use Rattle.std.proofs.Common.{◌≡◌, ℕ, zero, suc, ◌+◌, ◌-◌, ◌^◌, ◌%◌, ◌<◌, ◌≤◌, Bool, true, false, cond, List, [], ◌∷◌, ◌++◌, length, drop, map, min, refl, sym, ap, ◌∙◌, arith, le-ltb, lt-ltb, add-one, add-zero, zero-add, zero-le, suc-le-suc}
use native.Mathlib.Nat.{mod-eq_of_lt}
use Rattle.std.proofs.Math.Seq.{sets}
use Rattle.std.proofs.lemmas.List.Edits.{sets-eq}
use Rattle.std.proofs.lemmas.List.{length-map}
use lib.Dec.{ltb}
use lib.Ieee.{Float, binary64, of_bits, add, sub, neg, lt, le}
use Rattle.math.specs.Phase.{phase_wrap_once}
use Rattle.math.proofs.Literals.{pi_is}
use Rattle.filterbank.specs.declared.Clock.{Clock}
use Rattle.filterbank.specs.Clocked.{advance, settle, in64}
use Rattle.filterbank.proofs.Literals.{f1, is1}
use Rattle.block_values.specs.declared.Tick.{Tick}
use Rattle.block_values.specs.declared.Pace.{Pace}
use Rattle.block_values.specs.declared.Ended.{Ended}
use Rattle.block_values.specs.declared.Block.{Block}
use Rattle.block_values.specs.Ticks.{next_tick, ticks, tick_after, written}
use Rattle.block_values.specs.TicksModel.{with_tick, filled}

-- ---- a sample more
abbrev pi_code : Float
pi_code = of_bits binary64 0x4009_21fb_5444_2d18

-- a carrier at which both tests of the wrap fail
pub idle : (x : Float) → le pi_code x ≡ false → lt x (neg pi_code) ≡ false → phase_wrap_once x ≡ x
unfolding phase_wrap_once
idle x h l = rw (pi_is, h, l) refl

abbrev pub clock_of : Float → ℕ → Clock
clock_of p i = record { phase = p; index = i }

pub clock_on : (step p : Float) (i : ℕ) → le f1 (add binary64 p step) ≡ true → clock_of (sub binary64 (add binary64 p step) f1) ((i + 1) % 2 ^ 64) ≡ in64 (advance step (clock_of p i))
unfolding advance settle
clock_on step p i h = rw (← is1, h) (ap (λ (x : Float). clock_of (sub binary64 (add binary64 p step) x) ((i + 1) % 2 ^ 64)) is1)

pub clock_stays : (step p : Float) (i : ℕ) → i < 2 ^ 64 → le f1 (add binary64 p step) ≡ false → clock_of (add binary64 p step) i ≡ in64 (advance step (clock_of p i))
unfolding advance settle
clock_stays step p i l h = rw (← is1, h) (ap (clock_of _) (sym (mod-eq_of_lt l)))

less_one : (e i : ℕ) → i < e → e - i ≡ suc (e - (i + 1))
less_one e i h = omega arith

module _ (pace : Pace) where
  none_more : (k : ℕ) (at : Ended) (b : Block) → pace.limit ≤ at.tick.clock.index → filled k pace at b ≡ (at, b)
  unfolding filled
  none_more zero at b h = refl
  none_more (suc k) at b h = rw (le-ltb at.tick.clock.index pace.limit h) refl

  one_more : (k : ℕ) (at : Ended) (b : Block) → at.tick.clock.index < pace.limit → filled (suc k) pace at b ≡ filled k pace (record { tick = next_tick pace at.tick; n = at.n + 1 }) (with_tick b at.n at.tick)
  unfolding filled
  one_more k at b h = rw (lt-ltb at.tick.clock.index pace.limit h) refl

  -- what is left after a sample is what was left before it, less that sample
  pub goes_on : (e : ℕ) (at : Ended) (b : Block) (whole : Ended × Block) (clock : Clock) (carrier : Float) → at.n < e → at.tick.clock.index < pace.limit → clock ≡ in64 (advance pace.step at.tick.clock)
      → carrier ≡ phase_wrap_once (add binary64 at.tick.carrier pace.rate) → filled (e - at.n) pace at b ≡ whole
      → filled (e - (at.n + 1)) pace (record { tick = record { clock = clock; carrier = carrier }; n = at.n + 1 }) (with_tick b at.n at.tick) ≡ whole
  unfolding next_tick
  goes_on e at b whole clock carrier l i ec er w =
      (λ j. filled (e - (at.n + 1)) pace (record { tick = record { clock = ec j; carrier = er j }; n = at.n + 1 }) (with_tick b at.n at.tick))
      ∙ sym (one_more (e - (at.n + 1)) at b i)
      ∙ ap (λ (k : ℕ). filled k pace at b) (sym (less_one e at.n l))
      ∙ w

  pub full : (e : ℕ) (at : Ended) (b : Block) (whole : Ended × Block) → e ≤ at.n → filled (e - at.n) pace at b ≡ whole → (at, b) ≡ whole
  unfolding filled
  full e at b whole h w = sym (ap (λ (k : ℕ). filled k pace at b) (none e at.n h)) ∙ w
    where
      none : (e n : ℕ) → e ≤ n → e - n ≡ 0
      none e n h = omega arith

  pub stopped : (k : ℕ) (at : Ended) (b : Block) (whole : Ended × Block) → pace.limit ≤ at.tick.clock.index → filled k pace at b ≡ whole → (at, b) ≡ whole
  stopped k at b whole h w = sym (none_more k at b h) ∙ w

-- ---- the whole of it
abbrev all_set : Block → ℕ → List Tick → Block
all_set b n ts = record { phases = sets b.phases n (map (λ (t : Tick). t.clock.phase) ts); indices = sets b.indices n (map (λ (t : Tick). t.clock.index) ts); carriers = sets b.carriers n (map (λ (t : Tick). t.carrier) ts) }

all_ticks : (k : ℕ) (pace : Pace) (t : Tick) (n : ℕ) (b : Block)
    → filled k pace (record { tick = t; n = n }) b ≡ (record { tick = tick_after (length (ticks k pace t)) pace t; n = n + length (ticks k pace t) }, all_set b n (ticks k pace t))
unfolding filled ticks tick_after
all_ticks zero pace t n b = ap (λ (x : ℕ). (record { tick = t; n = x }, b)) (sym (add-zero n))
all_ticks (suc k) pace t n b = go (ltb t.clock.index pace.limit) (more (all_ticks k pace (next_tick pace t) (suc n) (with_tick b n t)))
  where
    sums : (n m : ℕ) → suc n + m ≡ n + suc m
    sums n m = omega arith

    more : filled k pace (record { tick = next_tick pace t; n = suc n }) (with_tick b n t) ≡ (record { tick = tick_after (length (ticks k pace (next_tick pace t))) pace (next_tick pace t); n = suc n + length (ticks k pace (next_tick pace t)) }, all_set (with_tick b n t) (suc n) (ticks k pace (next_tick pace t)))
        → filled k pace (record { tick = next_tick pace t; n = n + 1 }) (with_tick b n t) ≡ (record { tick = tick_after (length (ticks k pace (next_tick pace t))) pace (next_tick pace t); n = n + suc (length (ticks k pace (next_tick pace t))) }, all_set (with_tick b n t) (suc n) (ticks k pace (next_tick pace t)))
    more e =
        ap (λ (x : ℕ). filled k pace (record { tick = next_tick pace t; n = x }) (with_tick b n t)) (add-one n)
        ∙ e
        ∙ ap (λ (x : ℕ). (record { tick = tick_after (length (ticks k pace (next_tick pace t))) pace (next_tick pace t); n = x }, all_set (with_tick b n t) (suc n) (ticks k pace (next_tick pace t)))) (sums n (length (ticks k pace (next_tick pace t))))

    go : (c : Bool) → filled k pace (record { tick = next_tick pace t; n = n + 1 }) (with_tick b n t) ≡ (record { tick = tick_after (length (ticks k pace (next_tick pace t))) pace (next_tick pace t); n = n + suc (length (ticks k pace (next_tick pace t))) }, all_set (with_tick b n t) (suc n) (ticks k pace (next_tick pace t)))
        → cond c (filled k pace (record { tick = next_tick pace t; n = n + 1 }) (with_tick b n t)) (record { tick = t; n = n }, b)
        ≡ (record { tick = tick_after (length (cond c (t ∷ ticks k pace (next_tick pace t)) [])) pace t; n = n + length (cond c (t ∷ ticks k pace (next_tick pace t)) []) }, all_set b n (cond c (t ∷ ticks k pace (next_tick pace t)) []))
    go true m = m
    go false m = ap (λ (x : ℕ). (record { tick = t; n = x }, b)) (sym (add-zero n))

ticks_most : (k : ℕ) (pace : Pace) (t : Tick) → length (ticks k pace t) ≤ k
unfolding ticks
ticks_most zero pace t = zero-le
ticks_most (suc k) pace t = go (ltb t.clock.index pace.limit) (ticks_most k pace (next_tick pace t))
  where
    go : (c : Bool) → length (ticks k pace (next_tick pace t)) ≤ k → length (cond c (t ∷ ticks k pace (next_tick pace t)) []) ≤ suc k
    go true h = suc-le-suc h
    go false h = zero-le

sets_written : {A : Type 0} (f : Tick → A) (ts : List Tick) (old : List A) → length ts ≤ length old → sets old 0 (map f ts) ≡ written f ts old
unfolding written
sets_written f ts old h =
    let l : length (map f ts) ≡ length ts = length-map ts f in
    let r : 0 + length (map f ts) ≤ length old = omega arith in
    sets-eq (map f ts) old 0 r ∙ ap (λ (k : ℕ). map f ts ++ drop k old) (zero-add (length (map f ts)) ∙ l)

module _ (pace : Pace) (first : Tick) (most k : ℕ) (at : Ended) (new old : Block) where
  abbrev ts : List Tick
  ts = ticks (min most 32) pace first

  abbrev Filled : Type 0
  Filled = (at ≡ record { tick = tick_after (length ts) pace first; n = length ts })
      × (new ≡ record { phases = written (λ (t : Tick). t.clock.phase) ts old.phases; indices = written (λ (t : Tick). t.clock.index) ts old.indices; carriers = written (λ (t : Tick). t.carrier) ts old.carriers })

  pub whole_block : k ≡ min most 32 → length old.phases ≡ 32 → length old.indices ≡ 32 → length old.carriers ≡ 32 → (at, new) ≡ filled k pace (record { tick = first; n = 0 }) old → Filled
  whole_block h lp li lc e =
      let m = ticks_most (min most 32) pace first in
      let p : length ts ≤ length old.phases = omega arith in
      let i : length ts ≤ length old.indices = omega arith in
      let c : length ts ≤ length old.carriers = omega arith in
      let w = e ∙ ap (λ (x : ℕ). filled x pace (record { tick = first; n = 0 }) old) h ∙ all_ticks (min most 32) pace first 0 old in (
        ap (λ (x : Ended × Block). x.0) w ∙ ap (λ (x : ℕ). record { tick = tick_after (length ts) pace first; n = x }) (zero-add (length ts)),
        ap (λ (x : Ended × Block). x.1) w ∙ (λ j. record { phases = sets_written (λ (t : Tick). t.clock.phase) ts old.phases p j; indices = sets_written (λ (t : Tick). t.clock.index) ts old.indices i j; carriers = sets_written (λ (t : Tick). t.carrier) ts old.carriers c j }),
      )
