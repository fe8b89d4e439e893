-- Chunks fed one after the other: while more are to come each has an even number of values, so that with the last one the noise is cut as `PlainTape` asks (`going_end`); and so it is as a program reads it, 16,384 values at a time (`next-step`).
use Prim.Native.Nat.{ℕ, ◌+◌, ◌-◌, ◌*◌, ◌%◌, ◌≤◌, ◌<◌, min}
use mathlib.Core.Bool.{Bool, true, false, cond, true≢false}
use mathlib.Core.Logic.{◌⊎◌, inl, inr}
use mathlib.Core.List.{List, [], ◌∷◌, ◌++◌}
use mathlib.Core.Path.{◌≡◌, refl, sym, ap, ◌∙◌, subst}
use native.Mathlib.Omega.{arith}
use lib.Dec.{ltb}
use lib.ListN.{length, take, length-append}
use lib.Seq.{length-take-le}
use lib.Ieee.{Float}
use borrow.Author.Tests.{ltb-false}
use Rattle.tape_feed.specs.declared.Feed.{Feed}
use Rattle.tape_feed.specs.FeedModel.{fed_of}
use Rattle.tape_theory.specs.Fed.{Held, Chunk, lend, keep, fed_all}
use Rattle.tape_theory.specs.PlainTape.{Roomy, Cut, noise_in, FedCut}

abbrev Evens : List Chunk → Type 0
Evens [] = Unit {0}
Evens (c ∷ cs) = (length c.noise % 2 ≡ 0) × Roomy c × Evens cs

abbrev Ended : List Chunk → Type 0
Ended [] = ⊥
Ended (c ∷ cs) = Cut (c ∷ cs)

evens_more : (cs : List Chunk) (c : Chunk) → Evens cs → Roomy c → length c.noise % 2 ≡ 0 → Evens (cs ++ (c ∷ []))
evens_more [] c h r e = (e, r, tt)
evens_more (d ∷ cs) c h r e = (h.0, h.1, evens_more cs c h.2 r e)

cut_last : (cs : List Chunk) (c : Chunk) → Evens cs → Roomy c → Ended (cs ++ (c ∷ []))
unfolding Cut
cut_last [] c h r = r
cut_last (d ∷ []) c h r = (h.0, h.1, r)
cut_last (d ∷ b ∷ cs) c h r = (h.0, h.1, cut_last (b ∷ cs) c h.2 r)

length_more : (cs : List Chunk) (c : Chunk) → length (noise_in (cs ++ (c ∷ []))) ≡ length (noise_in cs) + length c.noise
unfolding noise_in
length_more [] c = length-append c.noise [] ∙ omega arith
length_more (b ∷ cs) c = length-append b.noise (noise_in (cs ++ (c ∷ []))) ∙ omega (arith, length_more cs c, length-append b.noise (noise_in cs))

module _ (mode_s mode_ac : List Float) (draws : List ℕ) (d : Held) where
  fed_more : (cs : List Chunk) (c : Chunk) (g : Held) → fed_all mode_s mode_ac draws g (cs ++ (c ∷ [])) ≡ keep (fed_of mode_s mode_ac draws c.noise (lend c (fed_all mode_s mode_ac draws g cs)))
  unfolding fed_all
  fed_more [] c g = refl
  fed_more (b ∷ cs) c g = fed_more cs c (keep (fed_of mode_s mode_ac draws b.noise (lend b g)))

  -- a run fed so far, with this many steps to come and values left of a section, unless that is cut short
  pub record Going (count turns left : ℕ) (short : Bool) (f : Held) : Type 0 where
    chunks : List Chunk
    fed : f ≡ fed_all mode_s mode_ac draws d chunks
    evens : 0 < turns → Evens chunks
    ended : turns ≡ 0 → Ended chunks
    counted : short ≡ false → length (noise_in chunks) + left ≡ count

  pub going_first : (count : ℕ) → Going count 1 count false d
  unfolding fed_all noise_in
  going_first count = record { chunks = []; fed = refl; evens = λ h. tt; ended = λ e. absurd (omega arith); counted = λ e. omega arith }

  pub going_on : (count turns turns' left left' : ℕ) (short short' : Bool) (f f' : Held) (c : Chunk) → Going count turns left short f → 0 < turns → Roomy c → (0 < turns' → length c.noise % 2 ≡ 0)
      → (short' ≡ false → (short ≡ false) × (length c.noise + left' ≡ left)) → f' ≡ keep (fed_of mode_s mode_ac draws c.noise (lend c f)) → Going count turns' left' short' f'
  going_on count turns turns' left left' short short' f f' c g more roomy even count_on e = record {
    chunks = g.chunks ++ (c ∷ []);
    fed = e ∙ ap (λ (x : Held). keep (fed_of mode_s mode_ac draws c.noise (lend c x))) g.fed ∙ sym (fed_more g.chunks c d);
    evens = λ h. evens_more g.chunks c (g.evens more) roomy (even h);
    ended = λ h. cut_last g.chunks c (g.evens more) roomy;
    counted = λ h. omega (arith, length_more g.chunks c, g.counted (count_on h).0, (count_on h).1);
  }

  -- a section that is not cut short, by what is known of it
  pub going_whole : (count turns left : ℕ) (short : Bool) (f : Held) → short ≡ false → Going count turns left short f → Going count turns left false f
  going_whole count turns left short f e g = subst (λ (b : Bool). Going count turns left b f) e g

  pub going_end : (count turns left : ℕ) (short : Bool) (f : Held) → Going count turns left short f → turns ≡ 0 → left ≡ 0 → FedCut mode_s mode_ac draws count d short f
  unfolding FedCut
  going_end count turns left short f g over none_left = go g.chunks g.fed (g.ended over) (λ h. omega (arith, g.counted h))
    where
      go : (cs : List Chunk) → f ≡ fed_all mode_s mode_ac draws d cs → Ended cs → (short ≡ false → length (noise_in cs) ≡ count) → FedCut mode_s mode_ac draws count d short f
      go [] e h k = absurd h
      go (c ∷ cs) e h k = (c, cs, h, e, k)

-- ---- as a program reads a section: want values at a time, 16,384 at most, and a step more only where the section was not short and some are left
pub no_more : {a b : ℕ} → a ≡ b → a ≤ b
no_more e = omega arith

-- the values left fall, or there is a step less
pub fewer_left : (left want turns next want' turns' : ℕ) (short : Bool) → want ≤ left → 0 < turns → next ≤ cond short 0 (left - want) → turns' ≡ min want' 1 → 2 * next + turns' + (1 - want') < 2 * left + turns + (1 - want)
fewer_left left want turns next want' turns' true h m e t = omega (arith, e, t)
fewer_left left want turns next want' turns' false h m e t = omega (arith, e, t)

-- a step, by the values read, whether the samples were taken, and what is then left: a chunk that is not the last has an even number of values;
-- where the section is not cut short, as many values as were wanted; a section that goes on is not cut short; and where there is no step more, nothing is left
pub record Turned (n want left left' turns' : ℕ) (short' : Bool) : Type 0 where
  pub even : 0 < turns' → n % 2 ≡ 0
  pub read : short' ≡ false → (n ≡ want) × (want + left' ≡ left)
  pub goes_on : 0 < turns' → short' ≡ false
  pub over : turns' ≡ 0 → left' ≡ 0

pub turned : (n want left left' want' turns' : ℕ) (untaken short' : Bool) → n ≤ want → (want ≡ 0) ⊎ (want ≡ min left 16384) → want ≤ left
    → short' ≡ cond (ltb n want) true untaken → left' ≡ cond short' 0 (left - want) → want' ≡ min left' 16384 → turns' ≡ min want' 1 → Turned n want left left' turns' short'
turned n want left left' want' turns' untaken true within w h s l m t = record {
  even = λ more. absurd (omega (arith, l, m, t));
  read = λ e. absurd (true≢false e);
  goes_on = λ more. absurd (omega (arith, l, m, t));
  over = λ e. l;
}
turned n want left left' want' turns' untaken false within w h s l m t = record { even = λ more. by w more; read = λ e. (all, omega (arith, l)); goes_on = λ more. refl; over = λ e. omega (arith, m, t) }
  where
    not_early : (early : Bool) → ltb n want ≡ early → false ≡ cond early true untaken → early ≡ false
    not_early true e q = absurd (true≢false (sym q))
    not_early false e q = refl

    all : n ≡ want
    all = omega (arith, ltb-false n want (not_early (ltb n want) refl s))

    by : (want ≡ 0) ⊎ (want ≡ min left 16384) → 0 < turns' → n % 2 ≡ 0
    by (inl e) more = omega (arith, all)
    by (inr e) more = omega (arith, all, l, m, t)

module _ (mode_s mode_ac : List Float) (draws : List ℕ) (d : Held) where
  pub next_step : (count turns turns' left left' want n : ℕ) (short short' : Bool) (f f' : Feed) (memory memory' : List Float) (records records' : List ℕ) (row output output' : List Float)
      → Going mode_s mode_ac draws d count turns left short (record { feed = f; memory = memory; records = records }) → 0 < turns → length output ≡ 16386 → n ≤ length row → n ≤ want → want ≤ 16384 → short ≡ false
      → Turned n want left left' turns' short'
      → record { feed = f'; memory = memory'; output = output'; records = records' } ≡ fed_of mode_s mode_ac draws (take n row) (record { feed = f; memory = memory; output = output; records = records })
      → Going mode_s mode_ac draws d count turns' left' short' (record { feed = f'; memory = memory'; records = records' })
  unfolding keep lend
  next_step count turns turns' left left' want n short short' f f' memory memory' records records' row output output' g more long inside few most so_far t e =
      let l : length (take n row) ≡ n = length-take-le n row inside in
      going_on mode_s mode_ac draws d count turns turns' left left' short short' (record { feed = f; memory = memory; records = records }) (record { feed = f'; memory = memory'; records = records' }) (record { noise = take n row; output = output }) g more
      (omega (arith, long), omega (arith, long, l)) (λ h. omega (arith, t.even h, l)) (λ h. (so_far, omega (arith, l, (t.read h).0, (t.read h).1))) (ap keep e)
