-- What sums keep, every number written has: a property of 0.0 that each value which a reply adds, and each noise value that is not refused, leaves to a sum, is one of every sample that a list of run calls writes (`every-sample`).
use Rattle.std.specs.Prelude.{Option, Some, None}
use mathlib.Core.Bool.{Bool, true, false, cond}
use mathlib.Core.List.{List, [], ◌∷◌, ◌++◌}
use mathlib.Core.Path.{◌≡◌, refl, sym, ap, ◌∙◌, subst}
use Prim.Native.Nat.{ℕ, zero, suc, ◌-◌}
use lib.Dec.{leb}
use lib.ListN.{take}
use Rattle.run_theory.specs.Each.{Each}
use Rattle.run_theory.specs.Generator.{Generator, Pair, Sample, NoisePair, silence}
use Rattle.run_theory.specs.PlainRun.{reply, Reply, kind, time_of, replies, add_nth, hit, sum_from, samples_from}
use Rattle.run_theory.specs.PlainBench.{Refusal, flatten, Call, Result, draws_of, refusal_of, Bench, bench0, bench_call, bench_run, bench_results}
use Rattle.run_theory.specs.Laws.{Laws, InRange}
use Rattle.run_theory.specs.Demand3.{bench, plain_output}
use Rattle.run_theory.proofs.ListClaim.{draws_taken, noise_used, all_samples, all_taken, all_used, Demand3}
use Rattle.run_theory.proofs.Reach.{all_replies}
use Rattle.run_theory.proofs.Refusals.{not_refused, not_out_of_range}

-- ---- lists
module _ {X : Type 0} (P : X → Type 0) where
  each_take : (n : ℕ) (xs : List X) → Each P xs → Each P (take n xs)
  each_take zero xs h = tt
  each_take (suc n) [] h = tt
  each_take (suc n) (x ∷ xs) h = (h.0, each_take n xs h.1)

  each_append : (xs ys : List X) → Each P xs → Each P ys → Each P (xs ++ ys)
  each_append [] ys p q = q
  each_append (x ∷ xs) ys p q = (p.0, each_append xs ys p.1 q)

module _ {X : Type 0} (P : X → Type 0) where
  -- both numbers of a pair
  abbrev pub Both : Pair X → Type 0
  Both a = P a.re × P a.im

  each_flatten : (l : List (Pair X)) → Each Both l → Each P (flatten l)
  each_flatten [] h = tt
  each_flatten (a ∷ l) h = (h.0.0, (h.0.1, each_flatten l h.1))

  each_pair : (l : List (Pair X)) → Each P (flatten l) → Each Both l
  each_pair [] h = tt
  each_pair (a ∷ l) h = ((h.0, h.1.0), each_pair l h.1.1)

module _ (G : Generator) (L : Laws G) where
  open G use {Value, Draw, Time, t0, nought, plus, scaled, adds, out_of_range, total}

  -- P is kept by sums with values that have Q, which is what replies add, and with noise
  pub record KeptBySums (P Q : Value → Type 0) : Type 0 where
    pub first : P nought
    pub added : (a x : Value) → P a → Q x → P (plus a x)
    pub noised : (a v : Value) → P a → out_of_range v ≡ false → P (plus a (scaled v))
    pub adds_have : (t : Time) (d : Draw) (s : ℕ) → L.Good t → InRange G d → kind G t d ≡ reply s → Each (Both Q) (adds t d s)

  -- ---- what is taken and used
  taken_in_range : (b : Bench G) (cs : List (Call G)) → Each (InRange G) (all_taken G cs (bench_results G b cs))
  taken_in_range b [] = tt
  taken_in_range b (c ∷ cs) =
      each_append (InRange G) (take (draws_taken (bench_run G b c).0.answer) (draws_of G c.draws)) (all_taken G cs (bench_results G (bench_run G b c).1 cs))
      (go (refusal_of G (time_of G t0 b.taken) b.mark c) refl) (taken_in_range (bench_run G b c).1 cs)
    where
      go : (o : Option Refusal) → refusal_of G (time_of G t0 b.taken) b.mark c ≡ o → Each (InRange G) (take (draws_taken (bench_call G b c o).0.answer) (draws_of G c.draws))
      go (Some r) e = tt
      go None e = each_take (InRange G) (draws_taken (bench_call G b c None).0.answer) (draws_of G c.draws) (not_refused G (time_of G t0 b.taken) b.mark c e).in_range

  abbrev InRangeNoise : Value → Type 0
  InRangeNoise v = out_of_range v ≡ false

  used_in_range : (b : Bench G) (cs : List (Call G)) → Each InRangeNoise (all_used G cs (bench_results G b cs))
  used_in_range b [] = tt
  used_in_range b (c ∷ cs) =
      each_append InRangeNoise (take (noise_used (bench_run G b c).0.answer) c.noise) (all_used G cs (bench_results G (bench_run G b c).1 cs))
      (go (refusal_of G (time_of G t0 b.taken) b.mark c) refl) (used_in_range (bench_run G b c).1 cs)
    where
      go : (o : Option Refusal) → refusal_of G (time_of G t0 b.taken) b.mark c ≡ o → Each InRangeNoise (take (noise_used (bench_call G b c o).0.answer) c.noise)
      go (Some r) e = tt
      go None e = each_take InRangeNoise (noise_used (bench_call G b c None).0.answer) c.noise (not_out_of_range G (time_of G t0 b.taken) b.mark c e)

  module _ (P Q : Value → Type 0) (K : KeptBySums P Q) where
    -- ---- the plain run
    nth_kept : (a : Sample G) (xs : List (Sample G)) (k : ℕ) → Both P a → Each (Both Q) xs → Both P (add_nth G a xs k)
    nth_kept a [] k p q = p
    nth_kept a (x ∷ xs) zero p q = (K.added a.re x.re p.0 q.0.0, K.added a.im x.im p.1 q.0.1)
    nth_kept a (x ∷ xs) (suc k) p q = nth_kept a xs k p q.1

    hit_kept : (a : Sample G) (r : Reply G) (n : ℕ) → Both P a → Each (Both Q) r.values → Both P (hit G a r n)
    hit_kept a r n p q = go (leb r.first n)
      where
        go : (x : Bool) → Both P (cond x (add_nth G a r.values (n - r.first)) a)
        go true = nth_kept a r.values (n - r.first) p q
        go false = p

    abbrev Valued : Reply G → Type 0
    Valued r = Each (Both Q) r.values

    sum_kept : (a : Sample G) (rs : List (Reply G)) (n : ℕ) → Both P a → Each Valued rs → Both P (sum_from G a rs n)
    sum_kept a [] n p q = p
    sum_kept a (r ∷ rs) n p q = sum_kept (hit G a r n) rs n (hit_kept a r n p q.0) q.1

    samples_kept : (rs : List (Reply G)) (n : ℕ) (vs : List (NoisePair G)) → Each Valued rs → Each (Both InRangeNoise) vs → Each (Both P) (samples_from G rs n vs)
    samples_kept rs n [] q v = tt
    samples_kept rs n (w ∷ ws) q v =
        let a = sum_kept (silence G) rs n (K.first, K.first) q in
        ((K.noised _ w.re a.0 v.0.0, K.noised _ w.im a.1 v.0.1), samples_kept rs (suc n) ws q v.1)

    plain_kept : (ds : List Draw) (vs : List (NoisePair G)) → Each (InRange G) ds → Each (Both InRangeNoise) vs → Each P (plain_output G ds vs)
    plain_kept ds vs d v =
        each_flatten P (samples_from G (replies G t0 ds) 0 (take total vs))
        (samples_kept (replies G t0 ds) 0 (take total vs)
        (all_replies G L (Each Valued) tt (λ t d s g h e rs q. (K.adds_have t d s g h e, q)) t0 ds L.good_first d)
        (each_take (Both InRangeNoise) total vs v))

    -- ---- every list of run calls
    pub every_sample : (run : List (Call G) → List (Result G)) → Demand3 G run → (cs : List (Call G)) → Each P (all_samples G (run cs))
    every_sample run D cs =
        let taken : Each (InRange G) (bench G cs).taken = subst (Each (InRange G)) (sym (D.taken cs ∙ ap (all_taken G cs) (D.answers cs))) (taken_in_range (bench0 G) cs) in
        let used : Each InRangeNoise (flatten (bench G cs).used) = subst (Each InRangeNoise) (sym (D.used cs ∙ ap (all_used G cs) (D.answers cs))) (used_in_range (bench0 G) cs) in
        subst (Each P) (sym (D.samples cs)) (plain_kept (bench G cs).taken (bench G cs).used taken (each_pair InRangeNoise (bench G cs).used used))
