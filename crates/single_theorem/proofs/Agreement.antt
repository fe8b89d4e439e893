-- One reply alone and the plain run agree (`agreement`): sample by sample, before the reply's start and from it on.
use Prim.Native.Nat.{ℕ, zero, suc, ◌+◌, ◌-◌, ◌*◌, ◌/◌, ◌≤◌, ◌<◌}
use native.Mathlib.Omega.{arith}
use mathlib.Core.Path.{◌≡◌, refl, sym, ap, ◌∙◌, subst}
use mathlib.Core.Bool.{Bool, cond}
use mathlib.Core.List.{List, [], ◌∷◌, ◌++◌, map}
use mathlib.Core.Logic.{◌≢◌}
use borrow.Author.Tests.{le-leb, lt-leb}
use lib.Dec.{T}
use lib.IntN.{ℤ, pos, negsuc}
use lib.ListN.{length, take, drop}
use lib.Seq.{take_all, take-nil, drop-nil}
use lib.Ieee.{Float, binary32, binary64, add, mul, fits}
use lib.Ieee.Fits.{mul-fits}
use Rattle.math.specs.Phase.{phase_wrap_once}
use Rattle.message_config.specs.declared.MessageConfig.{MessageConfig}
use Rattle.message_config.specs.Config.{config_start}
use Rattle.reply_samples.specs.declared.Sample.{Sample}
use Rattle.reply_samples.specs.Samples.{sample_at, rotated, samples_by, reply_samples}
use Rattle.draw.specs.Config.{time_after, config_of}
use Rattle.run_theory.specs.Each.{Each}
use Rattle.run_theory.specs.Generator.{Generator, Pair, from, start_from}
use Rattle.run_theory.specs.PlainRun.{Kind, Reply, replies, push, reply_of, add_nth, hit, samples_from}
use Rattle.run_theory.specs.PlainBench.{pairs, flatten}
use Rattle.run_theory.specs.FloatGenerator.{nought, noise_scale}
use Rattle.run_theory.proofs.StepFacts.{reply_start}
use Rattle.run_call_model.proofs.FlatLists.{length_pairs, flatten_pairs}
use Rattle.run_generator.specs.Instance.{pair_of, Filters, pulse_samples, instance_of}
use Rattle.single_add.specs.Stretch.{scaled_noise, numbers_of, added_to, first_reached, passed_over, with_reply}
use Rattle.single_theory.specs.Single.{single_samples}
use Rattle.single_theorem.specs.Agreement.{minus_zero, Agreement}
use Rattle.single_theorem.proofs.Zeros.{zero_plus, either_way}

-- ---- the numbers of a reply's samples are values of f32
abbrev Held : Sample → Type 0
Held z = T (fits binary32 z.re) × T (fits binary32 z.im)

rotated_held : (amplitude rate phase : Float) (vs : List Float) → Each Held (rotated amplitude rate phase vs)
unfolding rotated sample_at
rotated_held amplitude rate phase [] = tt
rotated_held amplitude rate phase (v ∷ vs) = ((mul-fits binary32 _ _, mul-fits binary32 _ _), rotated_held amplitude rate (phase_wrap_once (add binary64 phase rate)) vs)

samples_held : (sps : ℕ) (mode_s mode_ac : List Float) (f : Filters) (amplitude : Float) (c : MessageConfig) → Each Held (reply_samples sps mode_s mode_ac f.delays amplitude c)
unfolding reply_samples samples_by
samples_held sps mode_s mode_ac f amplitude c = rotated_held amplitude _ _ _

-- ---- lists
two_more : (j : ℕ) → 2 * suc j ≡ suc (suc (2 * j))
two_more j = omega arith

drop_two : (j : ℕ) (x y : Float) (l : List Float) → drop (2 * suc j) (x ∷ y ∷ l) ≡ drop (2 * j) l
drop_two j x y l = ap (λ (n : ℕ). drop n (x ∷ y ∷ l)) (two_more j)

added_none : (xs : List Float) → added_to xs [] ≡ xs
unfolding added_to
added_none [] = refl
added_none (x ∷ xs) = refl

module _ (f : Filters) (total : ℕ) where
  abbrev G : Generator
  G = instance_of f total

  abbrev silent : Pair Float
  silent = record { re = nought; im = nought }

  abbrev scaled : Float → Float
  scaled v = mul binary32 v noise_scale

  -- a sample with its noise, where the reply adds its j-th sample or nothing
  one_added : (zs : List Sample) (j : ℕ) (v : Pair Float) (l : List Float) → Each Held zs → scaled v.re ≢ minus_zero → scaled v.im ≢ minus_zero
      → add binary32 (add_nth G silent (map pair_of zs) j).re (scaled v.re) ∷ add binary32 (add_nth G silent (map pair_of zs) j).im (scaled v.im) ∷ added_to l (drop (2 * suc j) (numbers_of zs))
      ≡ added_to (scaled v.re ∷ scaled v.im ∷ l) (drop (2 * j) (numbers_of zs))
  unfolding numbers_of added_to pair_of
  one_added [] j v l H p q =
      (λ i. zero_plus (scaled v.re) (mul-fits binary32 v.re noise_scale) p i ∷ zero_plus (scaled v.im) (mul-fits binary32 v.im noise_scale) q i ∷ (ap (added_to l) (drop-nil (2 * suc j)) ∙ added_none l) i)
      ∙ sym (ap (added_to (scaled v.re ∷ scaled v.im ∷ l)) (drop-nil (2 * j)))
  one_added (z ∷ zs) zero v l H p q =
      (λ i. either_way z.re (scaled v.re) H.0.0 (mul-fits binary32 v.re noise_scale) p i ∷ either_way z.im (scaled v.im) H.0.1 (mul-fits binary32 v.im noise_scale) q i ∷ added_to l (drop_two 0 z.re z.im (numbers_of zs) i))
  one_added (z ∷ zs) (suc j) v l H p q =
      ap (λ (k : List Float). add binary32 (add_nth G silent (map pair_of zs) j).re (scaled v.re) ∷ add binary32 (add_nth G silent (map pair_of zs) j).im (scaled v.im) ∷ added_to l k) (drop_two (suc j) z.re z.im (numbers_of zs))
      ∙ one_added zs j v l H.1 p q
      ∙ ap (added_to (scaled v.re ∷ scaled v.im ∷ l)) (sym (drop_two j z.re z.im (numbers_of zs)))

  module _ (r : Reply G) (zs : List Sample) (is : r.values ≡ map pair_of zs) (H : Each Held zs) where
    abbrev Quiet : List (Pair Float) → Type 0
    Quiet vs = Each (λ (x : Float). x ≢ minus_zero) (scaled_noise (flatten vs))

    -- from the start on
    after : (vs : List (Pair Float)) (j : ℕ) → Quiet vs → flatten (samples_from G (r ∷ []) (r.first + j) vs) ≡ added_to (scaled_noise (flatten vs)) (drop (2 * j) (numbers_of zs))
    unfolding scaled_noise added_to
    after [] j q = refl
    after (v ∷ vs) j q =
        (λ i. add binary32 (at i).re (scaled v.re) ∷ add binary32 (at i).im (scaled v.im) ∷ (ap (λ (m : ℕ). flatten (samples_from G (r ∷ []) m vs)) (next r.first j) ∙ after vs (suc j) q.1.1) i)
        ∙ one_added zs j v (scaled_noise (flatten vs)) H q.0 q.1.0
      where
        next : (s j : ℕ) → suc (s + j) ≡ s + suc j
        next s j = omega arith

        back : (s j : ℕ) → s + j - s ≡ j
        back s j = omega arith

        reached : (s j : ℕ) → s ≤ s + j
        reached s j = omega arith

        at : hit G silent r (r.first + j) ≡ add_nth G silent (map pair_of zs) j
        at =
            ap (λ (b : Bool). cond b (add_nth G silent r.values (r.first + j - r.first)) silent) (le-leb r.first (r.first + j) (reached r.first j))
            ∙ (λ i. add_nth G silent (is i) (back r.first j i))

    -- before it
    before : (k : ℕ) (vs : List (Pair Float)) (m : ℕ) → m + k ≡ r.first → Quiet vs
        → flatten (samples_from G (r ∷ []) m vs) ≡ take (2 * k) (scaled_noise (flatten vs)) ++ added_to (drop (2 * k) (scaled_noise (flatten vs))) (numbers_of zs)
    unfolding scaled_noise added_to
    before zero vs m e q = ap (λ (n : ℕ). flatten (samples_from G (r ∷ []) n vs)) (here m r.first e) ∙ after vs 0 q
      where
        here : (m s : ℕ) → m + 0 ≡ s → m ≡ s + 0
        here m s e = omega arith
    before (suc k) [] m e q = sym (λ i. take-nil {A = Float} (2 * suc k) i ++ added_to (drop-nil {A = Float} (2 * suc k) i) (numbers_of zs))
    before (suc k) (v ∷ vs) m e q =
        (λ i. (ap (λ (a : Pair Float). add binary32 a.re (scaled v.re)) still ∙ zero_plus (scaled v.re) (mul-fits binary32 v.re noise_scale) q.0) i
        ∷ (ap (λ (a : Pair Float). add binary32 a.im (scaled v.im)) still ∙ zero_plus (scaled v.im) (mul-fits binary32 v.im noise_scale) q.1.0) i
        ∷ before k vs (suc m) (next m k r.first e) q.1.1 i)
        ∙ sym (ap (λ (n : ℕ). take n (scaled v.re ∷ scaled v.im ∷ scaled_noise (flatten vs)) ++ added_to (drop n (scaled v.re ∷ scaled v.im ∷ scaled_noise (flatten vs))) (numbers_of zs)) (two_more k))
      where
        next : (m k s : ℕ) → m + suc k ≡ s → suc m + k ≡ s
        next m k s e = omega arith

        early : (m k s : ℕ) → m + suc k ≡ s → m < s
        early m k s e = omega arith

        still : hit G silent r m ≡ silent
        still = ap (λ (b : Bool). cond b (add_nth G silent r.values (m - r.first)) silent) (lt-leb r.first m (early m k r.first e))

-- ---- the start of a reply
started : (z : ℤ) (s : ℕ) → start_from z ≡ from s → z ≡ pos s
unfolding start_from
started (pos n) s e = let h : n ≡ s = cc in ap pos h
started (negsuc n) s e = let h : ◌≡◌ {A = ℕ} 0 1 = cc in absurd (omega arith)

pub agreement : Agreement
unfolding single_samples with_reply first_reached passed_over time_after
agreement f total d rest s n noise k ends l h q =
    let t = time_after nought d.draw in
    let c = config_of f.distributions t d.draw in
    let zs = reply_samples (pulse_samples f) f.mode_s f.mode_ac f.delays d.draw.amplitude c in
    let start : config_start f.delays c ≡ pos s = started (config_start f.delays c) s (reply_start (instance_of f total) (start_from (config_start f.delays c)) s k) in
    let r = reply_of (instance_of f total) t d s in
    let one : replies (instance_of f total) nought (d ∷ rest) ≡ r ∷ [] = ap (λ (x : Kind). push (instance_of f total) x t d (replies (instance_of f total) t rest)) k ∙ ap (λ (x : List (Reply (instance_of f total))). r ∷ x) ends in
    let whole : take total (pairs noise) ≡ pairs noise = take_all total (pairs noise) (few (length (pairs noise)) total n (length_pairs noise) l h) in
    let even : flatten (pairs noise) ≡ noise = flatten_pairs n noise l in
    ap (λ (z : ℤ). with_reply z zs (scaled_noise noise)) start
    ∙ ap (λ (x : List Float). take (2 * s) (scaled_noise x) ++ added_to (drop (2 * s) (scaled_noise x)) (numbers_of zs)) (sym even)
    ∙ sym (before f total r zs refl (samples_held (pulse_samples f) f.mode_s f.mode_ac f d.draw.amplitude c) s (pairs noise) 0 (first s) (subst (λ (x : List Float). Each (λ (y : Float). y ≢ minus_zero) (scaled_noise x)) (sym even) q))
    ∙ sym (λ i. flatten (samples_from (instance_of f total) (one i) 0 (whole i)))
  where
    first : (s : ℕ) → 0 + s ≡ s
    first s = omega arith

    few : (m total n : ℕ) → m ≡ length noise / 2 → length noise ≡ 2 * n → n ≤ total → m ≤ total
    few m total n e l h = omega arith
