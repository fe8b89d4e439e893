-- Facts of the plain run: what one more draw, and more noise, do to it.
use mathlib.Core.Bool.{true, false, true≢false, false≢true}
use mathlib.Core.List.{List, [], ◌∷◌, ◌++◌}
use mathlib.Core.Path.{◌≡◌, refl, ap, ◌∙◌}
use Prim.Native.Nat.{ℕ, zero, suc, ◌+◌, ◌-◌, ◌≤◌, ◌<◌}
use native.Mathlib.Nat.{le_of_suc-le-suc, not-suc-le-zero}
use native.Mathlib.Omega.{arith}
use lib.ListN.{length, length-append}
use borrow.Author.Tests.{le-leb, lt-leb}
use Rattle.run_theory.specs.Generator.{Generator, Sample, NoisePair, noisy}
use Rattle.run_theory.specs.PlainRun.{Kind, ignored, ends, reply, Reply, kind, time_of, ends_by, ended, reply_of, push, replies, add_nth, hit, sum_from, sum_at, samples_from}

pub length_snoc : {X : Type 0} (xs : List X) (x : X) → length (xs ++ (x ∷ [])) ≡ suc (length xs)
length_snoc xs x = rw (length-append xs (x ∷ [])) (omega arith)

module _ (G : Generator) where
  open G use {Draw, Time, after}

  pub time_append : (t : Time) (ds es : List Draw) → time_of G t (ds ++ es) ≡ time_of G (time_of G t ds) es
  time_append t [] es = refl
  time_append t (d ∷ ds) es = time_append (after t d) ds es

  pub ended_still : (t : Time) (ds es : List Draw) → ended G t ds ≡ true → ended G t (ds ++ es) ≡ true
  ended_still t [] es h = absurd (false≢true h)
  ended_still t (d ∷ ds) es h = go (kind G (after t d) d) h (λ h'. ended_still (after t d) ds es h')
    where
      go : (k : Kind) → ends_by G k (ended G (after t d) ds) ≡ true → (ended G (after t d) ds ≡ true → ended G (after t d) (ds ++ es) ≡ true) → ends_by G k (ended G (after t d) (ds ++ es)) ≡ true
      go ignored e ih = ih e
      go ends e ih = refl
      go (reply s) e ih = ih e

  pub ended_append : (t : Time) (ds es : List Draw) → ended G t ds ≡ false → ended G t (ds ++ es) ≡ ended G (time_of G t ds) es
  ended_append t [] es h = refl
  ended_append t (d ∷ ds) es h = go (kind G (after t d) d) h (λ h'. ended_append (after t d) ds es h')
    where
      go : (k : Kind) → ends_by G k (ended G (after t d) ds) ≡ false → (ended G (after t d) ds ≡ false → ended G (after t d) (ds ++ es) ≡ ended G (time_of G (after t d) ds) es) → ends_by G k (ended G (after t d) (ds ++ es)) ≡ ended G (time_of G (after t d) ds) es
      go ignored e ih = ih e
      go ends e ih = absurd (true≢false e)
      go (reply s) e ih = ih e

  -- draws after the ends are no part of the run
  pub replies_still : (t : Time) (ds es : List Draw) → ended G t ds ≡ true → replies G t (ds ++ es) ≡ replies G t ds
  replies_still t [] es h = absurd (false≢true h)
  replies_still t (d ∷ ds) es h = go (kind G (after t d) d) h (λ h'. replies_still (after t d) ds es h')
    where
      go : (k : Kind) → ends_by G k (ended G (after t d) ds) ≡ true → (ended G (after t d) ds ≡ true → replies G (after t d) (ds ++ es) ≡ replies G (after t d) ds) → push G k (after t d) d (replies G (after t d) (ds ++ es)) ≡ push G k (after t d) d (replies G (after t d) ds)
      go ignored e ih = ih e
      go ends e ih = refl
      go (reply s) e ih = ap (λ (r : List (Reply G)). reply_of G (after t d) d s ∷ r) (ih e)

  pub replies_append : (t : Time) (ds es : List Draw) → ended G t ds ≡ false → replies G t (ds ++ es) ≡ replies G t ds ++ replies G (time_of G t ds) es
  replies_append t [] es h = refl
  replies_append t (d ∷ ds) es h = go (kind G (after t d) d) h (λ h'. replies_append (after t d) ds es h')
    where
      go : (k : Kind) → ends_by G k (ended G (after t d) ds) ≡ false → (ended G (after t d) ds ≡ false → replies G (after t d) (ds ++ es) ≡ replies G (after t d) ds ++ replies G (time_of G (after t d) ds) es) → push G k (after t d) d (replies G (after t d) (ds ++ es)) ≡ push G k (after t d) d (replies G (after t d) ds) ++ replies G (time_of G (after t d) ds) es
      go ignored e ih = ih e
      go ends e ih = absurd (true≢false e)
      go (reply s) e ih = ap (λ (r : List (Reply G)). reply_of G (after t d) d s ∷ r) (ih e)

  pub sum_append : (a : Sample G) (rs qs : List (Reply G)) (n : ℕ) → sum_from G a (rs ++ qs) n ≡ sum_from G (sum_from G a rs n) qs n
  sum_append a [] qs n = refl
  sum_append a (r ∷ rs) qs n = sum_append (hit G a r n) rs qs n

  pub add_nth_out : (a : Sample G) (xs : List (Sample G)) (k : ℕ) → length xs ≤ k → add_nth G a xs k ≡ a
  add_nth_out a [] k h = refl
  add_nth_out a (x ∷ xs) zero h = absurd (not-suc-le-zero h)
  add_nth_out a (x ∷ xs) (suc k) h = add_nth_out a xs k (le_of_suc-le-suc h)

  pub hit_before : (a : Sample G) (r : Reply G) (n : ℕ) → n < r.first → hit G a r n ≡ a
  hit_before a r n h = rw (lt-leb r.first n h)

  pub hit_behind : (a : Sample G) (r : Reply G) (n : ℕ) → r.first + length r.values ≤ n → hit G a r n ≡ a
  hit_behind a r n h = rw (le-leb r.first n (omega arith)) (add_nth_out a r.values (n - r.first) (omega arith))

  pub hit_at : (a : Sample G) (r : Reply G) (n : ℕ) → r.first ≤ n → hit G a r n ≡ add_nth G a r.values (n - r.first)
  hit_at a r n h = rw (le-leb r.first n h)

  pub length_samples_from : (rs : List (Reply G)) (n : ℕ) (vs : List (NoisePair G)) → length (samples_from G rs n vs) ≡ length vs
  length_samples_from rs n [] = refl
  length_samples_from rs n (v ∷ vs) = ap suc (length_samples_from rs (suc n) vs)

  pub samples_from_append : (rs : List (Reply G)) (n : ℕ) (vs us : List (NoisePair G)) → samples_from G rs n (vs ++ us) ≡ samples_from G rs n vs ++ samples_from G rs (n + length vs) us
  samples_from_append rs n [] us = ap (λ (m : ℕ). samples_from G rs m us) (omega arith)
  samples_from_append rs n (v ∷ vs) us =
      ap (λ (l : List (Sample G)). noisy G (sum_at G rs n) v ∷ l)
      (samples_from_append rs (suc n) vs us ∙ ap (λ (m : ℕ). samples_from G rs (suc n) vs ++ samples_from G rs m us) (omega arith))

  pub samples_from_same : (rs qs : List (Reply G)) (n : ℕ) (vs : List (NoisePair G)) → ((k : ℕ) → k < n + length vs → sum_at G rs k ≡ sum_at G qs k) → samples_from G rs n vs ≡ samples_from G qs n vs
  samples_from_same rs qs n [] h = refl
  samples_from_same rs qs n (v ∷ vs) h =
      ap (λ (a : Sample G). noisy G a v ∷ samples_from G rs (suc n) vs) (h n (omega arith))
      ∙ ap (λ (l : List (Sample G)). noisy G (sum_at G qs n) v ∷ l) (samples_from_same rs qs (suc n) vs (λ k lt. h k (omega arith)))
