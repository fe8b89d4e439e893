-- Working memory as flat numbers: a reply added slot by slot, and a stretch that does not wrap: what samples written from it are, and what is left of it.
-- A tight loop over numbers can state its contract by `mixed` and `replicate`.
use mathlib.Core.Bool.{Bool, true, false, cond}
use mathlib.Core.List.{List, [], ◌∷◌, ◌++◌, append_assoc}
use mathlib.Core.Path.{◌≡◌, refl, sym, ap, ◌∙◌}
use Prim.Native.Nat.{ℕ, zero, suc, ◌+◌, ◌-◌, ◌*◌, ◌%◌, ◌≤◌, ◌<◌}
use native.Mathlib.Nat.{mod-lt, mod-add-mod, suc-mod, mod-eq_of_lt, mod_self, add-zero}
use native.Mathlib.Omega.{arith}
use lib.Dec.{ltb}
use lib.ListN.{length, length-drop, get_or, set, take, drop, replicate, length-set, take-append-drop}
use lib.Seq.{take-add, length-take-le, get_or-set_other, drop-cons, take-suc-set, drop-set-lt}
use borrow.Author.Tests.{ltb-true, ltb-false}
use Rattle.run_theory.specs.Generator.{Generator, Sample, NoisePair, silence, add, noisy}
use Rattle.run_theory.specs.PlainBench.{pairs, flatten}
use Rattle.run_call_model.specs.Machine.{window, rd, wr, put}
use Rattle.run_call_model.specs.Batch.{written, cleared, mixed}
use Rattle.run_call_model.proofs.FlatLists.{flatten_append, flatten_pairs, pairs_after, length_pairs}
use Rattle.run_call_model.proofs.Ring.{rd_other, length_wr}
use Rattle.run_call_model.proofs.Batch.{written_append, cleared_add, length_cleared}

-- the slot of the next sample, by a comparison
pub next_slot_lem : (w s : ℕ) → s % w < w → suc s % w ≡ cond (ltb (suc (s % w)) w) (suc (s % w)) 0
next_slot_lem w s h = suc-mod s w ∙ go (ltb (suc (s % w)) w) refl
  where
    go : (x : Bool) → ltb (suc (s % w)) w ≡ x → suc (s % w) % w ≡ cond x (suc (s % w)) 0
    go true e = mod-eq_of_lt (ltb-true (suc (s % w)) w e)
    go false e = ap (λ (n : ℕ). n % w) {x = suc (s % w)} {y = w} (omega (arith, ltb-false (suc (s % w)) w e)) ∙ mod_self w

-- the sample that is a window less a slot further on stands at slot 0
pub slot_wraps : (w s : ℕ) → s % w < w → (s + (w - s % w)) % w ≡ 0
slot_wraps w s h = sym (mod-add-mod s w (w - s % w)) ∙ ap (λ (n : ℕ). n % w) {x = s % w + (w - s % w)} {y = w} (omega arith) ∙ mod_self w

module _ (G : Generator) (o : G.Value) where
  open G use {Value, nought, plus, scaled}

  -- ---- a reply added, slot by slot
  abbrev pub bump : List Value → ℕ → Value → List Value
  bump m i x = set m i (plus (get_or m i o) x)

  -- a sample is added number by number
  pub bump_two : (m : List Value) (q : ℕ) (x : Sample G) → wr G o m q (add G (rd G o m q) x) ≡ bump (bump m (2 * q) x.re) (2 * q + 1) x.im
  bump_two m q x =
      ap (λ (y : Value). set (set m (2 * q) (plus (get_or m (2 * q) o) x.re)) (2 * q + 1) (plus y x.im))
      (sym (get_or-set_other m (2 * q) (2 * q + 1) (plus (get_or m (2 * q) o) x.re) o (omega arith)))

  -- the slot after q, by a comparison
  abbrev pub next_slot : ℕ → ℕ
  next_slot q = cond (ltb (suc q) (window G o)) (suc q) 0

  abbrev pub put_from : List Value → ℕ → List (Sample G) → List Value
  put_from m q [] = m
  put_from m q (x ∷ xs) = put_from (bump (bump m (2 * q) x.re) (2 * q + 1) x.im) (next_slot q) xs

  pub put_from_lem : (xs : List (Sample G)) (m : List Value) (s : ℕ) → 0 < window G o → put G o m s xs ≡ put_from m (s % window G o) xs
  put_from_lem [] m s pos = refl
  put_from_lem (x ∷ xs) m s pos =
      ap (λ (y : List Value). put G o y (suc s) xs) (bump_two m (s % window G o) x)
      ∙ put_from_lem xs (bump (bump m (2 * (s % window G o)) x.re) (2 * (s % window G o) + 1) x.im) (suc s) pos
      ∙ ap (λ (q : ℕ). put_from (bump (bump m (2 * (s % window G o)) x.re) (2 * (s % window G o) + 1) x.im) q xs) (next_slot_lem (window G o) s (mod-lt s pos))

  -- ---- by slot
  reads : List Value → ℕ → List (NoisePair G) → List (Sample G)
  reads m p [] = []
  reads m p (v ∷ vs) = noisy G (rd G o m p) v ∷ reads m (suc p) vs

  reads_wr : (vs : List (NoisePair G)) (m : List Value) (p q : ℕ) (a : Sample G) → p < q → reads (wr G o m p a) q vs ≡ reads m q vs
  unfolding reads
  reads_wr [] m p q a h = refl
  reads_wr (v ∷ vs) m p q a h =
      ap (λ (x : Sample G). noisy G x v ∷ reads (wr G o m p a) (suc q) vs) (rd_other G o m p q a (λ e. omega arith))
      ∙ ap (λ (l : List (Sample G)). noisy G (rd G o m q) v ∷ l) (reads_wr vs m p (suc q) a (omega arith))

  -- the next slot of a stretch
  step_slot : (w p : ℕ) → w % window G o ≡ p → suc p < window G o → suc w % window G o ≡ suc p
  step_slot w p e h = suc-mod w (window G o) ∙ ap (λ (n : ℕ). suc n % window G o) e ∙ mod-eq_of_lt h

  written_reads : (vs : List (NoisePair G)) (m : List Value) (w p : ℕ) → w % window G o ≡ p → p + length vs ≤ window G o → written G o m w vs ≡ reads m p vs
  unfolding reads
  written_reads [] m w p e h = refl
  written_reads (v ∷ []) m w p e h = ap (λ (n : ℕ). noisy G (rd G o m n) v ∷ []) e
  written_reads (v ∷ u ∷ vs) m w p e h =
      ap (λ (n : ℕ). noisy G (rd G o m n) v ∷ written G o (wr G o m n (silence G)) (suc w) (u ∷ vs)) e
      ∙ ap (λ (l : List (Sample G)). noisy G (rd G o m p) v ∷ l)
      (written_reads (u ∷ vs) (wr G o m p (silence G)) (suc w) (suc p) (step_slot w p e (omega arith)) (omega arith) ∙ reads_wr (u ∷ vs) m p (suc p) (silence G) (omega arith))

  reads_flat : (vs : List (NoisePair G)) (m : List Value) (p : ℕ) → 2 * (p + length vs) ≤ length m → flatten (reads m p vs) ≡ mixed G o (drop (2 * p) m) (flatten vs)
  unfolding reads
  reads_flat [] m p h = sym (no_noise (drop (2 * p) m))
    where
      no_noise : (l : List Value) → mixed G o l [] ≡ []
      no_noise [] = refl
      no_noise (x ∷ l) = refl
  reads_flat (v ∷ vs) m p h =
      ap (λ (l : List Value). plus (get_or m (2 * p) o) (scaled v.re) ∷ plus (get_or m (2 * p + 1) o) (scaled v.im) ∷ l)
      (reads_flat vs m (suc p) (omega arith) ∙ ap (λ (n : ℕ). mixed G o (drop n m) (flatten vs)) {x = 2 * suc p} {y = suc (2 * p + 1)} (omega arith))
      ∙ ap (λ (l : List Value). mixed G o l (flatten (v ∷ vs))) (sym two)
    where
      two : drop (2 * p) m ≡ get_or m (2 * p) o ∷ get_or m (2 * p + 1) o ∷ drop (suc (2 * p + 1)) m
      two =
          drop-cons m (2 * p) o (omega arith)
          ∙ ap (λ (l : List Value). get_or m (2 * p) o ∷ l) (ap (λ (n : ℕ). drop n m) {x = suc (2 * p)} {y = 2 * p + 1} (omega arith) ∙ drop-cons m (2 * p + 1) o (omega arith))

  -- samples of a stretch, as numbers
  pub written_stretch : (vs : List (NoisePair G)) (m : List Value) (w : ℕ) → w % window G o + length vs ≤ window G o → length m ≡ 2 * window G o
      → flatten (written G o m w vs) ≡ mixed G o (drop (2 * (w % window G o)) m) (flatten vs)
  written_stretch vs m w h f =
      ap (λ (l : List (Sample G)). flatten l) (written_reads vs m w (w % window G o) refl h) ∙ reads_flat vs m (w % window G o) (omega arith)

  -- ---- what is left
  blanked : List Value → ℕ → ℕ → List Value
  blanked m p n = take (2 * p) m ++ (replicate (2 * n) nought ++ drop (2 * p + 2 * n) m)

  blank_one : (m : List Value) (p : ℕ) → 2 * p + 1 < length m → take (suc (2 * p + 1)) (wr G o m p (silence G)) ≡ take (2 * p) m ++ (nought ∷ nought ∷ [])
  blank_one m p h =
      take-suc-set (set m (2 * p) nought) (2 * p + 1) nought (omega (arith, length-set m (2 * p) nought))
      ∙ ap (λ (n : ℕ). take n (set m (2 * p) nought) ++ (nought ∷ [])) {x = 2 * p + 1} {y = suc (2 * p)} (omega arith)
      ∙ ap (λ (l : List Value). l ++ (nought ∷ [])) (take-suc-set m (2 * p) nought (omega arith))
      ∙ append_assoc (take (2 * p) m) (nought ∷ []) (nought ∷ [])

  blanked_on : (m : List Value) (p n : ℕ) → 2 * p + 1 < length m → blanked (wr G o m p (silence G)) (suc p) n ≡ blanked m p (suc n)
  unfolding blanked
  blanked_on m p n h =
      ap (λ (k : ℕ). take k m' ++ (replicate (2 * n) nought ++ drop (2 * suc p + 2 * n) m')) {x = 2 * suc p} {y = suc (2 * p + 1)} (omega arith)
      ∙ ap (λ (l : List Value). l ++ (replicate (2 * n) nought ++ drop (2 * suc p + 2 * n) m')) (blank_one m p h)
      ∙ append_assoc (take (2 * p) m) (nought ∷ nought ∷ []) (replicate (2 * n) nought ++ drop (2 * suc p + 2 * n) m')
      ∙ ap (λ (l : List Value). take (2 * p) m ++ (nought ∷ nought ∷ (replicate (2 * n) nought ++ l))) rest
      ∙ ap (λ (k : ℕ). take (2 * p) m ++ (replicate k nought ++ drop (2 * p + 2 * suc n) m)) {x = suc (suc (2 * n))} {y = 2 * suc n} (omega arith)
    where
      m' : List Value
      m' = wr G o m p (silence G)

      rest : drop (2 * suc p + 2 * n) m' ≡ drop (2 * p + 2 * suc n) m
      rest =
          drop-set-lt (2 * suc p + 2 * n) (set m (2 * p) nought) (2 * p + 1) nought (omega arith)
          ∙ drop-set-lt (2 * suc p + 2 * n) m (2 * p) nought (omega arith)
          ∙ ap (λ (k : ℕ). drop k m) {x = 2 * suc p + 2 * n} {y = 2 * p + 2 * suc n} (omega arith)

  cleared_blanked : (n : ℕ) (m : List Value) (w p : ℕ) → w % window G o ≡ p → p + n ≤ window G o → length m ≡ 2 * window G o → cleared G o m w n ≡ blanked m p n
  unfolding blanked
  cleared_blanked zero m w p e h f = sym (ap (λ (k : ℕ). take (2 * p) m ++ drop k m) (add-zero (2 * p)) ∙ take-append-drop (2 * p) m)
  cleared_blanked (suc zero) m w p e h f =
      ap (λ (i : ℕ). wr G o m i (silence G)) e
      ∙ sym (ap (λ (k : ℕ). take (2 * suc p) m' ++ drop k m') (add-zero (2 * suc p)) ∙ take-append-drop (2 * suc p) m')
      ∙ blanked_on m p 0 (omega arith)
    where
      m' : List Value
      m' = wr G o m p (silence G)
  cleared_blanked (suc (suc n)) m w p e h f =
      ap (λ (i : ℕ). cleared G o (wr G o m i (silence G)) (suc w) (suc n)) e
      ∙ cleared_blanked (suc n) (wr G o m p (silence G)) (suc w) (suc p) (step_slot w p e (omega arith)) (omega arith) (length_wr G o m p (silence G) ∙ f)
      ∙ blanked_on m p (suc n) (omega arith)

  -- memory after a stretch: its numbers are 0.0, the others as they were
  pub cleared_stretch : (n : ℕ) (m : List Value) (w : ℕ) → w % window G o + n ≤ window G o → length m ≡ 2 * window G o
      → cleared G o m w n ≡ take (2 * (w % window G o)) m ++ (replicate (2 * n) nought ++ drop (2 * (w % window G o) + 2 * n) m)
  unfolding blanked
  cleared_stretch n m w h f = cleared_blanked n m w (w % window G o) refl h f

  -- ---- one stretch after another
  pairs_more : (k j : ℕ) (xs : List Value) → 2 * (k + j) ≤ length xs → pairs (take (2 * (k + j)) xs) ≡ pairs (take (2 * k) xs) ++ pairs (take (2 * j) (drop (2 * k) xs))
  pairs_more k j xs h =
      ap (λ (n : ℕ). pairs (take n xs)) {x = 2 * (k + j)} {y = 2 * k + 2 * j} (omega arith)
      ∙ ap (λ (l : List Value). pairs l) (take-add (2 * k) (2 * j) xs ∙ ap (λ (l : List Value). l ++ take (2 * j) (drop (2 * k) xs)) (sym (flatten_pairs k (take (2 * k) xs) (length-take-le (2 * k) xs (omega arith)))))
      ∙ pairs_after (pairs (take (2 * k) xs)) (take (2 * j) (drop (2 * k) xs))

  length_first : (k : ℕ) (xs : List Value) → 2 * k ≤ length xs → length (pairs (take (2 * k) xs)) ≡ k
  length_first k xs h = length_pairs (take (2 * k) xs) ∙ omega (arith, length-take-le (2 * k) xs h)

  -- after k samples with the noise xs, a stretch of j more
  pub written_more : (k j : ℕ) (xs m : List Value) (w : ℕ) → 2 * (k + j) ≤ length xs → (w + k) % window G o + j ≤ window G o → length m ≡ 2 * window G o
      → flatten (written G o m w (pairs (take (2 * (k + j)) xs)))
      ≡ flatten (written G o m w (pairs (take (2 * k) xs))) ++ mixed G o (drop (2 * ((w + k) % window G o)) (cleared G o m w k)) (take (2 * j) (drop (2 * k) xs))
  written_more k j xs m w h fits f =
      ap (λ (vs : List (NoisePair G)). flatten (written G o m w vs)) (pairs_more k j xs h)
      ∙ ap (λ (l : List (Sample G)). flatten l) (written_append G o first next m w)
      ∙ flatten_append (written G o m w first) (written G o (cleared G o m w (length first)) (w + length first) next)
      ∙ ap (λ (n : ℕ). flatten (written G o m w first) ++ flatten (written G o (cleared G o m w n) (w + n) next)) (length_first k xs (omega arith))
      ∙ ap (λ (l : List Value). flatten (written G o m w first) ++ l) stretch
    where
      first : List (NoisePair G)
      first = pairs (take (2 * k) xs)

      next : List (NoisePair G)
      next = pairs (take (2 * j) (drop (2 * k) xs))

      more : length (take (2 * j) (drop (2 * k) xs)) ≡ 2 * j
      more = length-take-le (2 * j) (drop (2 * k) xs) (omega (arith, length-drop (2 * k) xs))

      count : length next ≡ j
      count = length_pairs (take (2 * j) (drop (2 * k) xs)) ∙ omega (arith, more)

      stretch : flatten (written G o (cleared G o m w k) (w + k) next) ≡ mixed G o (drop (2 * ((w + k) % window G o)) (cleared G o m w k)) (take (2 * j) (drop (2 * k) xs))
      stretch =
          written_stretch next (cleared G o m w k) (w + k) (omega (arith, count)) (length_cleared G o k m w ∙ f)
          ∙ ap (λ (l : List Value). mixed G o (drop (2 * ((w + k) % window G o)) (cleared G o m w k)) l) (flatten_pairs j (take (2 * j) (drop (2 * k) xs)) more)

  pub cleared_more : (k j : ℕ) (m : List Value) (w : ℕ) → (w + k) % window G o + j ≤ window G o → length m ≡ 2 * window G o
      → cleared G o m w (k + j)
      ≡ take (2 * ((w + k) % window G o)) (cleared G o m w k) ++ (replicate (2 * j) nought ++ drop (2 * ((w + k) % window G o) + 2 * j) (cleared G o m w k))
  cleared_more k j m w fits f = cleared_add G o k j m w ∙ cleared_stretch j (cleared G o m w k) (w + k) fits (length_cleared G o k m w ∙ f)

  -- ---- the tight loop: one number more
  pub length_mixed : (i : ℕ) (xs vs : List Value) → i ≤ length xs → i ≤ length vs → length (mixed G o xs (take i vs)) ≡ i
  length_mixed zero [] vs h k = refl
  length_mixed zero (x ∷ xs) vs h k = refl
  length_mixed (suc i) [] vs h k = absurd (omega arith)
  length_mixed (suc i) (x ∷ xs) [] h k = absurd (omega arith)
  length_mixed (suc i) (x ∷ xs) (v ∷ vs) h k = ap suc (length_mixed i xs vs (omega arith) (omega arith))

  pub mixed_snoc : (i : ℕ) (xs vs : List Value) → i < length xs → i < length vs → mixed G o xs (take i vs) ++ (plus (get_or xs i o) (scaled (get_or vs i o)) ∷ []) ≡ mixed G o xs (take (suc i) vs)
  mixed_snoc i [] vs h k = absurd (omega arith)
  mixed_snoc i (x ∷ xs) [] h k = absurd (omega arith)
  mixed_snoc zero (x ∷ []) (v ∷ vs) h k = refl
  mixed_snoc zero (x ∷ y ∷ xs) (v ∷ vs) h k = refl
  mixed_snoc (suc i) (x ∷ xs) (v ∷ vs) h k = ap (λ (l : List Value). plus x (scaled v) ∷ l) (mixed_snoc i xs vs (omega arith) (omega arith))

  -- of memory as many numbers as of noise
  pub mixed_take : (n : ℕ) (xs vs : List Value) → mixed G o (take n xs) (take n vs) ≡ mixed G o xs (take n vs)
  mixed_take zero [] vs = refl
  mixed_take zero (x ∷ xs) vs = refl
  mixed_take (suc n) [] vs = refl
  mixed_take (suc n) (x ∷ xs) [] = refl
  mixed_take (suc n) (x ∷ xs) (v ∷ vs) = ap (λ (l : List Value). plus x (scaled v) ∷ l) (mixed_take n xs vs)
