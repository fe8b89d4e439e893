-- A reply of at most as many samples as working memory has slots, added by way of memory, is the reply added from its start on (`window_is`); and so is one whose start is past the end, of any number of samples (`window_past`).
use Prim.Native.Nat.{ℕ, zero, suc, ◌+◌, ◌-◌, ◌*◌, ◌/◌, ◌≤◌, ◌<◌, min}
use mathlib.Core.Path.{◌≡◌, refl, sym, ap, ◌∙◌}
use mathlib.Core.Bool.{Bool, cond, ◌&&◌}
use mathlib.Core.Logic.{inl, inr}
use mathlib.Core.List.{List, [], ◌∷◌, ◌++◌, append-nil, append_assoc}
use native.Mathlib.Omega.{arith}
use borrow.Author.Tests.{eq-eqb, lt-ltb, le-ltb, le-leb, lt-leb}
use lib.Dec.{leb}
use lib.IntN.{ℤ}
use lib.ListN.{length, get_or, set, take, drop, length-drop, length-append, length-replicate, take-append-drop}
use lib.Seq.{take_all, take-append_seam, drop-append_seam, length-take-le, take-nil, drop-nil, drop-drop, get_or-append-add, set-append_seam, get_or-append_seam, append_snoc, drop-length}
use lib.Ieee.{Float, nan, binary32, add}
use Rattle.constants.specs.Rate.{working_memory, ring_slots}
use Rattle.filterbank.proofs.Padded.{le_or_lt}
use Rattle.run_theory.specs.FloatGenerator.{nought}
use Rattle.run_theory.specs.Zeros.{zeros}
use Rattle.run_call_model.proofs.FlatLists.{behind, length_overwritten}
use Rattle.reply_samples.specs.declared.Sample.{Sample}
use Rattle.reply_samples.specs.RingModel.{added_at, next_slot, added_from, added_reply}
use Rattle.reply_samples.proofs.AtSlot.{next_on, added_here}
use Rattle.single_add.specs.Stretch.{scaled_noise, numbers_of, added_to, first_reached, passed_over, with_reply}
use Rattle.single_add.specs.StretchModel.{memory_with, windowed, added_window, stretch_of}
use Rattle.single_add.proofs.Loops.{scaled_length}

-- ---- numbers added to others
added_none : (xs : List Float) → added_to xs [] ≡ xs
unfolding added_to
added_none [] = refl
added_none (x ∷ xs) = refl

added_take : (n : ℕ) (xs ys : List Float) → take n (added_to xs ys) ≡ added_to (take n xs) ys
unfolding added_to
added_take n [] ys = take-nil n ∙ ap (λ (l : List Float). added_to l ys) (sym (take-nil n))
added_take n (x ∷ xs) [] = sym (added_none (take n (x ∷ xs)))
added_take zero (x ∷ xs) (y ∷ ys) = refl
added_take (suc n) (x ∷ xs) (y ∷ ys) = ap (λ (l : List Float). add binary32 x y ∷ l) (added_take n xs ys)

added_drop : (n : ℕ) (xs ys : List Float) → drop n (added_to xs ys) ≡ added_to (drop n xs) (drop n ys)
unfolding added_to
added_drop n [] ys = drop-nil n ∙ ap (λ (l : List Float). added_to l (drop n ys)) (sym (drop-nil n))
added_drop n (x ∷ xs) [] = sym (ap (λ (l : List Float). added_to (drop n (x ∷ xs)) l) (drop-nil n) ∙ added_none (drop n (x ∷ xs)))
added_drop zero (x ∷ xs) (y ∷ ys) = refl
added_drop (suc n) (x ∷ xs) (y ∷ ys) = added_drop n xs ys

-- past the last of them nothing is added
added_split : (n : ℕ) (xs ys : List Float) → length ys ≤ n → added_to (take n xs) ys ++ drop n xs ≡ added_to xs ys
unfolding added_to
added_split n [] ys h = (λ i. added_to (take-nil {A = Float} n i) ys ++ drop-nil {A = Float} n i)
added_split zero (x ∷ xs) [] h = refl
added_split zero (x ∷ xs) (y ∷ ys) h = absurd (omega arith)
added_split (suc n) (x ∷ xs) [] h = ap (λ (l : List Float). x ∷ l) (ap (λ (l : List Float). l ++ drop n xs) (sym (added_none (take n xs))) ∙ added_split n xs [] (omega arith) ∙ added_none xs)
added_split (suc n) (x ∷ xs) (y ∷ ys) h = ap (λ (l : List Float). add binary32 x y ∷ l) (added_split n xs ys (omega arith))

added_length : (xs ys : List Float) → length (added_to xs ys) ≡ length xs
unfolding added_to
added_length [] ys = refl
added_length (x ∷ xs) [] = refl
added_length (x ∷ xs) (y ∷ ys) = ap suc (added_length xs ys)

none_left : (n : ℕ) (l : List Float) → length l ≤ n → drop n l ≡ []
none_left n [] h = drop-nil n
none_left zero (x ∷ l) h = absurd (omega arith)
none_left (suc n) (x ∷ l) h = none_left n l (omega arith)

numbers_length : (zs : List Sample) → length (numbers_of zs) ≡ 2 * length zs
unfolding numbers_of
numbers_length [] = refl
numbers_length (z ∷ zs) = ap (λ (n : ℕ). suc (suc n)) (numbers_length zs) ∙ step (length zs)
  where
    step : (n : ℕ) → suc (suc (2 * n)) ≡ 2 * suc n
    step n = omega arith

-- ---- samples added slot by slot, where the ring does not wrap
added_pair : (pre post : List Float) (x y : Float) (slot : ℕ) (z : Sample) → length pre ≡ 2 * slot → added_at (pre ++ x ∷ y ∷ post) slot z ≡ pre ++ add binary32 x z.re ∷ add binary32 y z.im ∷ post
unfolding added_at
added_pair pre post x y slot z e =
    (λ i. set (set m (sym e i) (add binary32 (get_or m (sym e i) nan) z.re)) (sym f i) (add binary32 (get_or m (sym f i) nan) z.im))
    ∙ (λ i. set (set m (length pre) (add binary32 (get_or-append_seam pre x (y ∷ post) nan i) z.re)) (length pre + 1) (add binary32 (get_or-append-add pre (x ∷ y ∷ post) 1 nan i) z.im))
    ∙ ap (λ (l : List Float). set l (length pre + 1) (add binary32 y z.im)) (set-append_seam pre x (y ∷ post) a)
    ∙ ap (λ (l : List Float). set l (length pre + 1) (add binary32 y z.im)) (sym (append_snoc pre a (y ∷ post)))
    ∙ ap (λ (n : ℕ). set ((pre ++ (a ∷ [])) ++ y ∷ post) n (add binary32 y z.im)) (sym (length-append pre (a ∷ [])))
    ∙ set-append_seam (pre ++ (a ∷ [])) y post (add binary32 y z.im)
    ∙ append_snoc pre a (add binary32 y z.im ∷ post)
  where
    m : List Float
    m = pre ++ x ∷ y ∷ post

    a : Float
    a = add binary32 x z.re

    f : length pre + 1 ≡ 2 * slot + 1
    f = omega arith

added_flat : (sps : ℕ) (zs : List Sample) (pre post : List Float) (slot : ℕ) → length pre ≡ 2 * slot → 2 * length zs ≤ length post → slot + length zs ≤ ring_slots sps → added_from sps (pre ++ post) slot zs ≡ pre ++ added_to post (numbers_of zs)
unfolding added_from numbers_of added_to
added_flat sps [] pre post slot e h k = ap (λ (l : List Float). pre ++ l) (sym (added_none post))
added_flat sps (z ∷ zs) pre [] slot e h k = absurd (omega arith)
added_flat sps (z ∷ zs) pre (x ∷ []) slot e h k = absurd (omega arith)
added_flat sps (z ∷ []) pre (x ∷ y ∷ post) slot e h k = added_pair pre post x y slot z e ∙ ap (λ (l : List Float). pre ++ add binary32 x z.re ∷ add binary32 y z.im ∷ l) (sym (added_none post))
added_flat sps (z ∷ w ∷ ws) pre (x ∷ y ∷ post) slot e h k =
    ap (λ (m : List Float). added_from sps m (next_slot sps slot) (w ∷ ws)) (added_pair pre post x y slot z e ∙ sym (append_assoc pre (add binary32 x z.re ∷ add binary32 y z.im ∷ []) post))
    ∙ ap (λ (n : ℕ). added_from sps ((pre ++ (add binary32 x z.re ∷ add binary32 y z.im ∷ [])) ++ post) n (w ∷ ws)) (sym (next_on sps slot (omega arith)))
    ∙ added_flat sps (w ∷ ws) (pre ++ (add binary32 x z.re ∷ add binary32 y z.im ∷ [])) post (slot + 1) (length-append pre (add binary32 x z.re ∷ add binary32 y z.im ∷ []) ∙ omega arith) (omega arith) (omega arith)
    ∙ append_assoc pre (add binary32 x z.re ∷ add binary32 y z.im ∷ []) (added_to post (numbers_of (w ∷ ws)))

-- from slot 0 on, in working memory
added_memory : (sps : ℕ) → 0 < ring_slots sps → (m : List Float) (zs : List Sample) → length m ≡ working_memory sps → length zs ≤ ring_slots sps → added_reply sps m 0 zs ≡ added_to m (numbers_of zs)
added_memory sps S m zs e h = sym (added_here sps m (added_from sps m 0 zs) 0 zs e S refl) ∙ added_flat sps zs [] m 0 refl (omega arith) (omega arith)

-- ---- the window
module _ (sps : ℕ) (S : 0 < ring_slots sps) (at past : ℕ) (zs : List Sample) (xs : List Float) (inside : at ≤ length xs) (room : past ≤ working_memory sps) (few : length zs ≤ ring_slots sps) where
  abbrev part : List Float
  part = drop at xs

  abbrev n : ℕ
  n = min (length xs - at) (working_memory sps - past)

  abbrev ys : List Float
  ys = drop past (numbers_of zs)

  front : length (take past (zeros (working_memory sps))) ≡ past
  front = length-take-le past (zeros (working_memory sps)) (omega (arith, length-replicate (working_memory sps) nought))

  taken : length (take n part) ≡ n
  taken = length-take-le n part (omega (arith, length-drop at xs))

  memory_length_lem : length (memory_with sps at past xs) ≡ working_memory sps
  unfolding memory_with
  memory_length_lem = length_overwritten past (take n part) (zeros (working_memory sps)) (omega (arith, taken, length-replicate (working_memory sps) nought)) ∙ length-replicate (working_memory sps) nought

  held : take n (drop past (memory_with sps at past xs)) ≡ take n part
  unfolding memory_with
  held =
      ap (λ (m : List Float). take n (drop past m)) (behind past (take n part) (zeros (working_memory sps)))
      ∙ ap (λ (k : ℕ). take n (drop k (take past (zeros (working_memory sps)) ++ (take n part ++ drop (past + length (take n part)) (zeros (working_memory sps)))))) (sym front)
      ∙ ap (λ (l : List Float). take n l) (drop-append_seam (take past (zeros (working_memory sps))) _)
      ∙ ap (λ (k : ℕ). take k (take n part ++ drop (past + length (take n part)) (zeros (working_memory sps)))) (sym taken)
      ∙ take-append_seam (take n part) _

  -- the part of memory that comes back
  back : take n (drop past (added_reply sps (memory_with sps at past xs) 0 zs)) ≡ added_to (take n part) ys
  back =
      ap (λ (m : List Float). take n (drop past m)) (added_memory sps S (memory_with sps at past xs) zs memory_length_lem few)
      ∙ ap (λ (l : List Float). take n l) (added_drop past (memory_with sps at past xs) (numbers_of zs))
      ∙ added_take n (drop past (memory_with sps at past xs)) ys
      ∙ ap (λ (l : List Float). added_to l ys) held

  back_length : length (added_to (take n part) ys) ≡ n
  back_length = added_length (take n part) ys ∙ taken

  whole : added_to (take n part) ys ++ drop n part ≡ added_to part ys
  whole = elim (le_or_lt (length xs - at) (working_memory sps - past)) [
    | inl l ↦
        let e : length part ≤ n = omega (arith, length-drop at xs) in
        let f : length part ≡ n = omega (arith, length-drop at xs) in
        (λ i. added_to (take_all n part e i) ys ++ drop (sym f i) part) ∙ ap (λ (l : List Float). added_to part ys ++ l) (drop-length part) ∙ append-nil (added_to part ys)
    | inr l ↦ added_split n part ys (omega (arith, length-drop past (numbers_of zs), numbers_length zs))
  ]

  pub window : windowed sps at past zs xs ≡ take at xs ++ added_to (drop at xs) (drop past (numbers_of zs))
  unfolding windowed
  window =
      behind at (take n (drop past (added_reply sps (memory_with sps at past xs) 0 zs))) xs
      ∙ ap (λ (l : List Float). take at xs ++ (l ++ drop (at + length l) xs)) back
      ∙ ap (λ (k : ℕ). take at xs ++ (added_to (take n part) ys ++ drop (at + k) xs)) back_length
      ∙ ap (λ (l : List Float). take at xs ++ (added_to (take n part) ys ++ l)) (sym (drop-drop n at xs))
      ∙ ap (λ (l : List Float). take at xs ++ l) whole

-- ---- the reply from its start on
past_end : (at : ℕ) (xs ys : List Float) → length xs ≤ at → xs ≡ take at xs ++ added_to (drop at xs) ys
unfolding added_to
past_end at xs ys h = sym ((λ i. take_all at xs h i ++ added_to (none_left at xs h i) ys) ∙ append-nil xs)

module _ (sps : ℕ) (S : 0 < ring_slots sps) (start : ℤ) (zs : List Sample) (xs : List Float) (even : (k : ℕ) × (length xs ≡ 2 * k)) where
  pub window_past : length xs ≤ 2 * first_reached start → added_window sps start zs xs ≡ with_reply start zs xs
  unfolding added_window with_reply
  window_past h =
      ap (λ (b : Bool). cond (b && leb (passed_over start) (ring_slots sps)) (windowed sps (2 * first_reached start) (2 * passed_over start) zs xs) xs) (le-ltb (first_reached start) (length xs / 2) (omega (arith, even.1)))
      ∙ past_end (2 * first_reached start) xs (drop (2 * passed_over start) (numbers_of zs)) h

  reaches : length zs ≤ ring_slots sps → 2 * first_reached start < length xs → passed_over start ≤ ring_slots sps → added_window sps start zs xs ≡ with_reply start zs xs
  unfolding added_window with_reply
  reaches few h k =
      (λ i. cond (lt-ltb (first_reached start) (length xs / 2) (omega (arith, even.1)) i && le-leb (passed_over start) (ring_slots sps) k i) (windowed sps (2 * first_reached start) (2 * passed_over start) zs xs) xs)
      ∙ window sps S (2 * first_reached start) (2 * passed_over start) zs xs (omega arith) (omega arith) few

  -- a reply that ends before sample 0
  misses : length zs ≤ ring_slots sps → 2 * first_reached start < length xs → ring_slots sps < passed_over start → added_window sps start zs xs ≡ with_reply start zs xs
  unfolding added_window with_reply
  misses few h k =
      (λ i. cond (lt-ltb (first_reached start) (length xs / 2) (omega (arith, even.1)) i && lt-leb (passed_over start) (ring_slots sps) k i) (windowed sps (2 * first_reached start) (2 * passed_over start) zs xs) xs)
      ∙ sym (
      ap (λ (l : List Float). take (2 * first_reached start) xs ++ added_to (drop (2 * first_reached start) xs) l) (none_left (2 * passed_over start) (numbers_of zs) (omega (arith, numbers_length zs)))
      ∙ ap (λ (l : List Float). take (2 * first_reached start) xs ++ l) (added_none (drop (2 * first_reached start) xs))
      ∙ take-append-drop (2 * first_reached start) xs
      )

  pub window_is : length zs ≤ ring_slots sps → added_window sps start zs xs ≡ with_reply start zs xs
  window_is few = elim (le_or_lt (length xs) (2 * first_reached start)) [
    | inl h ↦ window_past h
    | inr h ↦ elim (le_or_lt (passed_over start) (ring_slots sps)) [
      | inl k ↦ reaches few h k
      | inr k ↦ misses few h k
    ]
  ]

-- ---- noise, and the reply added
module _ (sps : ℕ) (S : 0 < ring_slots sps) (start : ℤ) (zs : List Sample) (noise output : List Float) (same : length noise ≡ length output) (even : (k : ℕ) × (length output ≡ 2 * k)) where
  scaled_then : stretch_of sps start zs noise output ≡ added_window sps start zs (scaled_noise noise)
  unfolding stretch_of
  scaled_then = ap (λ (b : Bool). cond b (added_window sps start zs (scaled_noise noise)) output) (eq-eqb (length noise) (length output) same)

  evened : (k : ℕ) × (length (scaled_noise noise) ≡ 2 * k)
  evened = (even.0, scaled_length noise ∙ same ∙ even.1)

  pub stretch_is : length zs ≤ ring_slots sps → stretch_of sps start zs noise output ≡ with_reply start zs (scaled_noise noise)
  stretch_is few = scaled_then ∙ window_is sps S start zs (scaled_noise noise) evened few

  pub stretch_past : length output ≤ 2 * first_reached start → stretch_of sps start zs noise output ≡ with_reply start zs (scaled_noise noise)
  stretch_past h = scaled_then ∙ window_past sps S start zs (scaled_noise noise) evened (omega (arith, scaled_length noise, same))
