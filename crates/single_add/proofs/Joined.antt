-- What the functions leave, from what their calls give.
use Prim.Native.Nat.{ℕ, zero, suc, ◌+◌, ◌-◌, ◌*◌, ◌/◌, ◌≤◌, ◌<◌, min}
use mathlib.Core.Path.{◌≡◌, refl, sym, ap, ◌∙◌, subst}
use mathlib.Core.Bool.{Bool, cond, ◌&&◌}
use mathlib.Core.List.{List, ◌∷◌, ◌++◌}
use native.Mathlib.Omega.{arith}
use borrow.Author.Tests.{lt-ltb, le-ltb, le-leb, lt-leb}
use lib.Dec.{ltb, leb}
use lib.IntN.{ℤ}
use borrow.Rule.Slice.PartMut.{put_mid}
use lib.ListN.{length, take, drop, length-drop, length-replicate}
use lib.Seq.{length-take-le, drop-drop}
use lib.Ieee.{Float}
use Rattle.constants.specs.Rate.{working_memory, ring_slots}
use Rattle.run_theory.specs.FloatGenerator.{nought}
use Rattle.run_theory.specs.Zeros.{zeros}
use Rattle.le_read.specs.LeBytes.{overwritten}
use Rattle.run_call_model.proofs.FlatLists.{behind}
use Rattle.reply_samples.specs.declared.Sample.{Sample}
use Rattle.reply_samples.specs.RingModel.{added_reply}
use Rattle.single_add.specs.Stretch.{first_reached, passed_over}
use Rattle.single_add.specs.StretchModel.{memory_with, windowed, added_window}

-- ---- working memory
take_blank : (k n : ℕ) → k ≤ n → take k (zeros n) ≡ zeros k
take_blank zero n h = refl
take_blank (suc k) zero h = absurd (omega arith)
take_blank (suc k) (suc n) h = ap (λ (l : List Float). nought ∷ l) (take_blank k n (omega arith))

pub blank_part : (sps k n : ℕ) → k ≡ working_memory sps → k ≤ n → take k (zeros n) ≡ zeros (working_memory sps)
blank_part sps k n e h = take_blank k n h ∙ ap zeros e

pub blank_length : (sps k n : ℕ) → k ≡ working_memory sps → k ≤ n → length (take k (zeros n)) ≡ working_memory sps
blank_length sps k n e h = length-take-le k (zeros n) (omega (arith, length-replicate n nought)) ∙ e

-- a part of a buffer, of n numbers from an offset on, with others in it
part_written : (at n : ℕ) (b ys : List Float) → at + n ≤ length b → length ys ≡ length (take (at + n - at) (drop at b)) → put_mid at (at + n - at) b ys ≡ overwritten b at ys
part_written at n b ys h l =
    ap (λ (r : List Float). take at b ++ (ys ++ r))
    (drop-drop (at + n - at) at b ∙ ap (λ (k : ℕ). drop k b) {x = at + (at + n - at)} {y = at + length ys} (omega (arith, l, length-take-le (at + n - at) (drop at b) (omega (arith, length-drop at b)))))
    ∙ sym (behind at ys b)

pub through_memory : (sps at past n : ℕ) (zs : List Sample) (xs blank given memory back : List Float) → n ≡ min (length xs - at) (length blank - past) → at ≤ length xs → past ≤ working_memory sps
    → blank ≡ zeros (working_memory sps) → length blank ≡ working_memory sps
    → given ≡ take (at + n - at) (drop at xs) → length given ≡ length (take (past + n - past) (drop past blank))
    → memory ≡ added_reply sps (put_mid past (past + n - past) blank given) 0 zs
    → back ≡ take (past + n - past) (drop past memory) → length back ≡ length (take (at + n - at) (drop at xs))
    → put_mid at (at + n - at) xs back ≡ windowed sps at past zs xs
unfolding windowed memory_with
through_memory sps at past n zs xs blank given memory back k inside within b w g lg m r lr =
    part_written at n xs back (omega arith) lr
    ∙ ap (λ (l : List Float). overwritten xs at l) (r ∙ (λ i. take (same past i) (drop past (m i))))
    ∙ ap (λ (l : List Float). overwritten xs at (take n (drop past (added_reply sps l 0 zs)))) (part_written past n blank given (omega (arith, w)) lg ∙ (λ i. overwritten (b i) past (g i)))
    ∙ ap (λ (j : ℕ). overwritten xs at (take n (drop past (added_reply sps (overwritten (zeros (working_memory sps)) past (take j (drop at xs))) 0 zs)))) (same at)
    ∙ ap (λ (j : ℕ). overwritten xs at (take j (drop past (added_reply sps (overwritten (zeros (working_memory sps)) past (take j (drop at xs))) 0 zs)))) (k ∙ ap (λ (j : ℕ). min (length xs - at) (j - past)) w)
  where
    same : (a : ℕ) → a + n - a ≡ n
    same a = omega arith

module _ (sps : ℕ) (start : ℤ) (zs : List Sample) (xs : List Float) where
  pub past_the_end : (first : ℕ) → first ≡ first_reached start → length xs / 2 ≤ first → xs ≡ added_window sps start zs xs
  unfolding added_window
  past_the_end first e h =
      sym (ap (λ (n : ℕ). cond (ltb n (length xs / 2) && leb (passed_over start) (ring_slots sps)) (windowed sps (2 * first_reached start) (2 * passed_over start) zs xs) xs) (sym e)
      ∙ ap (λ (b : Bool). cond (b && leb (passed_over start) (ring_slots sps)) (windowed sps (2 * first_reached start) (2 * passed_over start) zs xs) xs) (le-ltb first (length xs / 2) h))

  pub all_before : (first past slots : ℕ) → first ≡ first_reached start → past ≡ passed_over start → slots ≡ ring_slots sps → first < length xs / 2 → slots < past → xs ≡ added_window sps start zs xs
  unfolding added_window
  all_before first past slots e f w h k =
      sym ((λ i. cond (ltb (sym e i) (length xs / 2) && leb (sym f i) (ring_slots sps)) (windowed sps (2 * first_reached start) (2 * passed_over start) zs xs) xs)
      ∙ (λ i. cond (lt-ltb first (length xs / 2) h i && lt-leb past (ring_slots sps) (subst (λ (n : ℕ). n < past) w k) i) (windowed sps (2 * first_reached start) (2 * passed_over start) zs xs) xs))

  pub in_window : (first past slots : ℕ) (out : List Float) → first ≡ first_reached start → past ≡ passed_over start → slots ≡ ring_slots sps → first < length xs / 2 → past ≤ slots → out ≡ windowed sps (2 * first) (2 * past) zs xs → out ≡ added_window sps start zs xs
  unfolding added_window
  in_window first past slots out e f w h k g =
      g ∙ sym ((λ i. cond (ltb (sym e i) (length xs / 2) && leb (sym f i) (ring_slots sps)) (windowed sps (2 * sym e i) (2 * sym f i) zs xs) xs)
      ∙ (λ i. cond (lt-ltb first (length xs / 2) h i && le-leb past (ring_slots sps) (subst (λ (n : ℕ). past ≤ n) w k) i) (windowed sps (2 * first) (2 * past) zs xs) xs))
