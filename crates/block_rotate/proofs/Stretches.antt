-- Samples added from a slot on: in one line, where the ring has as many slots left, and else in two.
use Rattle.std.proofs.Common.{◌≡◌, ℕ, zero, suc, ◌+◌, ◌-◌, ◌*◌, ◌<◌, ◌≤◌, min, Bool, cond, List, [], ◌∷◌, length, get_or, set, take, drop, refl, sym, ap, ◌∙◌, inl, inr, add-one, arith}
use borrow.Author.Tests.{le-ltb}
use Rattle.std.proofs.lemmas.List.{get_or-set_other}
use lib.Ieee.{Float, nan, binary32, add}
use Rattle.constants.specs.Rate.{ring_slots}
use Rattle.float_rounding.proofs.Size.{le_or_lt}
use Rattle.reply_samples.specs.declared.Sample.{Sample}
use Rattle.reply_samples.specs.RingModel.{added_at, next_slot, added_from}
use Rattle.reply_samples.proofs.AtSlot.{next_on}
use Rattle.block_rotate.specs.BlockModel.{zipped, added_line}

-- ---- in the ring
module _ (sps : ℕ) where
  one_line : (m : List Float) (slot : ℕ) (zs : List Sample) → slot + length zs ≤ ring_slots sps → added_from sps m slot zs ≡ added_line m slot zs
  unfolding added_from added_line
  one_line m slot [] h = refl
  one_line m slot (z ∷ []) h = refl
  one_line m slot (z ∷ y ∷ zs) h =
      ap (λ (k : ℕ). added_from sps (added_at m slot z) k (y ∷ zs)) (sym (next_on sps slot (omega arith)))
      ∙ one_line (added_at m slot z) (slot + 1) (y ∷ zs) (omega arith)

  last_slot : (slot : ℕ) → ring_slots sps - 1 ≤ slot → next_slot sps slot ≡ 0
  unfolding next_slot
  last_slot slot h = ap (λ (b : Bool). cond b (slot + 1) 0) (le-ltb slot (ring_slots sps - 1) h)

  pub two_lines : (m : List Float) (slot : ℕ) (zs : List Sample) (k : ℕ) → slot < ring_slots sps → length zs ≤ ring_slots sps → k ≡ min (length zs) (ring_slots sps - slot)
      → added_from sps m slot zs ≡ added_line (added_line m slot (take k zs)) 0 (drop k zs)
  unfolding added_from added_line
  two_lines m slot [] zero h l e = refl
  two_lines m slot [] (suc k) h l e = absurd (omega arith)
  two_lines m slot (z ∷ zs) zero h l e = absurd (omega arith)
  two_lines m slot (z ∷ zs) (suc k) h l e = elim (le_or_lt (ring_slots sps - 1) slot) [
    | inl g ↦ ap (λ (i : ℕ). added_from sps (added_at m slot z) i zs) (last_slot slot g) ∙ one_line (added_at m slot z) 0 zs (omega arith) ∙ ap (λ (i : ℕ). added_line (added_line (added_at m slot z) (slot + 1) (take i zs)) 0 (drop i zs)) (none k (length zs) (ring_slots sps) slot e g h)
    | inr g ↦ ap (λ (i : ℕ). added_from sps (added_at m slot z) i zs) (sym (next_on sps slot g)) ∙ two_lines (added_at m slot z) (slot + 1) zs k (omega arith) (omega arith) (omega arith)
  ]
    where
      none : (k n w slot : ℕ) → suc k ≡ min (suc n) (w - slot) → w - 1 ≤ slot → slot < w → 0 ≡ k
      none k n w slot e g h = omega arith

-- ---- one sample
pub added_is : (m : List Float) (slot at : ℕ) (re im : Float) → at ≡ 2 * slot
    → set (set m at (add binary32 (get_or m at nan) re)) (at + 1) (add binary32 (get_or (set m at (add binary32 (get_or m at nan) re)) (at + 1) nan) im) ≡ added_at m slot (record { re = re; im = im })
unfolding added_at
added_is m slot at re im e =
    ap (λ (y : Float). set (set m at (add binary32 (get_or m at nan) re)) (at + 1) (add binary32 y im)) (get_or-set_other m at (at + 1) (add binary32 (get_or m at nan) re) nan (λ (p : at + 1 ≡ at). next at p))
    ∙ ap (λ (k : ℕ). set (set m k (add binary32 (get_or m k nan) re)) (k + 1) (add binary32 (get_or m (k + 1) nan) im)) e
  where
    next : (k : ℕ) → k + 1 ≡ k → ⊥
    next k p = omega arith

zipped_suc : (xs ys : List Float) (i : ℕ) → i < length xs → i < length ys → drop i (zipped xs ys) ≡ record { re = get_or xs i nan; im = get_or ys i nan } ∷ drop (suc i) (zipped xs ys)
unfolding zipped
zipped_suc [] ys i h k = absurd (omega arith)
zipped_suc (x ∷ xs) [] i h k = absurd (omega arith)
zipped_suc (x ∷ xs) (y ∷ ys) zero h k = refl
zipped_suc (x ∷ xs) (y ∷ ys) (suc i) h k = zipped_suc xs ys i (omega arith) (omega arith)

pub zipped_more : (xs ys : List Float) (i : ℕ) → i < length xs → i < length ys → drop i (zipped xs ys) ≡ record { re = get_or xs i nan; im = get_or ys i nan } ∷ drop (i + 1) (zipped xs ys)
zipped_more xs ys i h k = zipped_suc xs ys i h k ∙ ap (λ (n : ℕ). record { re = get_or xs i nan; im = get_or ys i nan } ∷ drop n (zipped xs ys)) (sym (add-one i))

-- ---- the loop over a stretch
module _ (m : List Float) (slot from to i : ℕ) (zs : List Sample) (whole : List Float) (e : added_line m (slot + (i - from)) (take (to - i) (drop i zs)) ≡ whole) where
  pub line_more : (z : Sample) → from ≤ i → i < to → drop i zs ≡ z ∷ drop (i + 1) zs → added_line (added_at m (slot + (i - from)) z) (slot + (i + 1 - from)) (take (to - (i + 1)) (drop (i + 1) zs)) ≡ whole
  unfolding added_line
  line_more z h k d =
      ap (λ (s : ℕ). added_line (added_at m (slot + (i - from)) z) s (take (to - (i + 1)) (drop (i + 1) zs))) (next slot i from h)
      ∙ sym (ap (λ (n : ℕ). added_line m (slot + (i - from)) (take n (drop i zs))) (left to i k) ∙ ap (λ (l : List Sample). added_line m (slot + (i - from)) (take (suc (to - (i + 1))) l)) d)
      ∙ e
    where
      next : (slot i from : ℕ) → from ≤ i → slot + (i + 1 - from) ≡ slot + (i - from) + 1
      next slot i from h = omega arith

      left : (to i : ℕ) → i < to → to - i ≡ suc (to - (i + 1))
      left to i h = omega arith

  pub line_end : to ≤ i → m ≡ whole
  unfolding added_line
  line_end h = ap (λ (n : ℕ). added_line m (slot + (i - from)) (take n (drop i zs))) (sym (none to i h)) ∙ e
    where
      none : (to i : ℕ) → to ≤ i → to - i ≡ 0
      none to i h = omega arith
