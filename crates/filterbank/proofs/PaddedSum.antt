-- The sum over padded pulses is the pulse sum, for up to 240 pulses and at every index.
use Rattle.std.proofs.Common.{◌≡◌, ℕ, zero, suc, ◌+◌, ◌-◌, ◌<◌, ◌≤◌, Bool, false, cond, ◌&&◌, List, [], ◌∷◌, ◌++◌, length, get_or, replicate, sym, refl, ap, ◌∙◌, inl, inr, arith, get_or-append-add, le-ltb, lt-ltb, le-leb}
use borrow.Author.Tests.{lt-leb}
use lib.ListN.{get_or-append, get_or-eq_default}
use lib.Ieee.{Float, binary32, of_bits, add}
use Rattle.filterbank.specs.PulseSum.{sum_where, pulse_back, pulse_sum}
use Rattle.filterbank.specs.PaddedPulsesModel.{pad_pulses, padded_sum}
use Rattle.filterbank.proofs.Padded.{le_or_lt}

-- ---- positions of a list that are off at its end
off_everywhere : (n i : ℕ) → get_or (replicate n false) i false ≡ false
off_everywhere zero i = refl
off_everywhere (suc n) zero = refl
off_everywhere (suc n) (suc i) = off_everywhere n i

padded : (pulses : List Bool) (n i : ℕ) → get_or (pulses ++ replicate n false) i false ≡ get_or pulses i false
padded [] n i = off_everywhere n i
padded (x ∷ pulses) n zero = refl
padded (x ∷ pulses) n (suc i) = padded pulses n i

-- ---- the position that a tap meets
met : (pulses : List Bool) (i k : ℕ) → k ≤ 6 → get_or (pad_pulses pulses) (i + 6 - k) false ≡ pulse_back pulses i k
unfolding pad_pulses pulse_back
met pulses i k h = elim (le_or_lt k i) [
  | inl l ↦
      ap (λ (n : ℕ). get_or (replicate 6 false ++ (pulses ++ replicate (246 - length pulses) false)) n false) (later i k l)
      ∙ get_or-append-add (replicate 6 false) (pulses ++ replicate (246 - length pulses) false) (i - k) false
      ∙ padded pulses (246 - length pulses) (i - k)
      ∙ sym (ap (λ (t : Bool). t && get_or pulses (i - k) false) (le-leb k i l))
  | inr l ↦
      get_or-append (replicate 6 false) (pulses ++ replicate (246 - length pulses) false) false (i + 6 - k) (sooner i k l h)
      ∙ off_everywhere 6 (i + 6 - k)
      ∙ sym (ap (λ (t : Bool). t && get_or pulses (i - k) false) (lt-leb k i l))
]
  where
    later : (i k : ℕ) → k ≤ i → i + 6 - k ≡ 6 + (i - k)
    later i k l = omega arith

    sooner : (i k : ℕ) → i < k → k ≤ 6 → i + 6 - k < 6
    sooner i k l h = omega arith

inside : (k n : ℕ) → k + suc n ≤ 7 → k ≤ 6
inside k n h = omega arith

on : (k n : ℕ) → k + suc n ≤ 7 → k + 1 + n ≤ 7
on k n h = omega arith

alike : (f g : ℕ → Bool) (taps : List Float) (k : ℕ) (sum : Float) → k + length taps ≤ 7 → ((i : ℕ) → i ≤ 6 → f i ≡ g i) → sum_where f taps k sum ≡ sum_where g taps k sum
unfolding sum_where
alike f g [] k sum l h = refl
alike f g (t ∷ taps) k sum l h =
    ap (λ (b : Bool). sum_where f taps (k + 1) (cond b (add binary32 sum t) sum)) (h k (inside k (length taps) l))
    ∙ alike f g taps (k + 1) (cond (g k) (add binary32 sum t) sum) (on k (length taps) l) h

-- past the last index no tap meets a pulse
none : (f : ℕ → Bool) (taps : List Float) (k : ℕ) (sum : Float) → k + length taps ≤ 7 → ((i : ℕ) → i ≤ 6 → f i ≡ false) → sum_where f taps k sum ≡ sum
unfolding sum_where
none f [] k sum l h = refl
none f (t ∷ taps) k sum l h =
    ap (λ (b : Bool). sum_where f taps (k + 1) (cond b (add binary32 sum t) sum)) (h k (inside k (length taps) l))
    ∙ none f taps (k + 1) sum (on k (length taps) l) h

past : (pulses : List Bool) (i : ℕ) → length pulses ≤ 240 → 246 ≤ i → (k : ℕ) → k ≤ 6 → pulse_back pulses i k ≡ false
unfolding pulse_back
past pulses i l h k K = ap (λ (t : Bool). t && get_or pulses (i - k) false) (le-leb k i (omega arith)) ∙ get_or-eq_default pulses false (beyond (length pulses) i k l h K)
  where
    beyond : (n i k : ℕ) → n ≤ 240 → 246 ≤ i → k ≤ 6 → n ≤ i - k
    beyond n i k l h K = omega arith

pub padded_sum_lem : (taps : List Float) (pulses : List Bool) (index : ℕ) → length taps ≤ 7 → length pulses ≤ 240 → padded_sum taps (pad_pulses pulses) index ≡ pulse_sum taps pulses index
unfolding padded_sum pulse_sum
padded_sum_lem taps pulses i l n = elim (le_or_lt 246 i) [
  | inl h ↦ ap (λ (t : Bool). cond t (sum_where (λ k. get_or (pad_pulses pulses) (i + 6 - k) false) taps 0 (of_bits binary32 0)) (of_bits binary32 0)) (le-ltb i 246 h) ∙ sym (none (pulse_back pulses i) taps 0 (of_bits binary32 0) (all (length taps) l) (past pulses i n h))
  | inr h ↦ ap (λ (t : Bool). cond t (sum_where (λ k. get_or (pad_pulses pulses) (i + 6 - k) false) taps 0 (of_bits binary32 0)) (of_bits binary32 0)) (lt-ltb i 246 h) ∙ alike (λ k. get_or (pad_pulses pulses) (i + 6 - k) false) (pulse_back pulses i) taps 0 (of_bits binary32 0) (all (length taps) l) (met pulses i)
]
  where
    all : (n : ℕ) → n ≤ 7 → 0 + n ≤ 7
    all n h = omega arith
