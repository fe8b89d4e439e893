-- The ring: the slot after that of sample s is that of sample s + 1, a slot being the sample's number modulo the slots; and adding keeps the memory's length.
use Prim.Native.Nat.{ℕ, ◌+◌, ◌-◌, ◌%◌, ◌<◌, ◌≤◌}
use native.Mathlib.Nat.{mod-lt, mod_self, mod-eq_of_lt, mod-add-mod}
use native.Mathlib.Omega.{arith}
use mathlib.Core.Path.{◌≡◌, refl, sym, ap, ◌∙◌}
use mathlib.Core.Logic.{inl, inr}
use mathlib.Core.Bool.{Bool, true, false, cond}
use mathlib.Core.List.{List, [], ◌∷◌}
use borrow.Author.Tests.{lt-ltb, le-ltb}
use lib.Dec.{ltb, lit<}
use lib.ListN.{length}
use lib.Ieee.{Float}
use Rattle.constants.specs.declared.SamplesPerPulse.{SamplesPerPulse}
use Rattle.constants.specs.declared.SamplesPerPulse.TheVariants.{Four, Eight}
use Rattle.constants.specs.Setting.{per_pulse}
use Rattle.filterbank.proofs.Padded.{le_or_lt}
use Rattle.reply_samples.specs.declared.Sample.{Sample}
use Rattle.reply_samples.specs.RingModel.{added_at, next_slot, added_from, is_slot, added_reply}
use Rattle.constants.specs.Rate.{ring_slots}
use Rattle.reply_samples.proofs.AtSlot.{added_length}

-- among W slots the next is one more, and 0 after the last
step : (W s : ℕ) → 0 < W → cond (ltb (s % W) (W - 1)) (s % W + 1) 0 ≡ (s + 1) % W
step W s h = elim (le_or_lt (W - 1) (s % W)) [
  | inl l ↦ ap (λ (t : Bool). cond t (s % W + 1) 0) (le-ltb (s % W) (W - 1) l) ∙ sym (mod_self W) ∙ ap (λ (n : ℕ). n % W) (last W (s % W) h l (mod-lt s h)) ∙ mod-add-mod s W 1
  | inr l ↦ ap (λ (t : Bool). cond t (s % W + 1) 0) (lt-ltb (s % W) (W - 1) l) ∙ sym (mod-eq_of_lt (inside W (s % W) l)) ∙ mod-add-mod s W 1
]
  where
    last : (W r : ℕ) → 0 < W → W - 1 ≤ r → r < W → W ≡ r + 1
    last W r h l k = omega arith

    inside : (W r : ℕ) → r < W - 1 → r + 1 < W
    inside W r l = omega arith

some_slots : (s : SamplesPerPulse) → 0 < ring_slots (per_pulse s)
some_slots Four = lit< tt
some_slots Eight = lit< tt

-- at both settings
pub next_ring : (setting : SamplesPerPulse) (s : ℕ) → next_slot (per_pulse setting) (s % ring_slots (per_pulse setting)) ≡ (s + 1) % ring_slots (per_pulse setting)
unfolding next_slot
next_ring setting s = step (ring_slots (per_pulse setting)) s (some_slots setting)

pub length_kept : (sps : ℕ) (m : List Float) (slot : ℕ) (zs : List Sample) → length (added_from sps m slot zs) ≡ length m
unfolding added_from
length_kept sps m slot [] = refl
length_kept sps m slot (z ∷ zs) = length_kept sps (added_at m slot z) (next_slot sps slot) zs ∙ added_length m slot z

pub reply_length_kept : (sps : ℕ) (m : List Float) (slot : ℕ) (zs : List Sample) → length (added_reply sps m slot zs) ≡ length m
unfolding added_reply
reply_length_kept sps m slot zs = go (is_slot sps m slot)
  where
    go : (b : Bool) → length (cond b (added_from sps m slot zs) m) ≡ length m
    go true = length_kept sps m slot zs
    go false = refl
