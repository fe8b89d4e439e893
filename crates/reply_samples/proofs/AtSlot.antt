-- What is added at a slot, and the slot after it.
use Prim.Native.Nat.{ℕ, ◌+◌, ◌-◌, ◌<◌}
use mathlib.Core.Path.{◌≡◌, sym, ap, ◌∙◌}
use mathlib.Core.Bool.{Bool, true, cond, ◌&&◌}
use mathlib.Core.List.{List}
use borrow.Author.Tests.{eq-eqb, lt-ltb}
use lib.Dec.{ltb}
use lib.ListN.{length, length-set}
use lib.Ieee.{Float}
use Rattle.constants.specs.Rate.{working_memory, ring_slots}
use Rattle.reply_samples.specs.declared.Sample.{Sample}
use Rattle.reply_samples.specs.RingModel.{added_at, next_slot, added_from, is_slot, added_reply}

pub next_on : (sps p : ℕ) → p < ring_slots sps - 1 → p + 1 ≡ next_slot sps p
unfolding next_slot
next_on sps p h = sym (ap (λ (t : Bool). cond t (p + 1) 0) (lt-ltb p (ring_slots sps - 1) h))

pub added_length : (m : List Float) (p : ℕ) (z : Sample) → length (added_at m p z) ≡ length m
unfolding added_at
added_length m p z = simp length-set

a_slot : (sps : ℕ) (m : List Float) (slot : ℕ) → length m ≡ working_memory sps → slot < ring_slots sps → is_slot sps m slot ≡ true
unfolding is_slot
a_slot sps m slot e h = ap (λ (t : Bool). t && ltb slot (ring_slots sps)) (eq-eqb (length m) (working_memory sps) e) ∙ lt-ltb slot (ring_slots sps) h

pub added_here : (sps : ℕ) (m m' : List Float) (slot : ℕ) (zs : List Sample) → length m ≡ working_memory sps → slot < ring_slots sps → m' ≡ added_from sps m slot zs → m' ≡ added_reply sps m slot zs
unfolding added_reply
added_here sps m m' slot zs l h e = e ∙ sym (ap (λ (t : Bool). cond t (added_from sps m slot zs) m) (a_slot sps m slot l h))
