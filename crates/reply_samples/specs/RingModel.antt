-- A model of code: samples added into working memory, a flat list of f32, two for each slot of a ring, real part first. Plain run has sums instead.
use Rattle.std.specs.Prelude.{ℕ, ◌+◌, ◌-◌, ◌*◌, Bool, cond, ◌&&◌, List, [], ◌∷◌, ltb, eqb, length, get_or, set, Float}
use Rattle.std.specs.Float.{nan, binary32}
use Rattle.std.specs.Float.Ieee.{add}
use Rattle.constants.specs.Rate.{ring_slots, working_memory}
use Rattle.reply_samples.specs.declared.Sample.{Sample}

-- a sample added at a slot
unfoldable pub added_at : List Float → ℕ → Sample → List Float
added_at memory slot z =
    set (set memory (2 * slot) (add binary32 (get_or memory (2 * slot) nan) z.re)) (2 * slot + 1) (add binary32 (get_or memory (2 * slot + 1) nan) z.im)

-- the slot after the last is the first
unfoldable pub next_slot : ℕ → ℕ → ℕ
next_slot sps slot = cond (ltb slot (ring_slots sps - 1)) (slot + 1) 0

-- samples added one after the other, from a slot on
unfoldable pub added_from : ℕ → List Float → ℕ → List Sample → List Float
added_from sps memory slot [] = memory
added_from sps memory slot (z ∷ zs) = added_from sps (added_at memory slot z) (next_slot sps slot) zs

-- the memory has the length of working memory, and the slot is one of its ring. A run refuses other memory, and names no other slot
unfoldable pub is_slot : ℕ → List Float → ℕ → Bool
is_slot sps memory slot = eqb (length memory) (working_memory sps) && ltb slot (ring_slots sps)

-- what a call leaves in memory, given a reply's samples: at what is no slot, nothing is added
unfoldable pub added_reply : ℕ → List Float → ℕ → List Sample → List Float
added_reply sps memory slot zs = cond (is_slot sps memory slot) (added_from sps memory slot zs) memory

-- what it answers, given their number: at what is no slot, 0
unfoldable pub added_count : ℕ → List Float → ℕ → ℕ → ℕ
added_count sps memory slot n = cond (is_slot sps memory slot) n 0
