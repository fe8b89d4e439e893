-- The sums of at most 131,072 bytes are words (`sums_words`), and every byte of a stored run is one (`body_bytes`).
use Rattle.std.specs.Prelude.{Option, Some, None, is_some}
use Prim.Native.Nat.{ℕ, zero, suc, ◌+◌, ◌*◌, ◌/◌, ◌^◌, ◌≤◌, ◌<◌}
use native.Mathlib.Nat.{mod-lt}
use mathlib.Core.List.{List, [], ◌∷◌, ◌++◌}
use native.Mathlib.Omega.{arith}
use lib.Dec.{lit<}
use lib.ListN.{length}
use lib.Ieee.{Float, binary32, to_bits}
use Rattle.le_read.specs.LeBytes.{bytes_of}
use Rattle.rack.specs.declared.Rack.{Rack}
use Rattle.run_theory.specs.Each.{Each}
use Rattle.tape_sections.specs.Floats.{float_bytes}
use Rattle.run_bytes_theorem.specs.Damage.{Byte}
use Rattle.run_bytes_theorem.proofs.EachOf.{each_append}
use Rattle.run_bytes.specs.Sums.{sums_from, sums_of}
use Rattle.run_bytes.specs.Layout.{head_words, word_bytes, rack_bytes, Held, body_of, checked, stored_bytes}

sums_small : (bs : List ℕ) (k a b : ℕ) → Each Byte bs → a ≤ 255 * k → b ≤ 33423360 * k → k + length bs ≤ 131072 → ((sums_from a b bs).sum ≤ 255 * (k + length bs)) × ((sums_from a b bs).sum_of_sums ≤ 33423360 * (k + length bs))
unfolding sums_from
sums_small [] k a b t h g m = (omega arith, omega arith)
sums_small (x ∷ xs) k a b (t, ts) h g m =
    let r = sums_small xs (suc k) (a + x) (b + (a + x)) ts (omega arith) (omega arith) (omega arith) in
    (omega (arith, r.0), omega (arith, r.1))

pub sums_words : (bs : List ℕ) → Each Byte bs → length bs ≤ 131072 → ((sums_of bs).sum < 2 ^ 64) × ((sums_of bs).sum_of_sums < 2 ^ 64)
unfolding sums_of
sums_words bs t h =
    let r = sums_small bs 0 0 0 t (omega arith) (omega arith) (omega arith) in
    (omega (arith, r.0), omega (arith, r.1))

number_bytes : (n v : ℕ) → Each Byte (bytes_of n v)
unfolding bytes_of
number_bytes zero v = tt
number_bytes (suc n) v = (mod-lt v (lit< tt), number_bytes n (v / 256))

words_bytes : (ws : List ℕ) → Each Byte (word_bytes ws)
unfolding word_bytes
words_bytes [] = tt
words_bytes (w ∷ ws) = each_append Byte (bytes_of 8 w) (word_bytes ws) (number_bytes 8 w) (words_bytes ws)

floats_bytes : (xs : List Float) → Each Byte (float_bytes xs)
unfolding float_bytes
floats_bytes [] = tt
floats_bytes (x ∷ xs) = each_append Byte (bytes_of 4 (to_bits binary32 x)) (float_bytes xs) (number_bytes 4 (to_bits binary32 x)) (floats_bytes xs)

rack_part : (r : Option Rack) (memory : List Float) → Each Byte (rack_bytes r memory)
unfolding rack_bytes
rack_part None memory = tt
rack_part (Some r) memory =
    each_append Byte (word_bytes (r.feeds ∷ r.seen ∷ r.delays) ++ float_bytes r.gains) (float_bytes memory)
    (each_append Byte (word_bytes (r.feeds ∷ r.seen ∷ r.delays)) (float_bytes r.gains) (words_bytes (r.feeds ∷ r.seen ∷ r.delays)) (floats_bytes r.gains)) (floats_bytes memory)

module _ (h : Held) where
  pub body_bytes : Each Byte (body_of h)
  unfolding body_of
  body_bytes =
      let head = word_bytes (head_words h.state (is_some h.rack)) in
      each_append Byte (head ++ float_bytes h.mode_s ++ float_bytes h.mode_ac ++ float_bytes h.memory) (rack_bytes h.rack h.rack_memory)
      (each_append Byte (head ++ float_bytes h.mode_s ++ float_bytes h.mode_ac) (float_bytes h.memory)
      (each_append Byte (head ++ float_bytes h.mode_s) (float_bytes h.mode_ac) (each_append Byte head (float_bytes h.mode_s) (words_bytes (head_words h.state (is_some h.rack))) (floats_bytes h.mode_s)) (floats_bytes h.mode_ac))
      (floats_bytes h.memory))
      (rack_part h.rack h.rack_memory)

  pub stored_are_bytes : Each Byte (stored_bytes h)
  unfolding stored_bytes checked
  stored_are_bytes = each_append Byte (body_of h) (word_bytes ((sums_of (body_of h)).sum ∷ (sums_of (body_of h)).sum_of_sums ∷ [])) body_bytes (words_bytes ((sums_of (body_of h)).sum ∷ (sums_of (body_of h)).sum_of_sums ∷ []))
