-- What is claimed of parity and of flipped bits.
use Rattle.std.specs.Prelude.{Some, ℕ, ◌<◌, ◌≡◌, List, length, replicate}
use Rattle.std.specs.Int.Bits.{bit_xor}
use Rattle.mode_s.specs.Parity.{parity_of, laid}
use Rattle.mode_s.specs.Change.{flipped, change_at, place_of}

pub record ParityLaws : Type 0 where
  -- two messages of one length, whatever it is: the parity of their exclusive or is the exclusive or of their parities
  pub laid_over : (xs ys : List ℕ) → length xs ≡ length ys → parity_of (laid xs ys) ≡ bit_xor (parity_of xs) (parity_of ys)
  -- zero bytes, however many, have parity 0
  pub zero_bytes : (n : ℕ) → parity_of (replicate n 0) ≡ 0
  -- the change is right for both lengths, at every place that a message of that length has
  pub short : (bs : List ℕ) → length bs ≡ 7 → (place : ℕ) → place < 56 → parity_of (flipped place bs) ≡ bit_xor (parity_of bs) (change_at place)
  pub long : (bs : List ℕ) → length bs ≡ 14 → (place : ℕ) → place < 112 → parity_of (flipped place bs) ≡ bit_xor (parity_of bs) (change_at place)
  -- place 0 is the last bit
  pub last_bit : change_at 0 ≡ 0xFFF409
  -- above 111 there is no bit, and no change
  pub beyond : (place : ℕ) → 111 < place → change_at place ≡ 0
  -- the 112 changes all differ, and none is 0
  pub all_differ : (a b : ℕ) → a < 112 → b < 112 → change_at a ≡ change_at b → a ≡ b
  pub none_hidden : (place : ℕ) → place < 112 → change_at place ≡ 0 → ⊥
  -- so a change determines its place, and a place is found only for its own change
  pub found : (place : ℕ) → place < 112 → place_of (change_at place) ≡ Some place
  pub found_only : (change place : ℕ) → place_of change ≡ Some place → (place < 112) × (change_at place ≡ change)
  -- and a message whose parity is the change of a place that it has gets parity 0 by flipping the bit there
  pub mended : (bs : List ℕ) → length bs ≡ 14 → (place : ℕ) → place_of (parity_of bs) ≡ Some place → parity_of (flipped place bs) ≡ 0
  pub mended_short : (bs : List ℕ) → length bs ≡ 7 → (place : ℕ) → place < 56 → place_of (parity_of bs) ≡ Some place → parity_of (flipped place bs) ≡ 0
