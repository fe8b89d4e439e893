-- What is claimed of the interrogators that messages answer.
use Rattle.std.specs.Prelude.{Some, None, ℕ, ◌+◌, ◌/◌, ◌%◌, ◌^◌, ◌≤◌, ◌<◌, ◌≡◌, List, [], ◌∷◌, ◌++◌, length}
use Rattle.std.specs.Int.Bits.{bit_xor}
use Rattle.mode_s.specs.Parity.{parity_of}
use Rattle.message.specs.declared.MessageType.{MessageType}
use Rattle.message.specs.declared.MessageType.TheVariants.{AcquisitionSquitter, AllCallReply}
use Rattle.message.specs.declared.Picks.{Picks}
use Rattle.message.specs.Making.{message_bytes, field_fault}
use Rattle.message.specs.declared.Interrogator.TheVariants.{Ii, Si, Unassigned}
use Rattle.message.specs.Interrogators.{code_of, overlay_of, interrogator_of}

-- the three bytes of a number below 2^24, high first
unfoldable pub three_bytes : ℕ → List ℕ
three_bytes n = n / 65536 % 256 ∷ n / 256 % 256 ∷ n % 256 ∷ []

-- four bytes and their parity with an overlay on it
unfoldable pub overlaid_with : List ℕ → ℕ → List ℕ
overlaid_with head o = head ++ three_bytes (bit_xor (parity_of head) o)

pub record InterrogatorLaws : Type 0 where
  -- the Annex's table of overlays
  pub ii : (o : ℕ) → o < 16 → code_of o ≡ Ii o
  pub si : (k : ℕ) → 1 ≤ k → k ≤ 63 → code_of (16 + k) ≡ Si k
  pub sixteen : code_of 16 ≡ Unassigned
  pub above : (o : ℕ) → 80 ≤ o → code_of o ≡ Unassigned
  -- an overlay of 24 bits is found back, whatever the first four bytes are
  pub found_back : (head : List ℕ) → length head ≡ 4 → (o : ℕ) → o < 2 ^ 24 → overlay_of (overlaid_with head o) ≡ o
  -- of messages made of fields in range: an all-call reads as the table has its overlay,
  pub all_call : (p : Picks) → length p.bytes ≡ 14 → field_fault AllCallReply p ≡ None → interrogator_of (message_bytes AllCallReply p) ≡ Some (code_of p.overlay)
  -- an acquisition squitter reads II 0,
  pub acquisition : (p : Picks) → length p.bytes ≡ 14 → field_fault AcquisitionSquitter p ≡ None → interrogator_of (message_bytes AcquisitionSquitter p) ≡ Some (Ii 0)
  -- and nothing else has a reading
  pub others : (p : Picks) → length p.bytes ≡ 14 → (t : MessageType) → field_fault t p ≡ None
      → (t ≡ AllCallReply → ⊥) → (t ≡ AcquisitionSquitter → ⊥) → interrogator_of (message_bytes t p) ≡ None
