-- The definition of a reply at each type, in the form in which the code writes its bytes.
use mathlib.Core.Path.{◌≡◌, sym, ap, ◌∙◌}
use mathlib.Core.List.{List, [], ◌∷◌, ◌++◌, append-nil}
use Prim.Native.Nat.{ℕ, ◌+◌, ◌-◌, ◌*◌, ◌/◌, ◌%◌}
use borrow.Author.Tests.{eq-eqb, ne_eqb}
use native.Mathlib.Omega.{arith}
use lib.Bits.{bit_xor}
use lib.ListN.{length, get_or, take, drop, replicate, length-append, length-take, length-drop}
use Rattle.mode_s.specs.Formats.{extended_formats, short_ap_formats, long_ap_formats, capabilities, controls}
use Rattle.mode_s.specs.Parity.{parity_of, parity_bytes, with_parity}
use Rattle.message.specs.declared.MessageType.TheVariants.{ExtendedSquitter, AcquisitionSquitter, ShortAp, LongAp, MilitaryExtendedSquitter}
use Rattle.message.specs.declared.ReplyKind.{ReplyKind}
use Rattle.message.specs.declared.ReplyKind.TheVariants.{Short, Long}
use Rattle.message.specs.declared.Reply.{Reply}
use Rattle.message.specs.declared.Picks.{Picks}
use Rattle.message.specs.Making.{
  formats,
  subfields,
  format_of,
  low_bits,
  byte0,
  later,
  message_bytes,
  kind_of,
  filled,
  reply_of,
}
use Rattle.message.proofs.Bytes.{each, four, bytes_1_to_3, bytes_1_to_6}

abbrev pub reply : ReplyKind → List ℕ → Reply
reply k m = record { kind = k; bytes = m }

filled_whole : (m : List ℕ) → length m ≡ 14 → m ≡ filled m
unfolding filled
filled_whole m h = sym (ap (λ (n : ℕ). m ++ replicate (14 - n) 0) h ∙ append-nil m)

-- four bytes, their parity, as the list of its three bytes, and an overlay, and zeros
pub sealed_reply : (l : List ℕ) (o p : ℕ) (three : List ℕ) → length l ≡ 4 → p ≡ parity_of l → three ≡ p / 65536 % 256 ∷ p / 256 % 256 ∷ p % 256 ∷ []
    → reply Short
    (get_or l 0 0
    ∷ get_or l 1 0
    ∷ get_or l 2 0
    ∷ get_or l 3 0
    ∷ get_or three 0 0
    ∷ get_or three 1 0
    ∷ bit_xor o (get_or three 2 0)
    ∷ 0
    ∷ 0
    ∷ 0
    ∷ 0
    ∷ 0
    ∷ 0
    ∷ 0
    ∷ [])
    ≡ reply Short (filled (with_parity l o))
unfolding filled with_parity parity_bytes each
sealed_reply l o p three h e f =
    ap (λ (m : List ℕ). reply Short (filled (m ++ (get_or three 0 0 ∷ get_or three 1 0 ∷ bit_xor o (get_or three 2 0) ∷ [])))) (four l h)
    ∙ ap (λ (t : List ℕ). reply Short (filled (l ++ (get_or t 0 0 ∷ get_or t 1 0 ∷ bit_xor o (get_or t 2 0) ∷ [])))) f
    ∙ ap (λ (n : ℕ). reply Short (filled (l ++ parity_bytes n o))) e

module _ (p : Picks) (fourteen : length p.bytes ≡ 14) where
  pub short_ap_reply
      : reply Short
      ((get_or short_ap_formats p.format 0 * 8 + get_or p.bytes 0 0 % 8)
      ∷ get_or p.bytes 1 0
      ∷ get_or p.bytes 2 0
      ∷ get_or p.bytes 3 0
      ∷ get_or p.bytes 4 0
      ∷ get_or p.bytes 5 0
      ∷ get_or p.bytes 6 0
      ∷ 0
      ∷ 0
      ∷ 0
      ∷ 0
      ∷ 0
      ∷ 0
      ∷ 0
      ∷ [])
      ≡ reply_of ShortAp p
  unfolding reply_of kind_of message_bytes byte0 format_of formats low_bits later filled
  short_ap_reply = ap (λ (m : List ℕ). reply Short (filled (byte0 ShortAp p ∷ m))) (sym (bytes_1_to_6 p.bytes fourteen))

  pub acquisition_reply
      : {r : Reply}
      → r
      ≡ reply Short
      (filled
      (with_parity
      ((11 * 8 + get_or capabilities p.capability 0)
      ∷ get_or p.bytes 1 0
      ∷ get_or p.bytes 2 0
      ∷ get_or p.bytes 3 0
      ∷ []) 0))
      → r ≡ reply_of AcquisitionSquitter p
  unfolding reply_of kind_of message_bytes byte0 format_of formats subfields low_bits later
  acquisition_reply e =
      e ∙ ap (λ (m : List ℕ). reply Short (filled (with_parity (byte0 AcquisitionSquitter p ∷ m) 0))) (sym (bytes_1_to_3 p.bytes fourteen))

  unsealed_length : (first : ℕ) → length (first ∷ take 13 (drop 1 p.bytes)) ≡ 14
  unsealed_length first = simp (length-take, length-drop) (omega arith)

  pub long_ap_reply
      : reply Long ((get_or long_ap_formats p.format 0 * 8 + get_or p.bytes 0 0 % 8) ∷ take 13 (drop 1 p.bytes))
      ≡ reply_of LongAp p
  unfolding reply_of kind_of message_bytes byte0 format_of formats low_bits later
  long_ap_reply = ap (reply Long) (filled_whole _ (unsealed_length (byte0 LongAp p)))

  pub military_reply
      : reply Long ((19 * 8 + get_or p.bytes 0 0 % 8) ∷ take 13 (drop 1 p.bytes)) ≡ reply_of MilitaryExtendedSquitter p
  unfolding reply_of kind_of message_bytes byte0 format_of formats low_bits later
  military_reply = ap (reply Long) (filled_whole _ (unsealed_length (byte0 MilitaryExtendedSquitter p)))

  sealed_length : (first : ℕ) → length (with_parity (first ∷ take 10 (drop 1 p.bytes)) 0) ≡ 14
  unfolding with_parity parity_bytes
  sealed_length first = simp (length-append, length-take, length-drop) (omega arith)

  -- by byte 0, which the format decides
  extended_reply : (first : ℕ) → first ≡ byte0 ExtendedSquitter p
      → reply Long (with_parity (first ∷ take 10 (drop 1 p.bytes)) 0) ≡ reply_of ExtendedSquitter p
  unfolding reply_of kind_of message_bytes later
  extended_reply first e =
      ap (λ (x : ℕ). reply Long (with_parity (x ∷ take 10 (drop 1 p.bytes)) 0)) e
      ∙ ap (reply Long) (filled_whole _ (sealed_length (byte0 ExtendedSquitter p)))

  pub control_reply : get_or extended_formats p.format 0 ≡ 18
      → reply Long (with_parity ((get_or extended_formats p.format 0 * 8 + get_or controls p.capability 0) ∷ take 10 (drop 1 p.bytes)) 0)
      ≡ reply_of ExtendedSquitter p
  unfolding byte0 format_of formats subfields low_bits
  control_reply h = extended_reply _ (simp (eq-eqb (get_or extended_formats p.format 0) 18 h))

  pub capability_reply : (get_or extended_formats p.format 0 ≡ 18 → ⊥)
      → reply Long (with_parity ((get_or extended_formats p.format 0 * 8 + get_or capabilities p.capability 0) ∷ take 10 (drop 1 p.bytes)) 0)
      ≡ reply_of ExtendedSquitter p
  unfolding byte0 format_of formats subfields low_bits
  capability_reply h = extended_reply _ (simp (ne_eqb (get_or extended_formats p.format 0) 18 h))
