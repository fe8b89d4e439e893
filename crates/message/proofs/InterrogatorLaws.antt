-- Theorem `interrogator-laws`: the table of overlays, the overlay found back, and the readings of all that is made.
use Rattle.std.specs.Prelude.{Some, None}
use mathlib.Core.Path.{◌≡◌, refl, sym, ap, ◌∙◌}
use mathlib.Core.List.{List, [], ◌∷◌}
use Prim.Native.Nat.{ℕ, zero, suc, ◌+◌, ◌*◌, ◌/◌, ◌%◌, ◌^◌, ◌≤◌, ◌<◌}
use native.Mathlib.Omega.{arith}
use lib.ListN.{length, get_or, length-append, length-take, length-drop}
use lib.Bits.{bit_xor, xor_lt}
use Rattle.mode_s.specs.Formats.{short_ap_formats}
use Rattle.mode_s.specs.Parity.{parity_of, parity_bytes, with_parity}
use Rattle.mode_s.proofs.Xor.{xor_twice}
use Rattle.mode_s.proofs.Laws.{parity_lt, overlay_number}
use Rattle.message.specs.declared.MessageType.{MessageType}
use Rattle.message.specs.declared.MessageType.TheVariants.{
  ExtendedSquitter,
  AcquisitionSquitter,
  ShortAp,
  AllCallReply,
  LongAp,
  MilitaryExtendedSquitter,
  ModeAc,
}
use Rattle.message.specs.declared.Picks.{Picks}
use Rattle.message.specs.Making.{formats, format_of, byte0, later, message_bytes, field_fault}
use Rattle.message.proofs.InRange.{short_ap_format, overlay_below}
use Rattle.message.proofs.MadeClassed.{byte0_format}
use Rattle.message.specs.declared.Interrogator.TheVariants.{Ii, Si, Unassigned}
use Rattle.message.specs.Interrogators.{code_of, last_three, overlay_of, interrogator_of}
use Rattle.message.specs.InterrogatorLaws.{three_bytes, overlaid_with, InterrogatorLaws}
use Rattle.message.proofs.Readings.{inside, before, behind, ii_code, si_code, no_code, reading, another_format, another_length}

-- ---- the table

ii : (o : ℕ) → o < 16 → code_of o ≡ Ii o
ii o h = sym (ii_code o o (Ii o) (inside 0 15 o (omega arith) (omega arith)) refl refl)

si : (k : ℕ) → 1 ≤ k → k ≤ 63 → code_of (16 + k) ≡ Si k
si k a b =
    sym (si_code (16 + k) k (Si k) (behind 0 15 (16 + k) (omega arith) (omega arith)) (inside 17 79 (16 + k) (omega arith) (omega arith)) (omega arith) refl)

sixteen : code_of 16 ≡ Unassigned
sixteen = sym (no_code 16 (behind 0 15 16 (omega arith) (omega arith)) (before 17 79 16 (omega arith)))

above : (o : ℕ) → 80 ≤ o → code_of o ≡ Unassigned
above o h = sym (no_code o (behind 0 15 o (omega arith) (omega arith)) (behind 17 79 o (omega arith) (omega arith)))

-- ---- the overlay

-- three bytes make their number again
three_back : (n : ℕ) → n < 2 ^ 24 → ((n / 65536 % 256) * 256 + n / 256 % 256) * 256 + n % 256 ≡ n
three_back n h =
    let a : n / 65536 % 256 * 256 + n / 256 % 256 ≡ n / 256 = omega arith in
    ap (λ (x : ℕ). x * 256 + n % 256) a ∙ omega arith

found_back : (head : List ℕ) → length head ≡ 4 → (o : ℕ) → o < 2 ^ 24 → overlay_of (overlaid_with head o) ≡ o
unfolding overlay_of last_three overlaid_with three_bytes
found_back [] h o l = absurd (omega arith)
found_back (a ∷ []) h o l = absurd (omega arith)
found_back (a ∷ b ∷ []) h o l = absurd (omega arith)
found_back (a ∷ b ∷ c ∷ []) h o l = absurd (omega arith)
found_back (a ∷ b ∷ c ∷ d ∷ []) h o l =
    let p = parity_of (a ∷ b ∷ c ∷ d ∷ []) in
    ap (bit_xor p) (three_back (bit_xor p o) (xor_lt 24 p o (parity_lt (a ∷ b ∷ c ∷ d ∷ [])) l)) ∙ xor_twice p o
found_back (a ∷ b ∷ c ∷ d ∷ e ∷ m) h o l = absurd (omega arith)

-- the same where the overlay is on the last byte alone
sealed_back : (head : List ℕ) → length head ≡ 4 → (o : ℕ) → o < 256 → overlay_of (with_parity head o) ≡ o
unfolding overlay_of last_three with_parity parity_bytes
sealed_back [] h o l = absurd (omega arith)
sealed_back (a ∷ []) h o l = absurd (omega arith)
sealed_back (a ∷ b ∷ []) h o l = absurd (omega arith)
sealed_back (a ∷ b ∷ c ∷ []) h o l = absurd (omega arith)
sealed_back (a ∷ b ∷ c ∷ d ∷ []) h o l =
    let p = parity_of (a ∷ b ∷ c ∷ d ∷ []) in
    ap (bit_xor p) (overlay_number p o (parity_lt (a ∷ b ∷ c ∷ d ∷ [])) l) ∙ xor_twice p o
sealed_back (a ∷ b ∷ c ∷ d ∷ e ∷ m) h o l = absurd (omega arith)

-- ---- what is made

module _ (p : Picks) (fourteen : length p.bytes ≡ 14) where
  all_call : field_fault AllCallReply p ≡ None → interrogator_of (message_bytes AllCallReply p) ≡ Some (code_of p.overlay)
  unfolding message_bytes with_parity parity_bytes format_of formats
  all_call e =
      let head = byte0 AllCallReply p ∷ 0 ∷ 0 ∷ 0 ∷ [] in
      let below = overlay_below p e in
      sym (reading (message_bytes AllCallReply p) (code_of p.overlay) refl (byte0_format AllCallReply p) (ap code_of (sym (sealed_back head refl p.overlay (omega arith)))))

  head_length_lem : length (later p 3) ≡ 3
  unfolding later
  head_length_lem = simp (length-take, length-drop) (omega arith)

  acquisition_length : length (with_parity (byte0 AcquisitionSquitter p ∷ later p 3) 0) ≡ 7
  unfolding with_parity parity_bytes
  acquisition_length = simp length-append (omega (arith, head_length_lem))

  acquisition : field_fault AcquisitionSquitter p ≡ None → interrogator_of (message_bytes AcquisitionSquitter p) ≡ Some (Ii 0)
  unfolding message_bytes with_parity format_of formats
  acquisition e =
      let head = byte0 AcquisitionSquitter p ∷ later p 3 in
      sym (reading (message_bytes AcquisitionSquitter p) (Ii 0) acquisition_length (byte0_format AcquisitionSquitter p)
      (sym (ap code_of (sealed_back head (ap suc head_length_lem) 0 (omega arith)) ∙ ii 0 (omega arith))))

  later_length : (n : ℕ) → n ≤ 13 → length (later p n) ≡ n
  unfolding later
  later_length n h = simp (length-take, length-drop) (omega arith)

  extended_length : length (message_bytes ExtendedSquitter p) ≡ 14
  unfolding message_bytes with_parity parity_bytes
  extended_length = simp length-append (omega (arith, later_length 10 (omega arith)))

  short_ap_eleven : (k : ℕ) → k < 3 → get_or short_ap_formats k 0 ≡ 11 → ⊥
  short_ap_eleven zero h q = omega arith
  short_ap_eleven (suc zero) h q = omega arith
  short_ap_eleven (suc (suc zero)) h q = omega arith
  short_ap_eleven (suc (suc (suc k))) h q = omega arith

  others : (t : MessageType) → field_fault t p ≡ None → (t ≡ AllCallReply → ⊥) → (t ≡ AcquisitionSquitter → ⊥) → interrogator_of (message_bytes t p) ≡ None
  unfolding message_bytes format_of formats
  others ExtendedSquitter e n m = sym (another_length (message_bytes ExtendedSquitter p) (λ q. omega (arith, extended_length)))
  others AcquisitionSquitter e n m = absurd (m refl)
  others ShortAp e n m =
      sym (another_format (message_bytes ShortAp p) (λ q. short_ap_eleven p.format (short_ap_format p e) (sym (byte0_format ShortAp p) ∙ q)))
  others AllCallReply e n m = absurd (n refl)
  others LongAp e n m = sym (another_length (message_bytes LongAp p) (λ q. omega (arith, later_length 13 (omega arith))))
  others MilitaryExtendedSquitter e n m = sym (another_length (message_bytes MilitaryExtendedSquitter p) (λ q. omega (arith, later_length 13 (omega arith))))
  others ModeAc e n m = sym (another_length (message_bytes ModeAc p) (λ q. omega arith))

pub interrogator_laws : InterrogatorLaws
interrogator_laws = record {
  ii = ii;
  si = si;
  sixteen = sixteen;
  above = above;
  found_back = found_back;
  all_call = all_call;
  acquisition = acquisition;
  others = others;
}
