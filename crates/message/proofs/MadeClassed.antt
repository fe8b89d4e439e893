-- Theorem `made-classed`: every message that is made of fields in range is of its type by length and format.
use Rattle.std.specs.Prelude.{Option, Some, None, Ok}
use mathlib.Core.Path.{◌≡◌, refl, sym, ap, ◌∙◌}
use mathlib.Core.Bool.{Bool, true, false, cond}
use mathlib.Core.List.{List, [], ◌∷◌}
use Prim.Native.Nat.{ℕ, zero, suc, ◌-◌, ◌/◌, ◌<◌}
use borrow.Author.Tests.{eq-eqb, ne_eqb}
use native.Mathlib.Nat.{mod-lt}
use native.Mathlib.Omega.{arith}
use lib.Dec.{eqb, lit<}
use lib.ListN.{length, get_or, take, drop, replicate, length-append, length-take, length-drop}
use lib.Seq.{take_at}
use Rattle.mode_s.specs.Formats.{extended_formats, short_ap_formats, capabilities, controls}
use Rattle.mode_s.specs.Parity.{parity_of, parity_bytes, with_parity}
use Rattle.mode_s.proofs.Laws.{sealed_parity, overlay_seen}
use Rattle.message.specs.declared.MessageType.{MessageType}
use Rattle.message.specs.declared.MessageType.TheVariants.{
  ExtendedSquitter,
  AcquisitionSquitter,
  ShortAp,
  AllCallReply,
  LongAp,
  MilitaryExtendedSquitter,
  ModeAc,
}
use Rattle.message.specs.declared.Picks.{Picks}
use Rattle.message.specs.declared.Reply.{Reply}
use Rattle.message.specs.Making.{
  formats,
  subfields,
  entry,
  format_of,
  low_bits,
  byte0,
  later,
  message_bytes,
  kind_of,
  filled,
  reply_of,
  field_fault,
  made_where,
  made,
}
use Rattle.message.proofs.InRange.{
  entry_lt,
  extended_format,
  short_ap_format,
  long_ap_format,
  overlay_above,
  overlay_below,
}
use Rattle.message.specs.Classing.{eleven_class, short_class, long_class, kind_class, type_of}
use Rattle.message.proofs.Listed.{long_ap_listed}

-- ---- byte 0 holds the format

subfield_lt : (control : Bool) (k : ℕ) → entry (cond control controls capabilities) k < 8
subfield_lt true k = entry_lt 8 controls (lit< tt) tt k
subfield_lt false k = entry_lt 8 capabilities (lit< tt) tt k

low_lt : (t : MessageType) (p : Picks) → low_bits t p < 8
unfolding low_bits subfields
low_lt ExtendedSquitter p = subfield_lt (eqb (format_of ExtendedSquitter p) 18) p.capability
low_lt AcquisitionSquitter p = entry_lt 8 capabilities (lit< tt) tt p.capability
low_lt ShortAp p = mod-lt (get_or p.bytes 0 0) (lit< tt)
low_lt AllCallReply p = entry_lt 8 capabilities (lit< tt) tt p.capability
low_lt LongAp p = mod-lt (get_or p.bytes 0 0) (lit< tt)
low_lt MilitaryExtendedSquitter p = mod-lt (get_or p.bytes 0 0) (lit< tt)
low_lt ModeAc p = lit< tt

pub byte0_format : (t : MessageType) (p : Picks) → byte0 t p / 8 ≡ format_of t p
unfolding byte0
byte0_format t p = omega (arith, low_lt t p)

-- ---- a short message of DF 11, by its parity

pub eleven_sealed : (m : List ℕ) → parity_of m ≡ 0 → short_class 11 m ≡ Some AcquisitionSquitter
unfolding short_class eleven_class formats
eleven_sealed m h = simp (eq-eqb (parity_of m) 0 h)

pub eleven_overlaid : (m : List ℕ) → (parity_of m ≡ 0 → ⊥) → short_class 11 m ≡ Some AllCallReply
unfolding short_class eleven_class formats
eleven_overlaid m h = simp (ne_eqb (parity_of m) 0 h)

-- the bytes of a short message, without the zeros behind them
first_seven : (m : List ℕ) → length m ≡ 7 → take 7 (filled m) ≡ m
unfolding filled
first_seven m h = take_at m (replicate (14 - length m) 0) 7 h

-- ---- each type

extended_listed : (k : ℕ) → k < 2 → long_class (get_or extended_formats k 0) ≡ Some ExtendedSquitter
unfolding long_class formats
extended_listed zero h = refl
extended_listed (suc zero) h = refl
extended_listed (suc (suc k)) h = absurd (omega arith)

short_ap_listed : (k : ℕ) → k < 3 → (m : List ℕ) → short_class (get_or short_ap_formats k 0) m ≡ Some ShortAp
unfolding short_class formats
short_ap_listed zero h m = refl
short_ap_listed (suc zero) h m = refl
short_ap_listed (suc (suc zero)) h m = refl
short_ap_listed (suc (suc (suc k))) h m = absurd (omega arith)

module _ (p : Picks) (fourteen : length p.bytes ≡ 14) where
  acquisition_length : length (with_parity (byte0 AcquisitionSquitter p ∷ take 3 (drop 1 p.bytes)) 0) ≡ 7
  unfolding with_parity parity_bytes
  acquisition_length = simp (length-append, length-take, length-drop) (omega arith)

  acquisition_classed : type_of (reply_of AcquisitionSquitter p) ≡ Some AcquisitionSquitter
  unfolding type_of kind_class reply_of kind_of message_bytes later filled with_parity format_of formats
  acquisition_classed =
      let head = byte0 AcquisitionSquitter p ∷ take 3 (drop 1 p.bytes) in
      ap (λ (df : ℕ). short_class df (take 7 (filled (with_parity head 0)))) (byte0_format AcquisitionSquitter p)
      ∙ ap (short_class 11) (first_seven (with_parity head 0) acquisition_length)
      ∙ eleven_sealed (with_parity head 0) (sealed_parity head)

  all_call_classed : field_fault AllCallReply p ≡ None → type_of (reply_of AllCallReply p) ≡ Some AllCallReply
  unfolding type_of kind_class reply_of kind_of message_bytes filled with_parity parity_bytes format_of formats
  all_call_classed e =
      let head = byte0 AllCallReply p ∷ 0 ∷ 0 ∷ 0 ∷ [] in
      let below = overlay_below p e in
      ap (λ (df : ℕ). short_class df (with_parity head p.overlay)) (byte0_format AllCallReply p)
      ∙ eleven_overlaid (with_parity head p.overlay) (overlay_seen head p.overlay (overlay_above p e) (omega arith))

  pub made_classed : (t : MessageType) → field_fault t p ≡ None → type_of (reply_of t p) ≡ Some t
  unfolding type_of kind_class reply_of kind_of message_bytes filled with_parity format_of formats long_class
  made_classed ExtendedSquitter e = ap long_class (byte0_format ExtendedSquitter p) ∙ extended_listed p.format (extended_format p e)
  made_classed AcquisitionSquitter e = acquisition_classed
  made_classed ShortAp e =
      let m = take 7 (filled (byte0 ShortAp p ∷ later p 6)) in
      ap (λ (df : ℕ). short_class df m) (byte0_format ShortAp p) ∙ short_ap_listed p.format (short_ap_format p e) m
  made_classed AllCallReply e = all_call_classed e
  made_classed LongAp e = ap long_class (byte0_format LongAp p) ∙ long_ap_listed p.format (long_ap_format p e)
  made_classed MilitaryExtendedSquitter e = ap long_class (byte0_format MilitaryExtendedSquitter p)
  made_classed ModeAc e = refl

  -- the same of what making answers
  pub answer_classed : (t : MessageType) (r : Reply) → made t p ≡ Ok r → type_of r ≡ Some t
  unfolding made made_where
  answer_classed t r e = by (field_fault t p) refl e
    where
      by : (f : Option ℕ) → field_fault t p ≡ f → made_where f (reply_of t p) ≡ Ok r → type_of r ≡ Some t
      by None q h = let same : reply_of t p ≡ r = cc in ap type_of (sym same) ∙ made_classed t q
      by (Some k) q h = absurd (cc)
