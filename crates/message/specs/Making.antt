-- Making a reply (SPECIFICATION 7.2, 7.3): formats, CA and control; picks; byte 0; later bytes; parity; overlay.
-- Last, what is refused: the first field at fault, in the order of the tape.
use Rattle.std.specs.Prelude.{Option, Some, None, Result, Ok, Err, ℕ, ◌+◌, ◌-◌, ◌*◌, ◌/◌, ◌%◌, Bool, true, false, cond, ◌&&◌, List, [], ◌∷◌, ◌++◌, eqb, ltb, length, get_or, take, drop, replicate}
use Rattle.mode_s.specs.Formats.{
  extended_formats,
  short_ap_formats,
  long_ap_formats,
  military_formats,
  all_call_formats,
  capabilities,
  controls,
}
use Rattle.mode_s.specs.Parity.{with_parity}
use Rattle.refusals.specs.declared.Refusal.{Refusal}
use Rattle.refusals.specs.declared.Refusal.TheVariants.{Draw}
use Rattle.message.specs.declared.MessageType.{MessageType}
use Rattle.message.specs.declared.MessageType.TheVariants.{
  ExtendedSquitter,
  AcquisitionSquitter,
  ShortAp,
  AllCallReply,
  LongAp,
  MilitaryExtendedSquitter,
  ModeAc,
}
use Rattle.message.specs.declared.ReplyKind.{ReplyKind}
use Rattle.message.specs.declared.ReplyKind.TheVariants.{Short, Long, ModeAc as ModeAcKind}
use Rattle.message.specs.declared.Reply.{Reply}
use Rattle.message.specs.declared.Picks.{Picks}

-- the list that a type's downlink format comes from; Mode A/C has none
unfoldable pub formats : MessageType → List ℕ
formats ExtendedSquitter = extended_formats
formats AcquisitionSquitter = all_call_formats
formats ShortAp = short_ap_formats
formats AllCallReply = all_call_formats
formats LongAp = long_ap_formats
formats MilitaryExtendedSquitter = military_formats
formats ModeAc = []

-- the list that CA, or the control of DF 18, comes from; the other types have neither
unfoldable pub subfields : MessageType → ℕ → List ℕ
subfields ExtendedSquitter df = cond (eqb df 18) controls capabilities
subfields AcquisitionSquitter df = capabilities
subfields ShortAp df = []
subfields AllCallReply df = capabilities
subfields LongAp df = []
subfields MilitaryExtendedSquitter df = []
subfields ModeAc df = []

-- the entry that a pick names; a list of one uses none
abbrev pub entry : List ℕ → ℕ → ℕ
entry [] n = 0
entry (x ∷ []) n = x
entry (x ∷ y ∷ l) n = get_or (x ∷ y ∷ l) n 0

-- whether a pick is below the length of its list; a list of one, and no list, use none
abbrev pub pick_fits : List ℕ → ℕ → Bool
pick_fits [] n = true
pick_fits (x ∷ []) n = true
pick_fits (x ∷ y ∷ l) n = ltb n (length (x ∷ y ∷ l))

unfoldable pub format_of : MessageType → Picks → ℕ
format_of t p = entry (formats t) p.format

-- CA or control, or the low three bits of the draw's byte 0
unfoldable pub low_bits : MessageType → Picks → ℕ
low_bits ExtendedSquitter p = entry (subfields ExtendedSquitter (format_of ExtendedSquitter p)) p.capability
low_bits AcquisitionSquitter p = entry (subfields AcquisitionSquitter (format_of AcquisitionSquitter p)) p.capability
low_bits ShortAp p = get_or p.bytes 0 0 % 8
low_bits AllCallReply p = entry (subfields AllCallReply (format_of AllCallReply p)) p.capability
low_bits LongAp p = get_or p.bytes 0 0 % 8
low_bits MilitaryExtendedSquitter p = get_or p.bytes 0 0 % 8
low_bits ModeAc p = 0

unfoldable pub byte0 : MessageType → Picks → ℕ
byte0 t p = format_of t p * 8 + low_bits t p

-- n bytes of the draw, from its byte 1 on
unfoldable pub later : Picks → ℕ → List ℕ
later p n = take n (drop 1 p.bytes)

-- the bytes of a message. Types 0, 1, 3 end in three bytes of parity, that of an all-call with its overlay; the others carry none.
-- An all-call has 0 in bytes 1 to 3. Mode A/C is its data, low byte first, with SPI as bit 12.
unfoldable pub message_bytes : MessageType → Picks → List ℕ
message_bytes ExtendedSquitter p = with_parity (byte0 ExtendedSquitter p ∷ later p 10) 0
message_bytes AcquisitionSquitter p = with_parity (byte0 AcquisitionSquitter p ∷ later p 3) 0
message_bytes ShortAp p = byte0 ShortAp p ∷ later p 6
message_bytes AllCallReply p = with_parity (byte0 AllCallReply p ∷ 0 ∷ 0 ∷ 0 ∷ []) p.overlay
message_bytes LongAp p = byte0 LongAp p ∷ later p 13
message_bytes MilitaryExtendedSquitter p = byte0 MilitaryExtendedSquitter p ∷ later p 13
message_bytes ModeAc p = (p.«data» % 256) ∷ (p.«data» / 256 + 16 * p.spi) ∷ []

unfoldable pub kind_of : MessageType → ReplyKind
kind_of ExtendedSquitter = Long
kind_of AcquisitionSquitter = Short
kind_of ShortAp = Short
kind_of AllCallReply = Short
kind_of LongAp = Long
kind_of MilitaryExtendedSquitter = Long
kind_of ModeAc = ModeAcKind

-- 14 bytes, zero filled
unfoldable pub filled : List ℕ → List ℕ
filled m = m ++ replicate (14 - length m) 0

-- the reply of a type and picks in range
unfoldable pub reply_of : MessageType → Picks → Reply
reply_of t p = record { kind = kind_of t; bytes = filled (message_bytes t p) }

-- ---- what is refused

-- an all-call's overlay is 1 to 127
unfoldable pub overlay_fits : MessageType → ℕ → Bool
overlay_fits ExtendedSquitter o = true
overlay_fits AcquisitionSquitter o = true
overlay_fits ShortAp o = true
overlay_fits AllCallReply o = ltb 0 o && ltb o 128
overlay_fits LongAp o = true
overlay_fits MilitaryExtendedSquitter o = true
overlay_fits ModeAc o = true

-- a number of Mode A/C below a limit; the other types use none
unfoldable pub mode_ac_fits : MessageType → ℕ → ℕ → Bool
mode_ac_fits ExtendedSquitter n limit = true
mode_ac_fits AcquisitionSquitter n limit = true
mode_ac_fits ShortAp n limit = true
mode_ac_fits AllCallReply n limit = true
mode_ac_fits LongAp n limit = true
mode_ac_fits MilitaryExtendedSquitter n limit = true
mode_ac_fits ModeAc n limit = ltb n limit

-- a field's number where it does not fit, or else what comes of the later fields
abbrev pub checked : ℕ → Bool → Option ℕ → Option ℕ
checked field true rest = rest
checked field false rest = Some field

-- the first field at fault, counted from 0 in the order of the tape: the DF pick is 7, the CA pick 8, the overlay 9, the data 11, SPI 12
unfoldable pub field_fault : MessageType → Picks → Option ℕ
field_fault t p =
    checked 7 (pick_fits (formats t) p.format)
    (checked 8 (pick_fits (subfields t (format_of t p)) p.capability)
    (checked 9 (overlay_fits t p.overlay)
    (checked 11 (mode_ac_fits t p.«data» 4096)
    (checked 12 (mode_ac_fits t p.spi 2) None))))

-- the reply, where no field is at fault
unfoldable pub made_where : Option ℕ → Reply → Result Reply ℕ
made_where None r = Ok r
made_where (Some field) r = Err field

-- what making answers: the reply, or the field at fault
unfoldable pub made : MessageType → Picks → Result Reply ℕ
made t p = made_where (field_fault t p) (reply_of t p)

-- in the specification's terms: "a draw field out of range" is refusal 7, with the index of the draw and the field
unfoldable pub field_refusal : ℕ → Option ℕ → Option Refusal
field_refusal draw None = None
field_refusal draw (Some field) = Some (Draw draw field)

-- what making answers for the draw at an index: a reply, or that refusal
unfoldable pub made_answer : ℕ → Result Reply ℕ → Result Reply Refusal
made_answer draw (Ok r) = Ok r
made_answer draw (Err field) = Err (Draw draw field)
