-- Classing, as SPECIFICATION 7.5 says it: TIS-B, class 7, or else a reply's type by its length and format.
use Rattle.std.specs.Prelude.{Option, Some, None, option_map, ℕ, ◌/◌, ◌%◌, Bool, true, false, cond, ◌||◌, List, [], ◌∷◌, eqb, length, get_or, take}
use Rattle.std.specs.Option.{option_or}
use Rattle.mode_s.specs.Parity.{parity_of}
use Rattle.message.specs.declared.MessageType.{MessageType}
use Rattle.message.specs.declared.MessageType.TheVariants.{
  ExtendedSquitter,
  AcquisitionSquitter,
  ShortAp,
  AllCallReply,
  LongAp,
  MilitaryExtendedSquitter,
  ModeAc,
}
use Rattle.message.specs.declared.ReplyKind.{ReplyKind}
use Rattle.message.specs.declared.ReplyKind.TheVariants.{Short, Long, ModeAc as ModeAcKind}
use Rattle.message.specs.declared.Reply.{Reply}
use Rattle.message.specs.Types.{type_number}
use Rattle.message.specs.Making.{formats}
use Rattle.message.specs.declared.Class.{Class}
use Rattle.message.specs.declared.Class.TheVariants.{OfType, TisB}

-- whether a format stands in a list
abbrev pub listed : List ℕ → ℕ → Bool
listed [] df = false
listed (x ∷ l) df = eqb df x || listed l df

-- a short message of DF 11: acquisition if the parity of all seven bytes is 0, else all-call
unfoldable pub eleven_class : List ℕ → MessageType
eleven_class m = cond (eqb (parity_of m) 0) AcquisitionSquitter AllCallReply

-- a short message of seven bytes, by its format
unfoldable pub short_class : ℕ → List ℕ → Option MessageType
short_class df m =
    cond (listed (formats ShortAp) df) (Some ShortAp) (cond (listed (formats AllCallReply) df) (Some (eleven_class m)) None)

-- a long message, by its format
unfoldable pub long_class : ℕ → Option MessageType
long_class df =
    cond (listed (formats ExtendedSquitter) df) (Some ExtendedSquitter)
    (cond (listed (formats MilitaryExtendedSquitter) df) (Some MilitaryExtendedSquitter)
    (cond (listed (formats LongAp) df) (Some LongAp) None))

unfoldable pub kind_class : ReplyKind → List ℕ → Option MessageType
kind_class Short b = short_class (get_or b 0 0 / 8) (take 7 b)
kind_class Long b = long_class (get_or b 0 0 / 8)
kind_class ModeAcKind b = Some ModeAc

-- the type that a reply is of; other pairs of length and format have none
unfoldable pub type_of : Reply → Option MessageType
type_of r = kind_class r.kind r.bytes

-- ---- TIS-B, which is an answer of classing and not a type

-- the controls of DF 18 that RTCA DO-260B gives to TIS-B
abbrev pub tis_b_controls : List ℕ
tis_b_controls = 2 ∷ 3 ∷ 5 ∷ []

-- the first byte is of DF 18 with one of them; the control is its low three bits
unfoldable pub is_tis_b : ℕ → Bool
is_tis_b first = cond (eqb (first / 8) 18) (listed tis_b_controls (first % 8)) false

unfoldable pub is_long : ReplyKind → Bool
is_long Short = false
is_long Long = true
is_long ModeAcKind = false

-- the one rule: a long message with such a first byte is a TIS-B message
unfoldable pub relay_class : Bool → ℕ → Option Class
relay_class long first = cond long (cond (is_tis_b first) (Some TisB) None) None

-- the other rule: a reply's type, an extended squitter for all of DF 17 and 18
unfoldable pub type_class : Option MessageType → Option Class
type_class found = option_map OfType found

-- both rules in their order: TIS-B first
unfoldable pub class_by : ReplyKind → List ℕ → Option Class
class_by k b = option_or (relay_class (is_long k) (get_or b 0 0)) (type_class (kind_class k b))

-- the class of a reply
unfoldable pub class_of : Reply → Option Class
class_of r = class_by r.kind r.bytes

-- the class of message bytes, whose number says the kind: 7 short, 14 long, 2 Mode A/C; another number of bytes has no class
unfoldable pub class_of_bytes : List ℕ → Option Class
class_of_bytes m =
    cond (eqb (length m) 7) (class_by Short m)
    (cond (eqb (length m) 14) (class_by Long m)
    (cond (eqb (length m) 2) (class_by ModeAcKind m) None))

-- the number of a class: its type's, 7 for TIS-B, 255 for none
unfoldable pub class_number : Option Class → ℕ
class_number (Some (OfType t)) = type_number t
class_number (Some TisB) = 7
class_number None = 255

-- class 7 read as class 0
unfoldable pub seven_as_zero : Option Class → Option MessageType
seven_as_zero (Some (OfType t)) = Some t
seven_as_zero (Some TisB) = Some ExtendedSquitter
seven_as_zero None = None
