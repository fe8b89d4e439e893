-- The numbers of the message types (SPECIFICATION 7.1), in the order of the Rust's `MessageType::ALL`.
use Rattle.std.specs.Prelude.{Option, Some, None, ℕ, List, [], ◌∷◌, get_or}
use Rattle.message.specs.declared.MessageType.{MessageType}
use Rattle.message.specs.declared.MessageType.TheVariants.{
  ExtendedSquitter,
  AcquisitionSquitter,
  ShortAp,
  AllCallReply,
  LongAp,
  MilitaryExtendedSquitter,
  ModeAc,
}

-- the number of a type
unfoldable pub type_number : MessageType → ℕ
type_number ExtendedSquitter = 0
type_number AcquisitionSquitter = 1
type_number ShortAp = 2
type_number AllCallReply = 3
type_number LongAp = 4
type_number MilitaryExtendedSquitter = 5
type_number ModeAc = 6

-- the types in the order of their numbers
abbrev pub all_types : List (Option MessageType)
all_types =
    Some ExtendedSquitter
    ∷ Some AcquisitionSquitter
    ∷ Some ShortAp
    ∷ Some AllCallReply
    ∷ Some LongAp
    ∷ Some MilitaryExtendedSquitter
    ∷ Some ModeAc
    ∷ []

-- the type of a number; none above 6
unfoldable pub type_numbered : ℕ → Option MessageType
type_numbered n = get_or all_types n None
