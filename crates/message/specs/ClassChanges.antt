-- What is claimed of class 7: which answers of the base it changes, and that it changes no others. The base's answer is the type.
use Rattle.std.specs.Prelude.{Some, None, ℕ, ◌<◌, ◌≡◌, true, false, List, [], ◌∷◌, length, get_or}
use Rattle.message.specs.declared.MessageType.{MessageType}
use Rattle.message.specs.declared.MessageType.TheVariants.{ExtendedSquitter}
use Rattle.message.specs.declared.ReplyKind.TheVariants.{Short, Long, ModeAc}
use Rattle.message.specs.declared.Reply.{Reply}
use Rattle.message.specs.declared.Picks.{Picks}
use Rattle.message.specs.Making.{reply_of, field_fault}
use Rattle.message.specs.declared.Class.TheVariants.{TisB}
use Rattle.message.specs.Classing.{
  listed,
  kind_class,
  type_of,
  is_tis_b,
  relay_class,
  type_class,
  class_by,
  class_of,
  class_number,
  seven_as_zero,
}

pub record ClassChanges : Type 0 where
  -- the first bytes of TIS-B, among all 256: DF 18 with control 2, 3 and 5
  pub first_bytes : (first : ℕ) → first < 256 → is_tis_b first ≡ listed (0x92 ∷ 0x93 ∷ 0x95 ∷ []) first
  -- both rules hold for a long message with one of them
  pub a_relay : (b : List ℕ) → is_tis_b (get_or b 0 0) ≡ true → relay_class true (get_or b 0 0) ≡ Some TisB
  pub an_extended_squitter : (b : List ℕ) → is_tis_b (get_or b 0 0) ≡ true → kind_class Long b ≡ Some ExtendedSquitter
  -- so its answer changes, from 0 to 7
  pub changed : (b : List ℕ) → is_tis_b (get_or b 0 0) ≡ true
      → (class_number (type_class (kind_class Long b)) ≡ 0) × (class_number (class_by Long b) ≡ 7)
  -- and no other answer does: of other long messages, of short ones, of Mode A/C
  pub long_kept : (b : List ℕ) → is_tis_b (get_or b 0 0) ≡ false → class_by Long b ≡ type_class (kind_class Long b)
  pub short_kept : (b : List ℕ) → class_by Short b ≡ type_class (kind_class Short b)
  pub mode_ac_kept : (b : List ℕ) → class_by ModeAc b ≡ type_class (kind_class ModeAc b)
  -- with 7 read as 0 every answer is the base's
  pub read_as_zero : (r : Reply) → seven_as_zero (class_of r) ≡ type_of r
  -- so each message that is made of fields in range is classed as its type
  pub made_as_its_type : (p : Picks) → length p.bytes ≡ 14 → (t : MessageType) → field_fault t p ≡ None
      → seven_as_zero (class_of (reply_of t p)) ≡ Some t
