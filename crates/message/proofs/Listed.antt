-- The formats of long messages with address parity are listed.
use Rattle.std.specs.Prelude.{Option, Some, None}
use Rattle.message.specs.declared.MessageType.{MessageType}
use mathlib.Core.Path.{◌≡◌, refl, sym, ap, ◌∙◌}
use mathlib.Core.Bool.{Bool}
use Prim.Native.Nat.{ℕ, ◌<◌}
use lib.Dec.{T, eqb, eqb→eq}
use lib.ListN.{get_or}
use Rattle.mode_s.specs.Formats.{long_ap_formats}
use Rattle.mode_s.proofs.Below.{every, below}
use Rattle.message.specs.declared.MessageType.TheVariants.{LongAp}
use Rattle.message.specs.Making.{formats}
use Rattle.message.specs.Types.{type_number, type_numbered}
use Rattle.message.proofs.Numbers.{number_found}
use Rattle.message.specs.Classing.{long_class}

-- the number of a type, 255 where there is none
unfoldable pub found_number : Option MessageType → ℕ
found_number (Some t) = type_number t
found_number None = 255

back : (f : Option MessageType) → type_numbered (found_number f) ≡ f
unfolding found_number type_numbered
back (Some t) = number_found t
back None = refl

pub same_class : (a b : Option MessageType) → found_number a ≡ found_number b → a ≡ b
same_class a b e = sym (back a) ∙ ap type_numbered e ∙ back b

-- ---- by one computed test each

long_test : ℕ → Bool
long_test k = eqb (found_number (long_class (get_or long_ap_formats k 0))) 4

long_tested : T (every long_test 11)
unfolding long_test found_number type_number long_class formats
long_tested = tt

pub long_ap_listed : (k : ℕ) → k < 11 → long_class (get_or long_ap_formats k 0) ≡ Some LongAp
unfolding long_test found_number type_number
long_ap_listed k h =
    same_class (long_class (get_or long_ap_formats k 0)) (Some LongAp)
    (eqb→eq (found_number (long_class (get_or long_ap_formats k 0))) 4 (below long_test 11 long_tested k h))
