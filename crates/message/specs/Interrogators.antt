-- Which interrogator a message answers, as SPECIFICATION 7.10 says it.
use Rattle.std.specs.Prelude.{Option, Some, None, ℕ, ◌+◌, ◌-◌, ◌*◌, ◌/◌, Bool, false, cond, List, eqb, leb, length, get_or, take}
use Rattle.std.specs.Int.Bits.{bit_xor}
use Rattle.mode_s.specs.Parity.{parity_of}
use Rattle.message.specs.declared.Interrogator.{Interrogator}
use Rattle.message.specs.declared.Interrogator.TheVariants.{Ii, Si, Unassigned}

-- whether an overlay lies in a stretch, both ends in it
unfoldable pub within : ℕ → ℕ → ℕ → Bool
within first last o = cond (leb first o) (leb o last) false

-- the Annex's table: 0 to 15 are II codes, 17 to 79 are SI codes 1 to 63, and others are unassigned
unfoldable pub code_of : ℕ → Interrogator
code_of o = cond (within 0 15 o) (Ii o) (cond (within 17 79 o) (Si (o - 16)) Unassigned)

-- the number that bytes 4, 5 and 6 make, high first
unfoldable pub last_three : List ℕ → ℕ
last_three m = (get_or m 4 0 * 256 + get_or m 5 0) * 256 + get_or m 6 0

-- the overlay: the last three bytes, exclusive or, the parity of the first four
unfoldable pub overlay_of : List ℕ → ℕ
overlay_of m = bit_xor (parity_of (take 4 m)) (last_three m)

-- a message of seven bytes and DF 11 has a reading; others have none
unfoldable pub interrogator_of : List ℕ → Option Interrogator
interrogator_of m = cond (eqb (length m) 7) (cond (eqb (get_or m 0 0 / 8) 11) (Some (code_of (overlay_of m))) None) None

-- a reading as two numbers: its kind, 0 for none, 1 for II, 2 for SI, 3 for unassigned; and its code, 0 where it has none
unfoldable pub kind_number : Option Interrogator → ℕ
kind_number (Some (Ii n)) = 1
kind_number (Some (Si n)) = 2
kind_number (Some Unassigned) = 3
kind_number None = 0

unfoldable pub code_number : Option Interrogator → ℕ
code_number (Some (Ii n)) = n
code_number (Some (Si n)) = n
code_number (Some Unassigned) = 0
code_number None = 0
