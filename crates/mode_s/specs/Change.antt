-- What one flipped bit does to the parity of a message, from the bit's place alone. Places are counted back from 0 at the last bit, so a short message has 0 to 55 and a long one 0 to 111.
use Rattle.std.specs.Prelude.{Option, Some, None, ℕ, zero, suc, ◌-◌, ◌/◌, ◌%◌, ◌^◌, cond, List, eqb, ltb, length, get_or, set}
use Rattle.std.specs.Int.Bits.{bit_xor}
use Rattle.mode_s.specs.Parity.{divisor, brought}

-- the message with the bit at a place flipped
unfoldable pub flipped : ℕ → List ℕ → List ℕ
flipped place bs =
    set bs (length bs - 1 - place / 8) (bit_xor (get_or bs (length bs - 1 - place / 8) 0) (2 ^ (place % 8)))

-- the remainder of x^(24 + place) by the generator: that of x^24 is the divisor's terms below x^24, and each place more brings down one more zero bit
unfoldable pub power_remainder : ℕ → ℕ
power_remainder zero = divisor
power_remainder (suc place) = brought (power_remainder place) 0

-- the bits of a long message
abbrev pub long_bits : ℕ
long_bits = 112

-- the change in parity of a message whose bit at a place is flipped; no bit stands above 111, and 0 is no change
unfoldable pub change_at : ℕ → ℕ
change_at place = cond (ltb place long_bits) (power_remainder place) 0

-- the first of n places from a place on whose change this is
unfoldable pub place_from : ℕ → ℕ → ℕ → Option ℕ
place_from zero place change = None
place_from (suc n) place change = cond (eqb (change_at place) change) (Some place) (place_from n (suc place) change)

-- the place whose change this is, if it is that of one flipped bit
unfoldable pub place_of : ℕ → Option ℕ
place_of change = place_from long_bits 0 change
