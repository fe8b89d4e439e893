-- The pulses of a Mode S message.
use Rattle.std.specs.Prelude.{ℕ, zero, suc, ◌+◌, ◌-◌, ◌*◌, ◌/◌, ◌%◌, ◌^◌, Bool, true, false, List, [], ◌∷◌, get_or}
use Rattle.pulse_map.specs.declared.Pulses.{Pulses}
use Rattle.pulse_map.specs.Map.{map_of}

-- a long message has 112 bits, a short one 56
unfoldable pub mode_s_bits : Bool → ℕ
mode_s_bits true = 112
mode_s_bits false = 56

-- two positions for each bit, after 16 for the preamble
unfoldable pub mode_s_length : Bool → ℕ
mode_s_length long = 16 + 2 * mode_s_bits long

-- bit k of a byte, highest first
unfoldable pub byte_bit : ℕ → ℕ → ℕ
byte_bit x k = x / 2 ^ (7 - k) % 2

-- bit n of a message
unfoldable pub bit_of : List ℕ → ℕ → ℕ
bit_of m n = byte_bit (get_or m (n / 8) 0) (n % 8)

-- the pair of bit n, from position 16 on: its first position for 1, its second for 0
abbrev pub pair_position : ℕ → ℕ → ℕ
pair_position n zero = 16 + 2 * n + 1
pair_position n (suc b) = 16 + 2 * n

-- a pulse for each of k bits, from bit n on
unfoldable pub bit_positions : List ℕ → ℕ → ℕ → List ℕ
bit_positions m zero n = []
bit_positions m (suc left) n = pair_position n (bit_of m n) ∷ bit_positions m left (suc n)

-- pulses 0, 2, 7, 9, then a pair per bit
unfoldable pub mode_s_positions : List ℕ → Bool → List ℕ
mode_s_positions m long = 0 ∷ 2 ∷ 7 ∷ 9 ∷ bit_positions m (mode_s_bits long) 0

unfoldable pub mode_s_pulses : List ℕ → Bool → Pulses
mode_s_pulses m long = map_of (mode_s_positions m long) (mode_s_length long)
