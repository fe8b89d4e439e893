-- Mode A/C data: its four digits and its twelve bits.
use Rattle.std.specs.Prelude.{ℕ, ◌+◌, ◌*◌, ◌/◌, ◌%◌, Bool, false, List, [], ◌∷◌, eqb, get_or}
use Rattle.mode_ac.specs.declared.Digits.{Digits}

-- A times 512, B times 64, C times 8, plus D
abbrev pub data_of : ℕ → ℕ → ℕ → ℕ → ℕ
data_of a b c d = a * 512 + b * 64 + c * 8 + d

-- the digits of data; of data of 4096 or more, those of its remainder by 4096
abbrev pub digit_a : ℕ → ℕ
digit_a n = n / 512 % 8

abbrev pub digit_b : ℕ → ℕ
digit_b n = n / 64 % 8

abbrev pub digit_c : ℕ → ℕ
digit_c n = n / 8 % 8

abbrev pub digit_d : ℕ → ℕ
digit_d n = n % 8

abbrev pub digits_of : ℕ → Digits
digits_of n = record { a = digit_a n; b = digit_b n; c = digit_c n; d = digit_d n }

-- a digit has its bit of worth 1, 2 or 4
abbrev pub has : ℕ → ℕ → Bool
has digit worth = eqb (digit / worth % 2) 1

-- the bits in the order of their pulses: C1 A1 C2 A2 C4 A4 B1 D1 B2 D2 B4 D4
unfoldable pub bits_of : ℕ → List Bool
bits_of n =
    has (digit_c n) 1 ∷
    has (digit_a n) 1 ∷
    has (digit_c n) 2 ∷
    has (digit_a n) 2 ∷
    has (digit_c n) 4 ∷
    has (digit_a n) 4 ∷
    has (digit_b n) 1 ∷
    has (digit_d n) 1 ∷
    has (digit_b n) 2 ∷
    has (digit_d n) 2 ∷
    has (digit_b n) 4 ∷
    has (digit_d n) 4 ∷
    []

-- the n-th of them, from 0; there is none beyond the twelve
unfoldable pub bit_of : ℕ → ℕ → Bool
bit_of n k = get_or (bits_of n) k false
