-- Parity of Mode S: the remainder of a message's bits, as a polynomial times x^24, by 0xFFF409 (x^24 implied), start 0. For a message of any length.
use Rattle.std.specs.Prelude.{ℕ, ◌+◌, ◌*◌, ◌/◌, ◌%◌, List, [], ◌∷◌, ◌++◌, replicate}
use Rattle.std.specs.Int.Bits.{bit_xor}

-- the terms of the divisor below x^24
abbrev pub divisor : ℕ
divisor = 0xFFF409

-- the divisor taken off where x^24 stands
unfoldable pub reduced : ℕ → ℕ
reduced n = bit_xor (n / 0x1000000 % 2 * divisor) (n % 0x1000000)

-- one step of the long division: the next bit d brought down behind the remainder r
unfoldable pub brought : ℕ → ℕ → ℕ
brought r d = reduced (r * 2 + d)

-- the remainder once all the bits are brought down, r being that of what stands before them
unfoldable pub remainder : ℕ → List ℕ → ℕ
remainder r [] = r
remainder r (d ∷ ds) = remainder (brought r d) ds

-- the bits of a message, highest first in each byte
unfoldable pub bits : List ℕ → List ℕ
bits [] = []
bits (b ∷ bs) =
    b / 128 % 2 ∷ b / 64 % 2 ∷ b / 32 % 2 ∷ b / 16 % 2 ∷ b / 8 % 2 ∷ b / 4 % 2 ∷ b / 2 % 2 ∷ b % 2 ∷ bits bs

-- times x^24 is 24 zero bits more
unfoldable pub parity_of : List ℕ → ℕ
parity_of bs = remainder 0 (bits bs ++ replicate 24 0)

-- the three bytes of a parity p, high first, the overlay o put on the last byte by exclusive or
unfoldable pub parity_bytes : ℕ → ℕ → List ℕ
parity_bytes p o = p / 65536 % 256 ∷ p / 256 % 256 ∷ bit_xor o (p % 256) ∷ []

-- a message that ends in the parity of what precedes, with an overlay (0 for none)
unfoldable pub with_parity : List ℕ → ℕ → List ℕ
with_parity head o = head ++ parity_bytes (parity_of head) o

-- two messages of one length laid over each other by exclusive or, byte by byte
unfoldable pub laid : List ℕ → List ℕ → List ℕ
laid [] [] = []
laid [] (y ∷ ys) = []
laid (x ∷ xs) [] = []
laid (x ∷ xs) (y ∷ ys) = bit_xor x y ∷ laid xs ys
