-- Which number is the parity of a message in the Annex's terms: the remainder R(x) of M(x) times x^24 by the generator G(x).
-- A polynomial whose coefficients are 0 or 1, and add modulo 2, is written as a number: bit i is the coefficient of x^i, and the sum of two polynomials is their exclusive or. For a message of any length.
use Rattle.std.specs.Prelude.{ℕ, zero, suc, ◌+◌, ◌*◌, ◌/◌, ◌%◌, ◌^◌, ◌<◌, ◌≡◌, List, [], ◌∷◌}
use Rattle.std.specs.Int.Bits.{bit_xor}
use Rattle.mode_s.specs.Parity.{bits, parity_of}

-- G(x), the Annex's generator: x^24 and the terms of 0xFFF409
abbrev pub generator : ℕ
generator = 0x1FFF409

-- the polynomial with these coefficients, the highest first, behind those of n
unfoldable pub behind : ℕ → List ℕ → ℕ
behind n [] = n
behind n (d ∷ ds) = behind (n * 2 + d) ds

-- M(x): the bits of a message are its coefficients, the first bit highest
unfoldable pub message_polynomial : List ℕ → ℕ
message_polynomial bs = behind 0 (bits bs)

-- the lowest n terms of a, each times b, summed
unfoldable pub terms_times : ℕ → ℕ → ℕ → ℕ
terms_times zero a b = 0
terms_times (suc n) a b = bit_xor (a % 2 * b) (terms_times n (a / 2) b * 2)

-- the product of two polynomials. No number has more terms than itself, so none is left out: `times-step` of proofs/Product.antt
unfoldable pub times : ℕ → ℕ → ℕ
times a b = terms_times a a b

-- p is the remainder of M(x) times x^24 by G(x): its degree is below 24, and a multiple of G(x) plus p is M(x) times x^24
pub record IsRemainder (bs : List ℕ) (p : ℕ) : Type 0 where
  pub below : p < 2 ^ 24
  pub quotient : ℕ
  pub whole : bit_xor (times quotient generator) p ≡ message_polynomial bs * 2 ^ 24

-- the parity of a message is the remainder, and no other number is
abbrev pub ParityIsTheRemainder : Type 0
ParityIsTheRemainder = (bs : List ℕ) → IsRemainder bs (parity_of bs) × ((p : ℕ) → IsRemainder bs p → p ≡ parity_of bs)
