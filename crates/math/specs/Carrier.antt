-- Sine and cosine of a phase (SPECIFICATION 6.11): reduction, quadrant, Horner sums, each operation rounded once. For every `f64`.
use Rattle.std.specs.Prelude.{ℕ, zero, suc, ◌+◌, ◌*◌, Bool, false, cond, not, from_bits, List, [], ◌∷◌, Float}
use Rattle.std.specs.Float.{binary64}
use Rattle.std.specs.Float.Ieee.{round, add, sub, mul, div, neg, lt}
use Rattle.math.specs.Phase.{pi}
use Rattle.math.specs.declared.Reduced.{Reduced}
use Rattle.math.specs.declared.SinCos.{SinCos}

-- H of SPECIFICATION 6.11, PI / 2
unfoldable pub half_pi : Float
half_pi = div binary64 pi (from_bits binary64 0x4000_0000_0000_0000)

-- 1.5H
unfoldable pub outer_limit : Float
outer_limit = mul binary64 (from_bits binary64 0x3ff8_0000_0000_0000) half_pi

-- 0.5H
unfoldable pub inner_limit : Float
inner_limit = mul binary64 (from_bits binary64 0x3fe0_0000_0000_0000) half_pi

-- r and q of a phase, by the first table of SPECIFICATION 6.11
unfoldable pub reduced : Float → Reduced
reduced p =
    cond (lt p (neg outer_limit)) (record { r = add binary64 p pi; q = 2 })
    (cond (lt p (neg inner_limit)) (record { r = add binary64 p half_pi; q = 3 })
    (cond (lt p inner_limit) (record { r = p; q = 0 })
    (cond (lt p outer_limit) (record { r = sub binary64 p half_pi; q = 1 })
    (record { r = sub binary64 p pi; q = 2 }))))

unfoldable pub factorial : ℕ → ℕ
factorial zero = 1
factorial (suc n) = suc n * factorial n

-- whether (-1)^n is negative
unfoldable pub odd : ℕ → Bool
odd zero = false
odd (suc n) = not (odd n)

-- the `f64` nearest to (-1)^n/(2n+1)!, and to (-1)^n/(2n)!
unfoldable pub sine_coefficient : ℕ → Float
sine_coefficient n = round binary64 (odd n) 1 (factorial (2 * n + 1))

unfoldable pub cosine_coefficient : ℕ → Float
cosine_coefficient n = round binary64 (odd n) 1 (factorial (2 * n))

-- The Horner sum in z of the coefficients n to n + k, highest first: the sum of those above n, times z, plus coefficient n.
unfoldable pub horner : (ℕ → Float) → ℕ → ℕ → Float → Float
horner coefficient zero n z = coefficient n
horner coefficient (suc k) n z = add binary64 (mul binary64 (horner coefficient k (suc n) z) z) (coefficient n)

-- the same sum of coefficients that are listed, the highest of them apart
unfoldable pub horner_of : Float → List Float → Float → Float
horner_of sum [] z = sum
horner_of sum (a ∷ others) z = horner_of (add binary64 (mul binary64 sum z) a) others z

-- S and C: z = r times r; n 0 to 6, and n 0 to 7
unfoldable pub sine_sum : Float → Float
sine_sum r = mul binary64 r (horner sine_coefficient 6 0 (mul binary64 r r))

unfoldable pub cosine_sum : Float → Float
cosine_sum r = horner cosine_coefficient 7 0 (mul binary64 r r)

-- sine and cosine by q, by the second table of SPECIFICATION 6.11
unfoldable pub quadrant : ℕ → Float → Float → SinCos
quadrant zero s c = record { sin = s; cos = c }
quadrant (suc zero) s c = record { sin = c; cos = neg s }
quadrant (suc (suc zero)) s c = record { sin = neg s; cos = neg c }
quadrant (suc (suc (suc q))) s c = record { sin = neg c; cos = s }

unfoldable pub sin_cos : Float → SinCos
sin_cos p = quadrant (reduced p).q (sine_sum (reduced p).r) (cosine_sum (reduced p).r)
