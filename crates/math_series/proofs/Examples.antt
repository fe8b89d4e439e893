-- The definitions at small numbers, computed: 0.5 is 1/2, and -0.75 is -3/4; of 1/2, two terms of the sine are 23/48, and three of the cosine 337/384.
use mathlib.Core.Path.{refl}
use native.Mathlib.Nat.{zero-lt-suc}
use lib.Ieee.{binary64, of_bits}
use Rattle.math.specs.Carrier.{factorial}
use Rattle.math_series.specs.Fraction.{over, opposite, value}
use Rattle.math_series.specs.Series.{power, alternating, sine_term, cosine_term, sum_of, sine_series, cosine_series}
use Rattle.math_series.proofs.Signed.{◌≈◌}

half : value (of_bits binary64 0x3fe0_0000_0000_0000) ≈ over 1 2 (zero-lt-suc 1)
unfolding value of_bits
half = record { same = refl }

minus_three_quarters : value (of_bits binary64 0xbfe8_0000_0000_0000) ≈ opposite (over 3 4 (zero-lt-suc 3))
unfolding value of_bits
minus_three_quarters = record { same = refl }

sine_of_half : sine_series 2 (over 1 2 (zero-lt-suc 1)) ≈ over 23 48 (zero-lt-suc 47)
unfolding sine_series sum_of sine_term alternating power factorial
sine_of_half = record { same = refl }

cosine_of_half : cosine_series 3 (over 1 2 (zero-lt-suc 1)) ≈ over 337 384 (zero-lt-suc 383)
unfolding cosine_series sum_of cosine_term alternating power factorial
cosine_of_half = record { same = refl }
