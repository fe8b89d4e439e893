-- The sine and cosine series of a fraction, cut after a number of terms, as fractions.
use Rattle.std.specs.Prelude.{ℕ, zero, suc, ◌+◌, ◌*◌, ◌<◌}
use Rattle.std.proofs.Common.{mul-pos, zero-lt-suc}
use Rattle.math.specs.Carrier.{factorial}
use Rattle.math_series.specs.Fraction.{Fraction, over, nought, one, opposite, ◌⊕◌, ◌⊗◌}

-- x^n
unfoldable pub power : Fraction → ℕ → Fraction
power x zero = one
power x (suc n) = power x n ⊗ x

-- (-1)^n times x
unfoldable pub alternating : ℕ → Fraction → Fraction
alternating zero x = x
alternating (suc n) x = opposite (alternating n x)

pub factorial_pos : (n : ℕ) → 0 < factorial n
unfolding factorial
factorial_pos zero = zero-lt-suc 0
factorial_pos (suc n) = mul-pos (zero-lt-suc n) (factorial_pos n)

-- 1/n!
abbrev pub inverse_factorial : ℕ → Fraction
inverse_factorial n = over 1 (factorial n) (factorial_pos n)

-- (-1)^n x^(2n+1)/(2n+1)!, and (-1)^n x^(2n)/(2n)!
unfoldable pub sine_term : Fraction → ℕ → Fraction
sine_term x n = alternating n (power x (2 * n + 1) ⊗ inverse_factorial (2 * n + 1))

unfoldable pub cosine_term : Fraction → ℕ → Fraction
cosine_term x n = alternating n (power x (2 * n) ⊗ inverse_factorial (2 * n))

-- terms 0 to N - 1
unfoldable pub sum_of : (ℕ → Fraction) → ℕ → Fraction
sum_of term zero = nought
sum_of term (suc N) = sum_of term N ⊕ term N

-- the two series of x, cut after N terms
unfoldable pub sine_series : ℕ → Fraction → Fraction
sine_series N x = sum_of (sine_term x) N

unfoldable pub cosine_series : ℕ → Fraction → Fraction
cosine_series N x = sum_of (cosine_term x) N
