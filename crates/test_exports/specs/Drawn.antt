-- How a distribution and what it makes of a draw cross to the Rust, as numbers.
use Rattle.std.specs.Prelude.{ℕ, Result, Ok, Err, Float}
use Rattle.refusals.specs.declared.Refusal.{Refusal}
use Rattle.std.specs.Float.{binary64}
use Rattle.std.specs.Float.Ieee.{of_bits, div}
use Rattle.distributions.specs.declared.RawDistribution.{RawDistribution}

unfoldable pub raw_distribution_of : ℕ → Float → Float → RawDistribution
raw_distribution_of k a b = record { kind = k; first = a; second = b }

-- 0.0 / 0.0 stands for a refusal
unfoldable pub no_number : Float
no_number = div binary64 (of_bits binary64 0) (of_bits binary64 0)

-- what a draw becomes by the rule of a distribution that is accepted
unfoldable pub drawn : {D : Type 0} → (D → Float → Float) → Result D Refusal → Float → Float
drawn rule (Ok d) draw = rule d draw
drawn rule (Err q) draw = no_number
