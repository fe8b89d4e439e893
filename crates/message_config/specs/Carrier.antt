-- The carrier of a reply: what it rotates by in a sample, and its phase at the first sample, so that it has the drawn phase at the reply's time.
use Rattle.std.specs.Prelude.{ℕ, ℤ, pos, Float}
use Rattle.std.specs.Float.{binary64}
use Rattle.std.specs.Float.Ieee.{of_int, sub, mul, div}
use Rattle.constants.specs.Rate.{sample_rate}
use Rattle.math.specs.Phase.{two_pi, phase_wrap}

-- 2.0 * PI * offset / samples a second, which are 8,000,000.0 at 4 samples per pulse and 16,000,000.0 at 8
unfoldable pub carrier_rate : ℕ → Float → Float
carrier_rate sps offset = div binary64 (mul binary64 two_pi offset) (of_int binary64 (pos (sample_rate sps)))

-- the wrapped phase - (time - first) * rate
unfoldable pub first_phase : Float → Float → ℤ → Float → Float
first_phase phase time first rate = phase_wrap (sub binary64 phase (mul binary64 (sub binary64 time (of_int binary64 first)) rate))
