-- How a crossing crosses to the Rust, as a number.
use Rattle.std.specs.Prelude.{Option, Some, None}
use Rattle.std.specs.Prelude.{Float}
use Rattle.std.specs.Float.{binary64}
use Rattle.std.specs.Float.Ieee.{of_bits, neg}

-- the delay, which is never negative, or -1.0 where nothing crosses
unfoldable pub delay_number : (Option Float) → Float
delay_number (Some d) = d
delay_number None = neg (of_bits binary64 0x3ff0_0000_0000_0000)
