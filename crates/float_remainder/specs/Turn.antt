-- A turn, 2 PI, and what is left of a number once another is taken off.
use Rattle.std.specs.Prelude.{cond, from_bits, Float}
use Rattle.std.specs.Float.{binary64}
use Rattle.std.specs.Float.Ieee.{sub, le}

-- The `f64` nearest to 2 PI, Rust's `std::f64::consts::TAU`. It is 2.0 * PI: `two_pi_is` of `math/proofs/Literals`.
unfoldable pub two_pi : Float
two_pi = from_bits binary64 0x4019_21fb_5444_2d18

-- r less t where t is at most r, else r
unfoldable pub taken : Float → Float → Float
taken r t = cond (le t r) (cond (le r t) (from_bits binary64 0) (sub binary64 r t)) r
