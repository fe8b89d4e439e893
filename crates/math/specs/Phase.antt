-- The two phase wraps of math.rs, each operation rounded once in the Rust's order, for every `f64`.
use Rattle.std.specs.Prelude.{cond, from_bits, Float}
use Rattle.std.specs.Float.{binary64}
use Rattle.std.specs.Float.Ieee.{add, sub, neg, rem, lt, le}
unfoldable pub use Rattle.float_remainder.specs.Turn.{two_pi}

-- The `f64` nearest to π: Rust's `std::f64::consts::PI`.
unfoldable pub pi : Float
pi = from_bits binary64 0x4009_21fb_5444_2d18

-- Rust's `x.rem_euclid(m)` for an m above 0: the remainder has the sign of x, and m is added to a negative one.
unfoldable pub rem_euclid : Float → Float → Float
rem_euclid x m = cond (lt (rem binary64 x m) (from_bits binary64 0)) (add binary64 (rem binary64 x m) m) (rem binary64 x m)

-- `phase_wrap_f64`: (x + PI).rem_euclid(2.0 * PI) - PI
unfoldable pub phase_wrap : Float → Float
phase_wrap x = sub binary64 (rem_euclid (add binary64 x pi) two_pi) pi

-- `phase_wrap_once_f64`: a phase of PI or more less 2.0 * PI, one below -PI plus 2.0 * PI, any other as it is
unfoldable pub phase_wrap_once : Float → Float
phase_wrap_once x = cond (le pi x) (sub binary64 x two_pi) (cond (lt x (neg pi)) (add binary64 x two_pi) x)
