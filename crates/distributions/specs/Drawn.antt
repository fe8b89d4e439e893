-- What a draw becomes under each distribution, and the range of its draw (SPECIFICATION 4.4, 5.2). Draws of constant distributions are ignored.
use Rattle.std.specs.Prelude.{Bool, true, ◌&&◌, cond, Float}
use Rattle.std.specs.Float.{binary64}
use Rattle.std.specs.Float.Ieee.{mul, neg, lt, le}
use Rattle.std.specs.Float.Ieee.Scale.{finite}
use Rattle.floats.specs.Range.{within}
use Rattle.math.specs.Phase.{pi}
use Rattle.distributions.specs.declared.CarrierOffset as Offset
use Rattle.distributions.specs.declared.CarrierPhase as Phase
use Rattle.distributions.specs.declared.ClockError as Clock

-- Rust's `x.clamp(-max, max)`
unfoldable pub clamped : Float → Float → Float
clamped x max = cond (lt x (neg max)) (neg max) (cond (lt max x) max x)

-- the carrier offset: the constant, or the draw times sigma, clamped
unfoldable pub offset_of : Offset.CarrierOffset → Float → Float
offset_of (Offset.TheVariants.Constant x) draw = x
offset_of (Offset.TheVariants.ClampedNormal sigma max) draw = clamped (mul binary64 draw sigma) max

-- the carrier phase: the constant, or the draw
unfoldable pub phase_of : Phase.CarrierPhase → Float → Float
phase_of (Phase.TheVariants.Constant x) draw = x
phase_of Phase.TheVariants.Uniform draw = draw

-- the clock error: the constant, or the draw
unfoldable pub error_of : Clock.ClockError → Float → Float
error_of (Clock.TheVariants.Constant x) draw = x
error_of (Clock.TheVariants.Uniform max) draw = draw

-- field 4 (SPECIFICATION 4.4): finite
unfoldable pub offset_draw_fits : Offset.CarrierOffset → Float → Bool
offset_draw_fits (Offset.TheVariants.Constant x) draw = true
offset_draw_fits (Offset.TheVariants.ClampedNormal sigma max) draw = finite draw

unfoldable pub from_minus_pi_below_pi : Float → Bool
from_minus_pi_below_pi x = le (neg pi) x && lt x pi

-- field 5 (SPECIFICATION 4.4): from -PI to below PI
unfoldable pub phase_draw_fits : Phase.CarrierPhase → Float → Bool
phase_draw_fits (Phase.TheVariants.Constant x) draw = true
phase_draw_fits Phase.TheVariants.Uniform draw = from_minus_pi_below_pi draw

-- field 6 (SPECIFICATION 4.4): at most max in size
unfoldable pub clock_draw_fits : Clock.ClockError → Float → Bool
clock_draw_fits (Clock.TheVariants.Constant x) draw = true
clock_draw_fits (Clock.TheVariants.Uniform max) draw = within draw max
