-- Delay, start and filter clock error (SPECIFICATION 5.4, 5.5, 6.4), and the clock's phase at a reply's first sample, each operation rounded once in the Rust's order.
use Rattle.std.specs.Prelude.{ℤ, pos, Float}
use Rattle.std.specs.Float.{binary64}
use Rattle.std.specs.Float.Ieee.{of_int, add, sub, mul, div}
use Rattle.floats.specs.Ceil.{ceil_signed}
use Rattle.pulse_shape.specs.GroupDelay.{mode_ac_ratio}
use Rattle.message.specs.declared.ReplyKind.{ReplyKind}
use Rattle.message.specs.declared.ReplyKind.TheVariants.{Short, Long, ModeAc}
use Rattle.message_config.specs.declared.Delays.{Delays}

abbrev pub one : Float
one = of_int binary64 (pos 1)

-- the delay of each kind (SPECIFICATION 5.4)
unfoldable pub delay_of : Delays → ReplyKind → Float
delay_of delays Short = delays.mode_s
delay_of delays Long = delays.mode_s
delay_of delays ModeAc = delays.mode_ac

-- time - delay / (1 + e)
unfoldable pub unrounded_start : Float → Float → Float → Float
unrounded_start time delay e = sub binary64 time (div binary64 delay (add binary64 one e))

-- the start (SPECIFICATION 5.5)
unfoldable pub start_of : Float → Float → Float → ℤ
start_of time delay e = ceil_signed 63 (unrounded_start time delay e)

-- the filter clock error (SPECIFICATION 6.4)
unfoldable pub filter_clock_error : ReplyKind → Float → Float
filter_clock_error Short e = e
filter_clock_error Long e = e
filter_clock_error ModeAc e = sub binary64 (mul binary64 mode_ac_ratio (add binary64 one e)) one

-- how far the first sample lies past the unrounded start, times (1 + the filter's clock error)
unfoldable pub clock_phase : Float → Float → Float → Float → Float
clock_phase time delay e filter_error =
    mul binary64 (sub binary64 (of_int binary64 (start_of time delay e)) (unrounded_start time delay e)) (add binary64 one filter_error)
