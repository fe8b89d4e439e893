-- Refusal 7 (SPECIFICATION 4.4): the first field of a draw that is out of range, and the first draw with one. Fields are counted from 0 in tape order, the 14 bytes being one.
use Rattle.std.specs.Prelude.{Option, Some, None, ℕ, zero, suc, ◌/◌, Bool, true, ◌&&◌, cond, List, eqb, length, drop, Float}
use Rattle.message.specs.declared.MessageType.{MessageType}
use Rattle.std.specs.Float.{binary32, binary64}
use Rattle.std.specs.Float.Ieee.{of_bits, le, lt}
use Rattle.std.specs.Float.Ieee.Scale.{finite}
use Rattle.floats.specs.Range.{within}
use Rattle.distributions.specs.Accepted.{finite_not_negative, tenth}
use Rattle.distributions.specs.Drawn.{error_of, offset_draw_fits, phase_draw_fits, clock_draw_fits}
use Rattle.message.specs.declared.ReplyKind.TheVariants.{ModeAc}
use Rattle.message.specs.Types.{type_numbered}
use Rattle.message.specs.Making.{checked, field_fault}
use Rattle.message_config.specs.Timing.{filter_clock_error}
use Rattle.settings.specs.declared.Distributions.{Distributions}
use Rattle.settings.specs.declared.MessagesPerSecond.{MessagesPerSecond}
use Rattle.settings.specs.Settings.{rate_of}
use Rattle.draw.specs.declared.Draw.{Draw}
use Rattle.draw.specs.Draw.{draw_length, draw_at}

-- field 1 (SPECIFICATION 4.4): a type from 0 to 6, with its rate above 0
unfoldable pub type_fits : MessagesPerSecond → ℕ → Bool
type_fits rates n = lt (of_bits binary64 0) (rate_of rates n)

-- field 3 (SPECIFICATION 4.4): from 0 to 2^20
unfoldable pub amplitude_fits : Float → Bool
amplitude_fits a = le (of_bits binary32 0) a && le a (of_bits binary32 0x4980_0000)

-- SPECIFICATION 4.4: the filter clock error is at most 0.1 in size; for Mode S it is e itself, which a clock draw in range holds within 0.1
unfoldable pub mode_ac_limit : ℕ → Float → Bool
mode_ac_limit kind e = cond (eqb kind 6) (within (filter_clock_error ModeAc e) tenth) true

-- field 6 (SPECIFICATION 4.4): at most max in size; the Mode A/C limit on e is reported as the clock draw
unfoldable pub clock_fits : Distributions → ℕ → Float → Bool
clock_fits all kind draw = clock_draw_fits all.clock draw && mode_ac_limit kind (error_of all.clock draw)

-- fields 7 to 12
unfoldable pub message_fault : Option MessageType → Draw → Option ℕ
message_fault (Some t) d = field_fault t d.picks
message_fault None d = None

-- fields 4 to 12
unfoldable pub parameter_fault : Distributions → Draw → Option ℕ
parameter_fault all d =
    checked 4 (offset_draw_fits all.carrier d.carrier)
    (checked 5 (phase_draw_fits all.phase d.phase)
    (checked 6 (clock_fits all d.kind d.clock) (message_fault (type_numbered d.kind) d)))

-- the first field at fault. A type that is none has no rate above 0, so it is at fault at field 1
unfoldable pub draw_fault : MessagesPerSecond → Distributions → Draw → Option ℕ
draw_fault rates all d =
    checked 0 (finite_not_negative d.gap)
    (checked 1 (type_fits rates d.kind)
    (checked 2 (finite d.cn0)
    (checked 3 (amplitude_fits d.amplitude) (parameter_fault all d))))

-- what a draw's fault makes of the answer: its index among the draws and its field, or what comes of the later draws
unfoldable pub fault_at : ℕ → Option ℕ → Option (ℕ × ℕ) → Option (ℕ × ℕ)
fault_at k None rest = rest
fault_at k (Some field) rest = Some (k, field)

-- the first fault of n draws, the first standing at index k
unfoldable pub fault_from : MessagesPerSecond → Distributions → ℕ → ℕ → List ℕ → Option (ℕ × ℕ)
fault_from rates all zero k s = None
fault_from rates all (suc n) k s = fault_at k (draw_fault rates all (draw_at s)) (fault_from rates all n (suc k) (drop draw_length s))

-- of all draws in the bytes
unfoldable pub first_fault : MessagesPerSecond → Distributions → List ℕ → Option (ℕ × ℕ)
first_fault rates all s = fault_from rates all (length s / draw_length) 0 s
