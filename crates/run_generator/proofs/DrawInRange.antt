-- What the theory of calls takes from a draw in range: a gap that does not take a time back (`gap_of`), and a clock error and filter clock error within 0.1 in size, of the kind drawn (`error-of`) and of the message's (`message-error`).
use Rattle.std.specs.Prelude.{Some}
use mathlib.Core.Path.{refl}
use mathlib.Core.Logic.{◌≢◌}
use lib.Dec.{T}
use lib.Ieee.{Float, binary64, fits}
use Rattle.distributions.specs.Drawn.{error_of}
use Rattle.distributions.specs.declared.ClockError as Clock
use Rattle.message_config.proofs.InRange.{ErrorInRange}
use Rattle.settings.specs.declared.Distributions.{Distributions}
use Rattle.settings.specs.declared.MessagesPerSecond.{MessagesPerSecond}
use Rattle.settings.proofs.InRange.{ClockInRange}
use Rattle.draw.specs.declared.Draw.{Draw}
use Rattle.draw.specs.Fault.{draw_fault}
use Rattle.draw.specs.Config.{kind_drawn, error_drawn, config_with, config_of}
use Rattle.draw.proofs.InRange.{InRange, gap_in_range}
use Rattle.draw.proofs.NotNegative.{NotNegative, plus, minus_zero_lem, not_negative}
use Rattle.draw.proofs.ClockLimit.{drawn_within, filter_within}
use Rattle.run_theory.proofs.Times.{Gap}

-- ---- the gap
gap_at : (x : Float) → NotNegative x → Gap x
gap_at _ (plus m e) = tt
gap_at _ (minus_zero_lem e) = refl

pub gap_of : (rates : MessagesPerSecond) (all : Distributions) (d : Draw) → draw_fault rates all d ≢ Some 0 → Gap d.gap
gap_of rates all d h = gap_at d.gap (not_negative d.gap (gap_in_range rates all d h))

-- ---- the clock error
error_held : (c : Clock.ClockError) (x : Float) → ClockInRange c → T (fits binary64 x) → T (fits binary64 (error_of c x))
unfolding error_of
error_held (Clock.TheVariants.Constant e) x r X = r.0
error_held (Clock.TheVariants.Uniform max) x r X = X

module _ (rates : MessagesPerSecond) (all : Distributions) (C : ClockInRange all.clock) (d : Draw) (H : T (fits binary64 d.clock)) (r : InRange rates all d) where
  pub error_of_lem : ErrorInRange (kind_drawn d) (error_drawn all d)
  unfolding error_drawn
  error_of_lem = record { fit = error_held all.clock d.clock C H; small = drawn_within rates all d r C H; filter_small = filter_within rates all d r C H }

  pub message_error : (time : Float) → ErrorInRange (config_of all time d).reply.kind (config_of all time d).error
  unfolding config_of config_with
  message_error time = error_of_lem
