-- The specification's three distributions as the settings ask for them, a kind byte and two numbers each, and which are accepted; an unknown kind, or a parameter out of range, is refusal 4 with the distribution: 0 for the carrier offset, 1 for the phase, 2 for the clock error.
use Rattle.std.specs.Prelude.{Result, Ok, Err, ℕ, zero, suc, Bool, ◌&&◌, cond, pos, Float}
use Rattle.refusals.specs.declared.Refusal.{Refusal}
use Rattle.std.specs.Float.{binary64}
use Rattle.std.specs.Float.Ieee.{of_bits, of_int, le}
use Rattle.std.specs.Float.Ieee.Scale.{finite}
use Rattle.constants.specs.Rate.{largest_offset}
use Rattle.floats.specs.Range.{within}
use Rattle.math.specs.Phase.{phase_wrap}
use Rattle.refusals.specs.declared.Refusal.TheVariants.{Distribution}
use Rattle.distributions.specs.declared.RawDistribution.{RawDistribution}
use Rattle.distributions.specs.declared.CarrierOffset as Offset
use Rattle.distributions.specs.declared.CarrierPhase as Phase
use Rattle.distributions.specs.declared.ClockError as Clock

-- x is from 0 to a limit; -0.0 is not negative, and a NaN is in no range
unfoldable pub up_to : Float → Float → Bool
up_to x limit = le (of_bits binary64 0) x && le x limit

unfoldable pub finite_not_negative : Float → Bool
finite_not_negative x = le (of_bits binary64 0) x && finite x

-- 4,000,000 at 4 samples per pulse, 8,000,000 at 8
unfoldable pub offset_limit : ℕ → Float
offset_limit sps = of_int binary64 (pos (largest_offset sps))

-- the `f64` nearest to 0.1
unfoldable pub tenth : Float
tenth = of_bits binary64 0x3fb9_9999_9999_999a

-- max from 0 to the limit, sigma finite and not negative (SPECIFICATION 4.2)
unfoldable pub clamped_normal : ℕ → Float → Float → Result Offset.CarrierOffset Refusal
clamped_normal sps sigma max =
    cond (finite_not_negative sigma && up_to max (offset_limit sps)) (Ok (Offset.TheVariants.ClampedNormal sigma max))
    (Err (Distribution 0))

-- what kind 0 gives, what kind 1 gives, and what an unknown kind gives
unfoldable pub by_kind : {X : Type 0} → ℕ → X → X → X → X
by_kind zero a b other = a
by_kind (suc zero) a b other = b
by_kind (suc (suc k)) a b other = other

-- distribution 0 (SPECIFICATION 4.2): constant, at most the limit in size; or normal with sigma and max
unfoldable pub carrier_offset : ℕ → RawDistribution → Result Offset.CarrierOffset Refusal
carrier_offset sps d =
    by_kind d.kind (cond (within d.first (offset_limit sps)) (Ok (Offset.TheVariants.Constant d.first)) (Err (Distribution 0)))
    (clamped_normal sps d.first d.second)
    (Err (Distribution 0))

-- distribution 1 (SPECIFICATION 4.2): constant and finite, or uniform. A constant phase is kept wrapped (5.2), as the Rust does.
unfoldable pub carrier_phase : RawDistribution → Result Phase.CarrierPhase Refusal
carrier_phase d =
    by_kind d.kind (cond (finite d.first) (Ok (Phase.TheVariants.Constant (phase_wrap d.first))) (Err (Distribution 1)))
    (Ok Phase.TheVariants.Uniform)
    (Err (Distribution 1))

-- distribution 2 (SPECIFICATION 4.2): constant, at most 0.1 in size; or uniform with a max from 0 to 0.1
unfoldable pub clock_error : RawDistribution → Result Clock.ClockError Refusal
clock_error d =
    by_kind d.kind (cond (within d.first tenth) (Ok (Clock.TheVariants.Constant d.first)) (Err (Distribution 2)))
    (cond (up_to d.first tenth) (Ok (Clock.TheVariants.Uniform d.first)) (Err (Distribution 2)))
    (Err (Distribution 2))
