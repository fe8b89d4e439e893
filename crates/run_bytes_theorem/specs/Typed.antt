-- What a run in a program has by the types of its parts: numbers below 2^64, values of f64 and of f32, sixteen delays and sixteen gains.
use Rattle.std.specs.Prelude.{T, Option, Some, None, List, [], ◌∷◌, ℕ, ◌^◌, ◌<◌, ◌≡◌, Float, length}
use Rattle.std.specs.Float.{Format, binary32, binary64}
use Rattle.std.specs.Float.Ieee.{fits}
use Rattle.distributions.specs.declared.CarrierOffset as Carrier
use Rattle.distributions.specs.declared.CarrierPhase as Phase
use Rattle.distributions.specs.declared.ClockError as Clock
use Rattle.rack.specs.declared.Rack.{Rack}
use Rattle.run_theory.specs.Each.{Each}
use Rattle.run_call.specs.declared.State.{State}
use Rattle.run_bytes.specs.Layout.{Held}

abbrev pub Word : ℕ → Type 0
Word n = n < 2 ^ 64

abbrev pub ValueOf : Format → Float → Type 0
ValueOf f x = T (fits f x)

abbrev pub carrier_floats : Carrier.CarrierOffset → List Float
carrier_floats (Carrier.TheVariants.Constant x) = x ∷ []
carrier_floats (Carrier.TheVariants.ClampedNormal sigma max) = sigma ∷ max ∷ []

abbrev pub phase_floats : Phase.CarrierPhase → List Float
phase_floats (Phase.TheVariants.Constant x) = x ∷ []
phase_floats Phase.TheVariants.Uniform = []

abbrev pub clock_floats : Clock.ClockError → List Float
clock_floats (Clock.TheVariants.Constant x) = x ∷ []
clock_floats (Clock.TheVariants.Uniform max) = max ∷ []

abbrev pub AllOf : Format → List Float → Type 0
AllOf f xs = Each (ValueOf f) xs

pub record TypedState (s : State) : Type 0 where
  pub written : Word s.written
  pub total : Word s.total
  pub times : AllOf binary64 (s.time ∷ s.latest ∷ [])
  pub rates : AllOf binary64 (s.rates.extended_squitter ∷ s.rates.acquisition_squitter ∷ s.rates.short_ap ∷ s.rates.all_call_reply ∷ s.rates.long_ap ∷ s.rates.military_extended_squitter ∷ s.rates.mode_ac ∷ [])
  pub delays : AllOf binary64 (s.delays.mode_s ∷ s.delays.mode_ac ∷ [])
  pub carrier : AllOf binary64 (carrier_floats s.distributions.carrier)
  pub phase : AllOf binary64 (phase_floats s.distributions.phase)
  pub clock : AllOf binary64 (clock_floats s.distributions.clock)

pub record TypedRack (r : Rack) : Type 0 where
  pub feeds : Word r.feeds
  pub seen : Word r.seen
  pub delays : (length r.delays ≡ 16) × Each Word r.delays
  pub gains : (length r.gains ≡ 16) × AllOf binary32 r.gains

abbrev pub TypedAny : Option Rack → Type 0
TypedAny None = Unit {0}
TypedAny (Some r) = TypedRack r

pub record Typed (h : Held) : Type 0 where
  pub state : TypedState h.state
  pub mode_s : AllOf binary32 h.mode_s
  pub mode_ac : AllOf binary32 h.mode_ac
  pub memory : AllOf binary32 h.memory
  pub rack : TypedAny h.rack
  pub rack_memory : AllOf binary32 h.rack_memory
