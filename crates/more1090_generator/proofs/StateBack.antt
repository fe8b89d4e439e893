-- A state taken out to C's numbers and back is the state: nothing of it is lost (`state_back`).
use mathlib.Core.Path.{◌≡◌, refl}
use mathlib.Core.Bool.{Bool, true, false, cond, not}
use lib.Dec.{eqb}
use Rattle.constants.proofs.Settings.{setting_back}
use Rattle.distributions.specs.declared.CarrierOffset as Carrier
use Rattle.distributions.specs.declared.CarrierPhase as Phase
use Rattle.distributions.specs.declared.ClockError as Clock
use Rattle.run_call.specs.declared.State.{State}
use Rattle.more1090_generator.specs.States.{distribution_of, carrier_flat, phase_flat, clock_flat, carrier_from, phase_from, clock_from, rates_flat, rates_from, flat_of, state_from}

carrier_back : (d : Carrier.CarrierOffset) → carrier_from (carrier_flat d) ≡ d
unfolding carrier_from carrier_flat distribution_of
carrier_back (Carrier.TheVariants.Constant x) = refl
carrier_back (Carrier.TheVariants.ClampedNormal sigma max) = refl

phase_back : (d : Phase.CarrierPhase) → phase_from (phase_flat d) ≡ d
unfolding phase_from phase_flat distribution_of
phase_back (Phase.TheVariants.Constant x) = refl
phase_back Phase.TheVariants.Uniform = refl

clock_back : (d : Clock.ClockError) → clock_from (clock_flat d) ≡ d
unfolding clock_from clock_flat distribution_of
clock_back (Clock.TheVariants.Constant x) = refl
clock_back (Clock.TheVariants.Uniform max) = refl

ended_back : (b : Bool) → not (eqb (cond b 1 0) 0) ≡ b
ended_back true = refl
ended_back false = refl

pub state_back : (s : State) → state_from (flat_of s) ≡ s
unfolding state_from flat_of rates_from rates_flat
state_back s = λ i. record {
  written = s.written;
  total = s.total;
  time = s.time;
  latest = s.latest;
  ended = ended_back s.ended i;
  rates = s.rates;
  delays = s.delays;
  distributions = record { carrier = carrier_back s.distributions.carrier i; phase = phase_back s.distributions.phase i; clock = clock_back s.distributions.clock i };
  setting = setting_back s.setting i;
}
