-- A run's state as C has it, plain numbers: out of a state and back into one. Any numbers whatever are read as a state.
use Rattle.std.specs.Prelude.{ℕ, cond, not, eqb, Float}
use Rattle.std.specs.Float.{binary64}
use Rattle.std.specs.Float.Ieee.{of_bits}
use Rattle.constants.specs.Setting.{per_pulse, setting_from}
use Rattle.distributions.specs.declared.CarrierOffset as Carrier
use Rattle.distributions.specs.declared.CarrierPhase as Phase
use Rattle.distributions.specs.declared.ClockError as Clock
use Rattle.settings.specs.declared.MessagesPerSecond.{MessagesPerSecond}
use Rattle.run_call.specs.declared.State.{State}
use Rattle.more1090_generator.specs.declared.FlatDistribution.{FlatDistribution}
use Rattle.more1090_generator.specs.declared.FlatRates.{FlatRates}
use Rattle.more1090_generator.specs.declared.FlatState.{FlatState}

abbrev pub zero64 : Float
zero64 = of_bits binary64 0

-- the settings' kinds: 0 for a constant, 1 for the other; a number that a kind does not use is 0.0
unfoldable pub distribution_of : ℕ → Float → Float → FlatDistribution
distribution_of kind first second = record { kind = kind; first = first; second = second }

unfoldable pub carrier_flat : Carrier.CarrierOffset → FlatDistribution
carrier_flat (Carrier.TheVariants.Constant x) = distribution_of 0 x zero64
carrier_flat (Carrier.TheVariants.ClampedNormal sigma max) = distribution_of 1 sigma max

unfoldable pub phase_flat : Phase.CarrierPhase → FlatDistribution
phase_flat (Phase.TheVariants.Constant x) = distribution_of 0 x zero64
phase_flat Phase.TheVariants.Uniform = distribution_of 1 zero64 zero64

unfoldable pub clock_flat : Clock.ClockError → FlatDistribution
clock_flat (Clock.TheVariants.Constant x) = distribution_of 0 x zero64
clock_flat (Clock.TheVariants.Uniform max) = distribution_of 1 max zero64

-- back: kind 0 is a constant, any other number the other
unfoldable pub carrier_from : FlatDistribution → Carrier.CarrierOffset
carrier_from f = cond (eqb f.kind 0) (Carrier.TheVariants.Constant f.first) (Carrier.TheVariants.ClampedNormal f.first f.second)

unfoldable pub phase_from : FlatDistribution → Phase.CarrierPhase
phase_from f = cond (eqb f.kind 0) (Phase.TheVariants.Constant f.first) Phase.TheVariants.Uniform

unfoldable pub clock_from : FlatDistribution → Clock.ClockError
clock_from f = cond (eqb f.kind 0) (Clock.TheVariants.Constant f.first) (Clock.TheVariants.Uniform f.first)

unfoldable pub rates_flat : MessagesPerSecond → FlatRates
rates_flat r = record {
  extended_squitter = r.extended_squitter;
  acquisition_squitter = r.acquisition_squitter;
  short_ap = r.short_ap;
  all_call_reply = r.all_call_reply;
  long_ap = r.long_ap;
  military_extended_squitter = r.military_extended_squitter;
  mode_ac = r.mode_ac;
}

unfoldable pub rates_from : FlatRates → MessagesPerSecond
rates_from f = record {
  extended_squitter = f.extended_squitter;
  acquisition_squitter = f.acquisition_squitter;
  short_ap = f.short_ap;
  all_call_reply = f.all_call_reply;
  long_ap = f.long_ap;
  military_extended_squitter = f.military_extended_squitter;
  mode_ac = f.mode_ac;
}

unfoldable pub flat_of : State → FlatState
flat_of s = record {
  written = s.written;
  total = s.total;
  time = s.time;
  latest = s.latest;
  rates = rates_flat s.rates;
  mode_s_delay = s.delays.mode_s;
  mode_ac_delay = s.delays.mode_ac;
  carrier = carrier_flat s.distributions.carrier;
  phase = phase_flat s.distributions.phase;
  clock = clock_flat s.distributions.clock;
  ended = cond s.ended 1 0;
  samples_per_pulse = per_pulse s.setting;
}

-- back: a number of samples per pulse other than 8 is read as 4, and a run has ended where the number is not 0
unfoldable pub state_from : FlatState → State
state_from f = record {
  written = f.written;
  total = f.total;
  time = f.time;
  latest = f.latest;
  ended = not (eqb f.ended 0);
  rates = rates_from f.rates;
  delays = record { mode_s = f.mode_s_delay; mode_ac = f.mode_ac_delay };
  distributions = record { carrier = carrier_from f.carrier; phase = phase_from f.phase; clock = clock_from f.clock };
  setting = setting_from f.samples_per_pulse;
}

-- where opening is refused: all zero
unfoldable pub no_rates : FlatRates
no_rates = record {
  extended_squitter = zero64;
  acquisition_squitter = zero64;
  short_ap = zero64;
  all_call_reply = zero64;
  long_ap = zero64;
  military_extended_squitter = zero64;
  mode_ac = zero64;
}

unfoldable pub no_state : FlatState
no_state = record {
  written = 0;
  total = 0;
  time = zero64;
  latest = zero64;
  rates = no_rates;
  mode_s_delay = zero64;
  mode_ac_delay = zero64;
  carrier = distribution_of 0 zero64 zero64;
  phase = distribution_of 0 zero64 zero64;
  clock = distribution_of 0 zero64 zero64;
  ended = 0;
  samples_per_pulse = 0;
}
