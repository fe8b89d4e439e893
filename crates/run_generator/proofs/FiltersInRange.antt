-- What opening gives: delays from 0 to below seven pulses, and distributions in the ranges of SPECIFICATION 4.2 (`FiltersInRange`); settings that are accepted and prototypes with a crossing give them, and at most 2^52 samples (`opened-in-range`).
use Rattle.std.specs.Prelude.{Some, Ok}
use Prim.Native.Nat.{ℕ, ◌-◌, ◌*◌, ◌^◌, ◌≤◌, ◌<◌}
use mathlib.Core.Path.{◌≡◌}
use mathlib.Core.Bool.{true}
use mathlib.Core.List.{List}
use native.Mathlib.Nat.{le_of_eq, le_of_lt}
use lib.Dec.{T}
use lib.ListN.{length}
use lib.Ieee.{Float, binary32, fits, lt}
use Rattle.constants.specs.declared.SamplesPerPulse.{SamplesPerPulse}
use Rattle.constants.specs.Setting.{per_pulse}
use Rattle.constants.specs.Rate.{prototype_length}
use Rattle.constants.proofs.Settings.{rate_pos, rate_few}
use Rattle.float_rounding.proofs.Units.{Units}
use Rattle.pulse_shape.specs.Accepted.{all_within16}
use Rattle.pulse_shape.specs.GroupDelay.{group_delay, mode_ac_group_delay}
use Rattle.pulse_shape.specs.Prototype.{prototype_of, mode_s_prototype, mode_ac_prototype}
use Rattle.pulse_shape.proofs.DelayWithin.{below_7, delay_most, mode_ac_delay_most}
use Rattle.pulse_shape.proofs.Held.{prototype_held}
use Rattle.pulse_shape.proofs.Whole.{length_prototype}
use Rattle.message_config.proofs.InRange.{zero_f, DelayInRange, DelaysInRange}
use Rattle.settings.specs.declared.Settings.{Settings}
use Rattle.settings.specs.declared.Distributions.{Distributions}
use Rattle.settings.specs.Accepted.{accepted_of}
use Rattle.settings.proofs.InRange.{InRange, HeldSettings, accepted_in_range}
use Rattle.run_generator.specs.Instance.{Filters, pulse_samples}

pub record FiltersInRange (f : Filters) : Type 0 where
  pub delays : DelaysInRange (pulse_samples f) f.delays
  pub distributions : InRange (pulse_samples f) f.distributions

-- a prototype's entries less one, at 64 to a sample, are below seven pulses
delay_in_range : (sps : ℕ) → 0 < sps → (d : Float) → (n : ℕ) × Units d n × (n ≤ (prototype_length sps - 1) * 2 ^ 1068) → DelayInRange sps d
delay_in_range sps S d r = record { count = r.0; is = r.1; most = le_of_lt (below_7 sps r.0 S r.2) }

-- the samples per pulse, the settings, the level of the crossing, and the two lowpasses
module _ (setting : SamplesPerPulse) (s : Settings) (H : HeldSettings s) (level : Float) (F : T (fits binary32 level)) (above : T (lt zero_f level)) (mode_s mode_ac : List Float) where
  abbrev sps : ℕ
  sps = per_pulse setting

  -- what is opened: the run's samples, the distributions and the two delays
  module _ (n : ℕ) (all : Distributions) (a b : Float) where
    abbrev pub opened : Filters
    opened = record {
      setting = setting;
      rates = s.rates;
      distributions = all;
      delays = record { mode_s = a; mode_ac = b };
      mode_s = mode_s_prototype sps mode_s;
      mode_ac = mode_ac_prototype sps mode_ac;
    }

    pub opened_in_range :
        accepted_of sps s ≡ Ok (n, all) → all_within16 (mode_s_prototype sps mode_s) ≡ true → all_within16 (mode_ac_prototype sps mode_ac) ≡ true
        → group_delay level (mode_s_prototype sps mode_s) ≡ Some a → mode_ac_group_delay level (mode_ac_prototype sps mode_ac) ≡ Some b
        → FiltersInRange opened × (n ≤ 2 ^ 52)
    opened_in_range e w v g h =
        let r = accepted_in_range sps s H n all e in (
          record {
            delays = record {
              mode_s_lem = delay_in_range sps (rate_pos setting) a (delay_most sps level (mode_s_prototype sps mode_s) a (rate_few setting) F above (prototype_held sps _ mode_s) w (long _ mode_s) g);
              mode_ac_lem = delay_in_range sps (rate_pos setting) b (mode_ac_delay_most sps level (mode_ac_prototype sps mode_ac) b (rate_few setting) F above (prototype_held sps _ mode_ac) v (long _ mode_ac) h);
            };
            distributions = r.1;
          },
          r.0,
        )
      where
        long : (pulse lowpass : List Float) → length (prototype_of sps pulse lowpass) ≤ prototype_length sps
        long pulse lowpass = le_of_eq (length_prototype sps pulse lowpass)
