-- Whole settings: where there are 124 bytes, each number is the one that its bytes stand for, and no 0 past the end is read (`whole`).
use Prim.Native.Nat.{ℕ, ◌+◌, ◌≤◌}
use mathlib.Core.Path.{◌≡◌, ap}
use mathlib.Core.List.{List}
use native.Mathlib.Omega.{arith}
use lib.ListN.{length, get_or}
use lib.Ieee.{Float, binary32, binary64, of_bits}
use Rattle.le_read.specs.LeBytes.{le_at}
use Rattle.le_read.specs.FloatReads.{f64_at}
use Rattle.distributions.specs.declared.RawDistribution.{RawDistribution}
use Rattle.settings.specs.declared.MessagesPerSecond.{MessagesPerSecond}
use Rattle.settings.specs.declared.Settings.{Settings}
use Rattle.settings.specs.Settings.{settings_length, rates_at, raw_distribution_at, settings_of}
use Rattle.settings.proofs.Inside.{number_there}

-- the float that eight bytes stand for
abbrev pub float : List ℕ → ℕ → Float
float s at = of_bits binary64 (le_at 8 s at)

pub float_there : (s : List ℕ) (at : ℕ) → at + 8 ≤ length s → f64_at s at ≡ float s at
float_there s at h = ap (of_bits binary64) (number_there 8 s at h)

abbrev pub whole_rates : List ℕ → ℕ → MessagesPerSecond
whole_rates s at = record {
  extended_squitter = float s at;
  acquisition_squitter = float s (at + 8);
  short_ap = float s (at + 16);
  all_call_reply = float s (at + 24);
  long_ap = float s (at + 32);
  military_extended_squitter = float s (at + 40);
  mode_ac = float s (at + 48);
}

rates_there : (s : List ℕ) (at : ℕ) → at + 56 ≤ length s → rates_at s at ≡ whole_rates s at
unfolding rates_at
rates_there s at h = λ i. record {
  extended_squitter = float_there s at (omega arith) i;
  acquisition_squitter = float_there s (at + 8) (omega arith) i;
  short_ap = float_there s (at + 16) (omega arith) i;
  all_call_reply = float_there s (at + 24) (omega arith) i;
  long_ap = float_there s (at + 32) (omega arith) i;
  military_extended_squitter = float_there s (at + 40) (omega arith) i;
  mode_ac = float_there s (at + 48) (omega arith) i;
}

abbrev pub whole_asked : List ℕ → ℕ → RawDistribution
whole_asked s at = record { kind = get_or s at 0; first = float s (at + 1); second = float s (at + 9) }

asked_there : (s : List ℕ) (at : ℕ) → at + 17 ≤ length s → raw_distribution_at s at ≡ whole_asked s at
unfolding raw_distribution_at
asked_there s at h = λ i. record { kind = get_or s at 0; first = float_there s (at + 1) (omega arith) i; second = float_there s (at + 9) (omega arith) i }

-- the settings read from 124 bytes or more, with nothing read past their end
abbrev pub whole_settings : List ℕ → Settings
whole_settings s = record {
  seconds = le_at 8 s 0;
  nanoseconds = le_at 4 s 8;
  rates = whole_rates s 12;
  carrier = whole_asked s 68;
  phase = whole_asked s 85;
  clock = whole_asked s 102;
  trigger_level = of_bits binary32 (le_at 4 s 119);
}

pub whole : (s : List ℕ) → settings_length ≤ length s → settings_of s ≡ whole_settings s
unfolding settings_of
whole s h = λ i. record {
  seconds = number_there 8 s 0 (omega arith) i;
  nanoseconds = number_there 4 s 8 (omega arith) i;
  rates = rates_there s 12 (omega arith) i;
  carrier = asked_there s 68 (omega arith) i;
  phase = asked_there s 85 (omega arith) i;
  clock = asked_there s 102 (omega arith) i;
  trigger_level = ap (of_bits binary32) (number_there 4 s 119 (omega arith)) i;
}
