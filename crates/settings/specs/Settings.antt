-- Settings, read from their 124 bytes (SPECIFICATION 4.1): all but the samples per pulse, which `setting_at` of Accepted has.
use Rattle.std.specs.Prelude.{ℕ, ◌+◌, List, [], ◌∷◌, get_or, Float}
use Rattle.std.specs.Float.{binary32, binary64}
use Rattle.std.specs.Float.Ieee.{of_bits}
use Rattle.le_read.specs.LeBytes.{number_at}
use Rattle.le_read.specs.FloatReads.{f64_at}
use Rattle.distributions.specs.declared.RawDistribution.{RawDistribution}
use Rattle.settings.specs.declared.MessagesPerSecond.{MessagesPerSecond}
use Rattle.settings.specs.declared.Settings.{Settings}

-- the bytes of settings
abbrev pub settings_length : ℕ
settings_length = 124

unfoldable pub rates_at : List ℕ → ℕ → MessagesPerSecond
rates_at s at = record {
  extended_squitter = f64_at s at;
  acquisition_squitter = f64_at s (at + 8);
  short_ap = f64_at s (at + 16);
  all_call_reply = f64_at s (at + 24);
  long_ap = f64_at s (at + 32);
  military_extended_squitter = f64_at s (at + 40);
  mode_ac = f64_at s (at + 48);
}

unfoldable pub raw_distribution_at : List ℕ → ℕ → RawDistribution
raw_distribution_at s at = record { kind = get_or s at 0; first = f64_at s (at + 1); second = f64_at s (at + 9) }

-- the settings at the start of bytes, of which there are 124 or more (fewer are refused before they are read)
unfoldable pub settings_of : List ℕ → Settings
settings_of s = record {
  seconds = number_at 8 s 0;
  nanoseconds = number_at 4 s 8;
  rates = rates_at s 12;
  carrier = raw_distribution_at s 68;
  phase = raw_distribution_at s 85;
  clock = raw_distribution_at s 102;
  trigger_level = of_bits binary32 (number_at 4 s 119);
}

-- the rates in the order of the types
unfoldable pub rates_of : MessagesPerSecond → List Float
rates_of r =
    r.extended_squitter
    ∷ r.acquisition_squitter
    ∷ r.short_ap
    ∷ r.all_call_reply
    ∷ r.long_ap
    ∷ r.military_extended_squitter
    ∷ r.mode_ac
    ∷ []

-- the rate of the type with a number; 0.0 for a number that no type has
unfoldable pub rate_of : MessagesPerSecond → ℕ → Float
rate_of r n = get_or (rates_of r) n (of_bits binary64 0)
