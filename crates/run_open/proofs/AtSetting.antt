-- Opening at the setting of the settings' bytes, with no buffers lent. A run that opens so has its filters in range and at most 2^52 samples, as one that is opened with buffers of its lengths (`opened_at_in_range`).
use Rattle.std.specs.Prelude.{Ok}
use Prim.Native.Nat.{ℕ, ◌^◌, ◌≤◌}
use mathlib.Core.Path.{◌≡◌}
use mathlib.Core.List.{List}
use lib.ListN.{length-replicate}
use lib.Ieee.{Float}
use Rattle.constants.specs.Rate.{prototype_length, working_memory}
use Rattle.constants.specs.Setting.{per_pulse}
use Rattle.constants.specs.declared.SamplesPerPulse.{SamplesPerPulse}
use Rattle.pulse_shape.specs.Prototype.{mode_s_prototype, mode_ac_prototype}
use Rattle.settings.specs.Accepted.{setting_at}
use Rattle.run_theory.specs.FloatGenerator.{nought}
use Rattle.run_theory.specs.Zeros.{zeros}
use Rattle.run_generator.proofs.FiltersInRange.{FiltersInRange}
use Rattle.run_call.specs.declared.State.{State}
use Rattle.run_call.specs.StateGenerator.{filters_of}
use Rattle.run_open.specs.FirstCause.{BuffersFit}
use Rattle.run_open.specs.Opening.{OpenBuffers, opened_at}
use Rattle.run_open.proofs.OpenedSetting.{opens_at_setting}
use Rattle.run_open.proofs.WhatIsOpened.{opened_run_in_range}

module _ (z : SamplesPerPulse) where
  blank : OpenBuffers
  blank = record { mode_s = zeros (prototype_length (per_pulse z)); mode_ac = zeros (prototype_length (per_pulse z)); memory = zeros (working_memory (per_pulse z)) }

  blank_fits : BuffersFit z blank
  unfolding blank
  blank_fits = record { mode_s_is = length-replicate _ nought; mode_ac_is = length-replicate _ nought; memory_is = length-replicate _ nought }

module _ (taps_s taps_ac : List Float) where
  pub opened_at_in_range : (bytes : List ℕ) (z : SamplesPerPulse) (s : State) → setting_at bytes ≡ Ok z → opened_at taps_s taps_ac bytes z ≡ Ok s
      → FiltersInRange (filters_of s (mode_s_prototype (per_pulse s.setting) taps_s) (mode_ac_prototype (per_pulse s.setting) taps_ac)) × (s.total ≤ 2 ^ 52)
  opened_at_in_range bytes z s b o = opened_run_in_range taps_s taps_ac bytes (blank z) s (opens_at_setting taps_s taps_ac bytes (blank z) s z b (blank_fits z) o)
