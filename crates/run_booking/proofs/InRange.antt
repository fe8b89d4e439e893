-- A run that a booking opens has at most 2^52 samples.
use Rattle.std.specs.Prelude.{Result, Ok}
use Prim.Native.Nat.{ℕ, ◌^◌, ◌≤◌}
use mathlib.Core.Path.{◌≡◌, sym, ap, ◌∙◌}
use mathlib.Core.List.{List}
use lib.Ieee.{Float}
use Rattle.constants.specs.declared.SamplesPerPulse.{SamplesPerPulse}
use Rattle.refusals.specs.declared.Refusal.{Refusal}
use Rattle.settings.specs.Accepted.{setting_at}
use Rattle.run_open.specs.declared.Prepared.{Prepared}
use Rattle.run_open.specs.Opening.{opened_at, with_prototypes, prepared_read}
use Rattle.run_open.proofs.AtSetting.{opened_at_in_range}
use Rattle.run_open.proofs.OpenedAs.{opened_as}

module _ (setting : SamplesPerPulse) (taps_s taps_ac : List Float) (settings : List ℕ) (r : Result Prepared Refusal) (p : Prepared) where
  pub few_samples : r ≡ Ok p → prepared_read r ≡ with_prototypes taps_s taps_ac (opened_at taps_s taps_ac settings setting) → setting_at settings ≡ Ok setting → p.state.total ≤ 2 ^ 52
  few_samples k e b = (opened_at_in_range taps_s taps_ac settings setting p.state b (opened_as taps_s taps_ac _ p (sym (ap prepared_read k) ∙ e)).opens).1
