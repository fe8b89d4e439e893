-- Two openings alike in settings and filters, whatever buffers they are given, open the same run: the same state, the same prototypes, the same working memory (`same-run`).
use Rattle.std.specs.Prelude.{Result, Ok}
use Prim.Native.Nat.{ℕ}
use mathlib.Core.Path.{◌≡◌, sym, ap, ◌∙◌}
use mathlib.Core.List.{List}
use lib.Ieee.{Float}
use Rattle.constants.specs.declared.SamplesPerPulse.{SamplesPerPulse}
use Rattle.refusals.specs.declared.Refusal.{Refusal}
use Rattle.run_call.specs.declared.State.{State}
use Rattle.run_open.specs.Opening.{OpenBuffers, opened_at, opened_of, left_by}
use Rattle.run_open.proofs.OpenedSetting.{setting_opened, opened_at_setting}
use Rattle.run_theorem.specs.OpenedRuns.{Run, Opens}

module _ (taps_s taps_ac : List Float) (settings : List ℕ) (given given' : OpenBuffers) where
  -- both have the setting of the settings' bytes, and what opening answers at it does not depend on the buffers
  same_state : (s s' : State) → opened_of taps_s taps_ac settings given ≡ Ok s → opened_of taps_s taps_ac settings given' ≡ Ok s' → s ≡ s'
  same_state s s' opens opens' =
      let a : ◌≡◌ {A = Result SamplesPerPulse Refusal} (Ok s.setting) (Ok s'.setting) = sym (setting_opened taps_s taps_ac settings given s opens) ∙ setting_opened taps_s taps_ac settings given' s' opens' in
      let k : s.setting ≡ s'.setting = cc in
      let b : ◌≡◌ {A = Result State Refusal} (Ok s) (Ok s') = sym (opened_at_setting taps_s taps_ac settings given s opens) ∙ ap (opened_at taps_s taps_ac settings) k ∙ opened_at_setting taps_s taps_ac settings given' s' opens' in
      cc

  pub same_run : (r r' : Run) → Opens taps_s taps_ac settings given r → Opens taps_s taps_ac settings given' r' → r ≡ r'
  unfolding left_by
  same_run r r' o o' =
      let e = same_state r.state r'.state o.answers o'.answers in
      λ i. record { state = e i; buffers = (o.leaves ∙ ap (λ (s : State). left_by taps_s taps_ac (Ok s) given) e ∙ sym o'.leaves) i }
