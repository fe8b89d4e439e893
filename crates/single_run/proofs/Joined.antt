-- What the functions answer and leave, from what their calls give.
use Rattle.std.specs.Prelude.{Result, Ok}
use Rattle.std.specs.Result.{result_and}
use Prim.Native.Nat.{ℕ}
use mathlib.Core.Path.{◌≡◌, sym, ap, ◌∙◌}
use mathlib.Core.List.{List}
use lib.ListN.{length, get_or}
use lib.Ieee.{Float, binary32, binary64, of_bits}
use Rattle.constants.specs.Setting.{per_pulse}
use Rattle.constants.specs.declared.SamplesPerPulse.{SamplesPerPulse}
use Rattle.le_read.specs.LeBytes.{number_at}
use Rattle.message.specs.declared.Picks.{Picks}
use Rattle.message_config.specs.declared.MessageConfig.{MessageConfig}
use Rattle.message_config.specs.Config.{config_start}
use Rattle.refusals.specs.declared.Refusal.{Refusal}
use Rattle.settings.specs.Accepted.{setting_at, at_setting}
use Rattle.draw.specs.Draw.{picks_at, draw_at}
use Rattle.draw.specs.Config.{time_after, config_of}
use Rattle.draw.specs.Pending.{pending_of, completed_by}
use Rattle.draw.proofs.MessageOfDraw.{completed_is}
use Rattle.reply_samples.specs.Samples.{reply_samples}
use Rattle.run_theory.specs.FloatGenerator.{nought}
use Rattle.run_call_model.proofs.FloatLaws.{nought_bits}
use Rattle.run_call.specs.declared.State.{State}
use Rattle.run_open.specs.declared.Prepared.{Prepared}
use Rattle.run_open.specs.Opening.{opened_at}
use Rattle.run_open.proofs.OpenedAs.{OpenedAs}
use Rattle.run_open.proofs.InUse.{used}
use Rattle.single_add.specs.StretchModel.{stretch_of}
use Rattle.single_theory.specs.Single.{lengths_checked, values_checked, opened_then, single_at, single_run, left_in, single_output}
use Rattle.single_theory.proofs.Count.{accepted_is}
use Rattle.single_run.specs.Answer.{answer_of}
use Rattle.single_run.specs.MakeModel.{made_by}

-- ---- the reply of a draw
pub made : (state : State) (mode_s mode_ac : List Float) (draw : List ℕ) (noise output : List Float) (p : MessageConfig) (kind : ℕ) (amplitude : Float) (picks : Picks) (c : MessageConfig) (out : List Float)
    → p ≡ pending_of state.distributions (time_after (of_bits binary64 0) (draw_at draw)) (draw_at draw) → kind ≡ get_or draw 8 0 → amplitude ≡ of_bits binary32 (number_at 4 draw 17) → picks ≡ picks_at draw → c ≡ completed_by p kind picks
    → out ≡ stretch_of (per_pulse state.setting) (config_start state.delays c) (reply_samples (per_pulse state.setting) mode_s mode_ac state.delays amplitude c) noise output → out ≡ made_by state mode_s mode_ac draw noise output
unfolding draw_at
made state mode_s mode_ac draw noise output p kind amplitude picks c out e f g h i o =
    let all = state.distributions in
    let message : c ≡ config_of all (time_after nought (draw_at draw)) (draw_at draw) =
    i ∙ (λ j. completed_by ((e ∙ ap (λ (z : Float). pending_of all (time_after z (draw_at draw)) (draw_at draw)) nought_bits.1) j) (f j) (h j)) ∙ completed_is all (time_after nought (draw_at draw)) (draw_at draw) in
    o ∙ (λ j. stretch_of (per_pulse state.setting) (config_start state.delays (message j)) (reply_samples (per_pulse state.setting) mode_s mode_ac state.delays (g j) (message j)) noise output)

-- ---- the call
module _ (settings : List ℕ) (taps_s taps_ac : List Float) (draw : List ℕ) (noise output : List Float) (z : SamplesPerPulse) (s : setting_at settings ≡ Ok z)
    (l : lengths_checked (per_pulse z) settings (length draw) (length noise) (length output) ≡ Ok tt) (p : Prepared) (o : OpenedAs taps_s taps_ac (opened_at taps_s taps_ac settings z) p) (v : values_checked p.state draw noise ≡ Ok tt) where
  run_is : single_run settings taps_s taps_ac draw noise (length output) ≡ Ok p.state
  unfolding single_run single_at at_setting opened_then
  run_is =
      ap (at_setting (single_at settings taps_s taps_ac draw noise (length output))) s
      ∙ ap (λ (r : Result (Unit {0}) Refusal). result_and r (opened_then draw noise (opened_at taps_s taps_ac settings z))) l
      ∙ ap (opened_then draw noise) o.opens
      ∙ ap (λ (r : Result (Unit {0}) Refusal). result_and r (Ok p.state)) v

  pub accepted : (mode_s mode_ac out : List Float) → mode_s ≡ used p.state.setting p.mode_s → mode_ac ≡ used p.state.setting p.mode_ac → out ≡ made_by p.state mode_s mode_ac draw noise output
      → (Ok tt ≡ answer_of (single_run settings taps_s taps_ac draw noise (length output))) × (out ≡ single_output settings taps_s taps_ac draw noise output)
  unfolding answer_of single_output left_in
  accepted mode_s mode_ac out h k m = (
    sym (ap answer_of run_is),
    m
        ∙ (λ i. made_by p.state ((h ∙ o.mode_s) i) ((k ∙ o.mode_ac) i) draw noise output)
        ∙ accepted_is settings taps_s taps_ac draw noise output z p.state s l o.opens v
        ∙ sym (ap (left_in settings taps_s taps_ac draw noise output) run_is),
  )
