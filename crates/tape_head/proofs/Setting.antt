-- The samples per pulse of a tape whose head begins a run are those by which it is read (`setting_begun`): what stands behind the settings is read by them (`at_own`).
use Rattle.std.specs.Prelude.{Option, Some, None, Result, Ok, Err, is_ok}
use Rattle.refusals.specs.declared.Refusal.{Refusal}
use Rattle.refusals.specs.declared.Refusal.TheVariants as Cause
use Prim.Native.Nat.{ℕ}
use mathlib.Core.Path.{◌≡◌, refl, sym, ap, ◌∙◌, subst}
use mathlib.Core.Bool.{Bool, true, false, cond, false≢true}
use mathlib.Core.List.{List}
use lib.Dec.{eqb, lit<}
use lib.ListN.{length, get_or, take, drop}
use lib.Seq.{get_or-take, get_or-drop}
use borrow.Author.Tests.{eqb-true}
use Rattle.constants.specs.declared.SamplesPerPulse.{SamplesPerPulse}
use Rattle.constants.specs.declared.SamplesPerPulse.TheVariants.{Four, Eight}
use Rattle.settings.specs.Settings.{settings_length}
use Rattle.settings.specs.Accepted.{setting_by, setting_at}
use Rattle.run_call.specs.declared.State.{State}
use Rattle.run_open.specs.Opening.{OpenBuffers}
use Rattle.run_open.proofs.OpenedSetting.{at_setting_ok, setting_opened}
use Rattle.constants.specs.Setting.{setting_from}
use Rattle.tape_sections.specs.Sections.{tape_setting, tape_sps, section_at}
use Rattle.tape_head.specs.declared.Beginning.{Beginning}
use Rattle.tape_head.specs.Head.{settings_bytes, setting_then, taps_s, taps_ac, opened_from, opened_then, early_of, early_then, at_rate, beginning_of}

module _ (tape : List ℕ) where
  -- what is read as the settings' samples per pulse is what the tape is read by
  Said : Result SamplesPerPulse Refusal → Type 0
  Said (Ok z) = z ≡ tape_setting tape
  Said (Err q) = Unit {0}

  by_value : (n : ℕ) → setting_from n ≡ tape_setting tape → Said (setting_by n)
  unfolding setting_by Said
  by_value n e = go (eqb n 4) refl (eqb n 8) refl
    where
      go : (a : Bool) → eqb n 4 ≡ a → (b : Bool) → eqb n 8 ≡ b → Said (cond a (Ok Four) (cond b (Ok Eight) (Err Cause.SamplesPerPulse)))
      go true p b q = sym (ap setting_from (eqb-true n 4 p)) ∙ e
      go false p true q = sym (ap (λ (b : Bool). cond b Eight Four) q) ∙ e
      go false p false q = tt

  bytes_say : Said (setting_at (settings_bytes tape))
  unfolding setting_at settings_bytes tape_setting Said
  bytes_say = go (eqb (length (take settings_length (drop 4 tape))) settings_length)
    where
      go : (b : Bool) → Said (cond b (setting_by (get_or (take settings_length (drop 4 tape)) 123 0)) (Err Cause.Length))
      go true = by_value (get_or (take settings_length (drop 4 tape)) 123 0) (ap setting_from (get_or-take settings_length (drop 4 tape) 123 0 (lit< tt) ∙ get_or-drop 4 tape 123 0))
      go false = tt

  pub setting_is : (z : SamplesPerPulse) → setting_at (settings_bytes tape) ≡ Ok z → z ≡ tape_setting tape
  unfolding Said
  setting_is z e = subst Said e bytes_say

  pub setting_read : (q : Option ℕ) (z : SamplesPerPulse) → setting_then tape q ≡ Ok z → z ≡ tape_setting tape
  unfolding setting_then
  setting_read (Some n) z e = setting_is z e
  setting_read None z e = absurd (false≢true (ap is_ok e))

  module _ (lent : OpenBuffers) where
    pub setting_opens : (sps : ℕ) (s : State) → opened_from sps tape lent ≡ Ok s → s.setting ≡ tape_setting tape
    unfolding opened_from
    setting_opens sps s e = setting_is s.setting (setting_opened (taps_s sps tape) (taps_ac sps tape) (settings_bytes tape) lent s e)

    passed : (sps : ℕ) (b : Beginning) (e : Result (Unit {0}) Refusal) → early_then tape lent sps e ≡ Ok b → opened_then sps tape (opened_from sps tape lent) ≡ Ok b
    unfolding early_then
    passed sps b (Ok u) h = h
    passed sps b (Err q) h = absurd (false≢true (ap is_ok h))

    -- a head that begins a run begins it behind opening, at the samples per pulse by which the tape is read
    pub at_own : (b : Beginning) → beginning_of tape lent ≡ Ok b → opened_then (tape_sps tape) tape (opened_from (tape_sps tape) tape lent) ≡ Ok b
    unfolding beginning_of at_rate
    at_own b e =
        let w = at_setting_ok (at_rate tape lent) (setting_then tape (section_at tape 0 1 1 settings_length)) b e in
        let own : at_rate tape lent (tape_setting tape) ≡ Ok b = subst (λ (z : SamplesPerPulse). at_rate tape lent z ≡ Ok b) (setting_read (section_at tape 0 1 1 settings_length) w.0 w.1) w.2 in
        passed (tape_sps tape) b (early_of (tape_sps tape) tape) own
