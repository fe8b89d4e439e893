-- What is prepared, read back: where the code prepares a run, the definitions open it, with the prototypes in use (`opened_as`); where it refuses, they refuse it with the same number (`refused_as`).
use Rattle.std.specs.Prelude.{Result, Ok, Err, take, is_ok}
use mathlib.Core.Path.{◌≡◌, sym, ap, ◌∙◌}
use mathlib.Core.Bool.{true, false, false≢true}
use mathlib.Core.List.{List}
use lib.Ieee.{Float}
use Rattle.constants.specs.Rate.{prototype_length}
use Rattle.constants.specs.Setting.{per_pulse}
use Rattle.pulse_shape.specs.Prototype.{mode_s_prototype, mode_ac_prototype}
use Rattle.refusals.specs.declared.Refusal.{Refusal}
use Rattle.run_call.specs.declared.State.{State}
use Rattle.run_open.specs.declared.Prepared.{Prepared}
use Rattle.run_open.specs.Opening.{Opened, with_prototypes, prepared_read}

-- a run that is prepared, and its prototypes
pub record OpenedAs (taps_s taps_ac : List Float) (x : Result State Refusal) (p : Prepared) : Type 0 where
  pub opens : x ≡ Ok p.state
  pub mode_s : take (prototype_length (per_pulse p.state.setting)) p.mode_s ≡ mode_s_prototype (per_pulse p.state.setting) taps_s
  pub mode_ac : take (prototype_length (per_pulse p.state.setting)) p.mode_ac ≡ mode_ac_prototype (per_pulse p.state.setting) taps_ac

abbrev opened_or : Opened → Result Opened Refusal → Opened
opened_or d (Ok v) = v
opened_or d (Err q) = d

pub opened_as : (taps_s taps_ac : List Float) (x : Result State Refusal) (p : Prepared) → prepared_read (Ok p) ≡ with_prototypes taps_s taps_ac x → OpenedAs taps_s taps_ac x p
unfolding prepared_read with_prototypes
opened_as taps_s taps_ac (Ok state) p e =
    let v = ap (opened_or (record { state = state; mode_s = p.mode_s; mode_ac = p.mode_ac })) e in
    let same = ap (λ (o : Opened). o.state) (sym v) in
    record {
      opens = ap Ok same;
      mode_s = ap (λ (o : Opened). o.mode_s) v ∙ ap (λ (z : State). mode_s_prototype (per_pulse z.setting) taps_s) same;
      mode_ac = ap (λ (o : Opened). o.mode_ac) v ∙ ap (λ (z : State). mode_ac_prototype (per_pulse z.setting) taps_ac) same;
    }
opened_as taps_s taps_ac (Err q) p e = absurd (false≢true (sym (ap is_ok e)))

pub refused_as : (taps_s taps_ac : List Float) (x : Result State Refusal) (q : Refusal) → prepared_read (Err q) ≡ with_prototypes taps_s taps_ac x → x ≡ Err q
unfolding prepared_read with_prototypes
refused_as taps_s taps_ac (Ok state) q e = absurd (false≢true (ap is_ok e))
refused_as taps_s taps_ac (Err r) q e = cc
