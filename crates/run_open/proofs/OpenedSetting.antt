-- The setting of an opened run: it is the one that its settings' bytes say, opening answers by it, and the buffers have its lengths (`setting_opened`, `opened_at_setting`, `lengths_opened`). Conversely a run that opens at the setting of its bytes opens with buffers of these lengths (`opens_at_setting`).
use Rattle.std.specs.Prelude.{Option, Some, None, Result, Ok, Err, is_ok}
use Prim.Native.Nat.{ℕ}
use mathlib.Core.Path.{◌≡◌, refl, sym, ap, ◌∙◌, subst}
use mathlib.Core.Bool.{Bool, true, false, ◌&&◌, cond, false≢true}
use mathlib.Core.List.{List}
use lib.Dec.{T}
use lib.ListN.{length}
use lib.Ieee.{Float}
use Rattle.constants.specs.Setting.{per_pulse}
use Rattle.constants.specs.declared.SamplesPerPulse.{SamplesPerPulse}
use Rattle.pulse_shape.specs.Accepted.{mode_s_taps_accepted, mode_ac_taps_accepted}
use Rattle.pulse_shape.specs.GroupDelay.{crossing_answer}
use Rattle.refusals.specs.declared.Refusal.{Refusal}
use Rattle.refusals.specs.declared.Refusal.TheVariants as Cause
use Rattle.run_call.specs.declared.State.{State}
use Rattle.settings.specs.declared.MessagesPerSecond.{MessagesPerSecond}
use Rattle.settings.specs.declared.Settings.{Settings}
use Rattle.settings.specs.declared.Distributions.{Distributions}
use Rattle.settings.specs.Settings.{settings_of}
use Rattle.settings.specs.Accepted.{setting_at, at_setting, accepted_of}
use Rattle.run_open.specs.FirstCause.{Fits, BuffersFit}
use Rattle.run_open.specs.Opening.{OpenBuffers, first_state, buffers_fit, delays_given, delays_then, delays_of, taps_of, settings_then, opened_at, lengths_then, opened_for, opened_of}
use Rattle.run_open.proofs.Decided.{fits_if, fits_for, by_lengths}

-- what is answered at the setting of the settings' bytes is answered at one that they say
pub at_setting_ok : {X : Type 0} (next : SamplesPerPulse → Result X Refusal) (x : Result SamplesPerPulse Refusal) (v : X) → at_setting next x ≡ Ok v → (z : SamplesPerPulse) × (x ≡ Ok z) × (next z ≡ Ok v)
unfolding at_setting
at_setting_ok next (Ok z) v e = (z, refl, e)
at_setting_ok next (Err q) v e = absurd (false≢true (ap is_ok e))

-- a state that is answered has the setting z
module _ (z : SamplesPerPulse) where
  abbrev pub Has : Result State Refusal → Type 0
  Has (Ok s) = s.setting ≡ z
  Has (Err q) = T true

  either_has : (b : Bool) (x : Result State Refusal) (q : Refusal) → Has x → Has (cond b x (Err q))
  either_has true x q h = h
  either_has false x q h = tt

  pub delays_have : (rates : MessagesPerSecond) (total : ℕ) (all : Distributions) (x y : Option Float) → Has (delays_then z rates total all x y)
  unfolding delays_then delays_given crossing_answer first_state
  delays_have rates total all (Some a) (Some b) = refl
  delays_have rates total all (Some a) None = tt
  delays_have rates total all None y = tt

  module _ (taps_s taps_ac : List Float) where
    settings_have : (s : Settings) (x : Result (ℕ × Distributions) Refusal) → Has (settings_then taps_s taps_ac z s x)
    unfolding settings_then taps_of delays_of
    settings_have s (Ok (total, all)) =
        either_has (mode_s_taps_accepted (per_pulse z) taps_s && mode_ac_taps_accepted (per_pulse z) taps_ac) _ Cause.Taps (delays_have s.rates total all _ _)
    settings_have s (Err q) = tt

    pub has_its_setting : (bytes : List ℕ) (s : State) → opened_at taps_s taps_ac bytes z ≡ Ok s → s.setting ≡ z
    unfolding opened_at
    has_its_setting bytes s e = subst Has e (settings_have (settings_of bytes) (accepted_of (per_pulse z) (settings_of bytes)))

module _ (taps_s taps_ac : List Float) (bytes : List ℕ) (mode_s mode_ac memory : ℕ) (s : State) where
  -- what opening answers at a setting, where it is a state: the lengths fit, and it is the answer at right lengths
  lengths_ok : (z : SamplesPerPulse) → lengths_then taps_s taps_ac bytes mode_s mode_ac memory z ≡ Ok s → Fits z mode_s mode_ac memory × (opened_at taps_s taps_ac bytes z ≡ Ok s)
  lengths_ok z e = go (buffers_fit (per_pulse z) mode_s mode_ac memory) refl
    where
      go : (b : Bool) → buffers_fit (per_pulse z) mode_s mode_ac memory ≡ b → Fits z mode_s mode_ac memory × (opened_at taps_s taps_ac bytes z ≡ Ok s)
      go true f = (fits_for z mode_s mode_ac memory f, sym (by_lengths taps_s taps_ac bytes z mode_s mode_ac memory true f) ∙ e)
      go false f = absurd (false≢true (ap is_ok (sym (by_lengths taps_s taps_ac bytes z mode_s mode_ac memory false f) ∙ e)))

  -- of a run that is opened with prototypes and working memory of these lengths
  pub record HasItsSetting : Type 0 where
    pub said : setting_at bytes ≡ Ok s.setting
    pub fits : Fits s.setting mode_s mode_ac memory
    pub at : opened_at taps_s taps_ac bytes s.setting ≡ Ok s

  pub opened_has : opened_for taps_s taps_ac bytes mode_s mode_ac memory ≡ Ok s → HasItsSetting
  unfolding opened_for
  opened_has e =
      let w = at_setting_ok (lengths_then taps_s taps_ac bytes mode_s mode_ac memory) (setting_at bytes) s e in
      let l = lengths_ok w.0 w.2 in
      let same : w.0 ≡ s.setting = sym (has_its_setting w.0 taps_s taps_ac bytes s l.1) in
      record {
        said = w.1 ∙ ap Ok same;
        fits = subst (λ (z : SamplesPerPulse). Fits z mode_s mode_ac memory) same l.0;
        at = subst (λ (z : SamplesPerPulse). opened_at taps_s taps_ac bytes z ≡ Ok s) same l.1;
      }

  pub opens_at : (z : SamplesPerPulse) → setting_at bytes ≡ Ok z → Fits z mode_s mode_ac memory → opened_at taps_s taps_ac bytes z ≡ Ok s → opened_for taps_s taps_ac bytes mode_s mode_ac memory ≡ Ok s
  unfolding opened_for at_setting
  opens_at z b f e =
      ap (at_setting (lengths_then taps_s taps_ac bytes mode_s mode_ac memory)) b
      ∙ by_lengths taps_s taps_ac bytes z mode_s mode_ac memory true (fits_if z mode_s mode_ac memory f)
      ∙ e

module _ (taps_s taps_ac : List Float) (bytes : List ℕ) (l : OpenBuffers) (s : State) where
  module _ (opens : opened_of taps_s taps_ac bytes l ≡ Ok s) where
    all : HasItsSetting taps_s taps_ac bytes (length l.mode_s) (length l.mode_ac) (length l.memory) s
    unfolding opened_of
    all = opened_has taps_s taps_ac bytes (length l.mode_s) (length l.mode_ac) (length l.memory) s opens

    pub setting_opened : setting_at bytes ≡ Ok s.setting
    setting_opened = all.said

    pub lengths_opened : BuffersFit s.setting l
    lengths_opened = all.fits

    pub opened_at_setting : opened_at taps_s taps_ac bytes s.setting ≡ Ok s
    opened_at_setting = all.at

  pub opens_at_setting : (z : SamplesPerPulse) → setting_at bytes ≡ Ok z → BuffersFit z l → opened_at taps_s taps_ac bytes z ≡ Ok s → opened_of taps_s taps_ac bytes l ≡ Ok s
  unfolding opened_of
  opens_at_setting = opens_at taps_s taps_ac bytes (length l.mode_s) (length l.mode_ac) (length l.memory) s
