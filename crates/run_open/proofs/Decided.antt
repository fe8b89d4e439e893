-- What each test of opening decides: which answer of the definitions it gives.
use Rattle.std.specs.Prelude.{Option, Some, None, Ok, Err}
use Prim.Native.Nat.{ℕ}
use mathlib.Core.Path.{◌≡◌, refl, sym, ap, ◌∙◌}
use mathlib.Core.Bool.{Bool, true, false, ◌&&◌, cond, false≢true}
use mathlib.Core.List.{List}
use lib.Dec.{eqb}
use lib.Ieee.{Float}
use borrow.Author.Tests.{eqb-true, eq-eqb}
use Rattle.constants.specs.Rate.{prototype_length, working_memory}
use Rattle.constants.specs.Setting.{per_pulse}
use Rattle.constants.specs.declared.SamplesPerPulse.{SamplesPerPulse}
use Rattle.pulse_shape.specs.Accepted.{all_within16, mode_s_taps_accepted, mode_ac_taps_accepted}
use Rattle.pulse_shape.specs.GroupDelay.{group_delay, mode_ac_group_delay, crossing_answer}
use Rattle.refusals.specs.declared.Refusal.{Refusal}
use Rattle.refusals.specs.declared.Refusal.TheVariants as Cause
use Rattle.settings.specs.declared.MessagesPerSecond.{MessagesPerSecond}
use Rattle.settings.specs.declared.Distributions.{Distributions}
use Rattle.settings.specs.Settings.{settings_of}
use Rattle.settings.specs.Accepted.{accepted_of}
use Rattle.run_open.specs.FirstCause.{Fits}
use Rattle.run_open.specs.Opening.{first_state, buffers_fit, mode_s_delay, mode_ac_delay, delays_given, delays_then, delays_of, taps_of, settings_then, opened_at, lengths_then}

-- ---- the lengths, from facts and to facts
module _ (s : SamplesPerPulse) (mode_s mode_ac memory : ℕ) where
  pub fits_if : Fits s mode_s mode_ac memory → buffers_fit (per_pulse s) mode_s mode_ac memory ≡ true
  unfolding buffers_fit
  fits_if f = rw (eq-eqb memory _ f.memory_is, eq-eqb mode_s _ f.mode_s_is, eq-eqb mode_ac _ f.mode_ac_is)

  pub fits_for : buffers_fit (per_pulse s) mode_s mode_ac memory ≡ true → Fits s mode_s mode_ac memory
  unfolding buffers_fit
  fits_for e = go (eqb memory (working_memory (per_pulse s))) refl (eqb mode_s (prototype_length (per_pulse s))) refl (eqb mode_ac (prototype_length (per_pulse s))) refl e
    where
      go : (a : Bool) → eqb memory (working_memory (per_pulse s)) ≡ a → (b : Bool) → eqb mode_s (prototype_length (per_pulse s)) ≡ b → (c : Bool) → eqb mode_ac (prototype_length (per_pulse s)) ≡ c → a && b && c ≡ true
          → Fits s mode_s mode_ac memory
      go true p true q true r e = record { mode_s_is = eqb-true mode_s _ q; mode_ac_is = eqb-true mode_ac _ r; memory_is = eqb-true memory _ p }
      go false p b q c r e = absurd (false≢true e)
      go true p false q c r e = absurd (false≢true e)
      go true p true q false r e = absurd (false≢true e)

-- ---- the delay of a prototype
module _ (level : Float) (prototype : List Float) where
  pub mode_s_delay_of : all_within16 prototype ≡ true → mode_s_delay level prototype ≡ group_delay level prototype
  unfolding mode_s_delay
  mode_s_delay_of e = rw e

  pub mode_ac_delay_of : all_within16 prototype ≡ true → mode_ac_delay level prototype ≡ mode_ac_group_delay level prototype
  unfolding mode_ac_delay
  mode_ac_delay_of e = rw e

-- ---- refusal 6, for either delay; or the first state
module _ (setting : SamplesPerPulse) (rates : MessagesPerSecond) (total : ℕ) (all : Distributions) (x y : Option Float) where
  pub no_mode_s : x ≡ None → Err Cause.Prototype ≡ delays_then setting rates total all x y
  unfolding delays_then delays_given crossing_answer
  no_mode_s e = λ i. delays_then setting rates total all (sym e i) y

  pub no_mode_ac : (a : Float) → x ≡ Some a → y ≡ None → Err Cause.Prototype ≡ delays_then setting rates total all x y
  unfolding delays_then delays_given crossing_answer
  no_mode_ac a e f = λ i. delays_then setting rates total all (sym e i) (sym f i)

  pub both_found : (a b : Float) → x ≡ Some a → y ≡ Some b → Ok (first_state setting rates total all a b) ≡ delays_then setting rates total all x y
  unfolding delays_then delays_given crossing_answer
  both_found a b e f = λ i. delays_then setting rates total all (sym e i) (sym f i)

module _ (setting : SamplesPerPulse) (level : Float) (taps_s taps_ac : List Float) (rates : MessagesPerSecond) (total : ℕ) (all : Distributions) where
  -- refusal 5, for either list
  by_taps : (b : Bool) → mode_s_taps_accepted (per_pulse setting) taps_s && mode_ac_taps_accepted (per_pulse setting) taps_ac ≡ b
      → cond b (delays_of setting level taps_s taps_ac rates total all) (Err Cause.Taps) ≡ taps_of setting level taps_s taps_ac rates total all
  unfolding taps_of
  by_taps b e = ap (λ (x : Bool). cond x (delays_of setting level taps_s taps_ac rates total all) (Err Cause.Taps)) (sym e)

  pub mode_s_taps_refused : mode_s_taps_accepted (per_pulse setting) taps_s ≡ false → Err Cause.Taps ≡ taps_of setting level taps_s taps_ac rates total all
  mode_s_taps_refused e = by_taps false (ap (λ (x : Bool). x && mode_ac_taps_accepted (per_pulse setting) taps_ac) e)

  pub mode_ac_taps_refused : mode_s_taps_accepted (per_pulse setting) taps_s ≡ true → mode_ac_taps_accepted (per_pulse setting) taps_ac ≡ false → Err Cause.Taps ≡ taps_of setting level taps_s taps_ac rates total all
  mode_ac_taps_refused e f = by_taps false (ap (λ (x : Bool). x && mode_ac_taps_accepted (per_pulse setting) taps_ac) e ∙ f)

  pub taps_pass : mode_s_taps_accepted (per_pulse setting) taps_s ≡ true → mode_ac_taps_accepted (per_pulse setting) taps_ac ≡ true
      → delays_of setting level taps_s taps_ac rates total all ≡ taps_of setting level taps_s taps_ac rates total all
  taps_pass e f = by_taps true (ap (λ (x : Bool). x && mode_ac_taps_accepted (per_pulse setting) taps_ac) e ∙ f)

module _ (taps_s taps_ac : List Float) (bytes : List ℕ) (setting : SamplesPerPulse) where
  -- refusals 1 to 4 and 14
  pub settings_refused : (q : Refusal) → accepted_of (per_pulse setting) (settings_of bytes) ≡ Err q → opened_at taps_s taps_ac bytes setting ≡ Err q
  unfolding opened_at settings_then
  settings_refused q = ap (settings_then taps_s taps_ac setting (settings_of bytes))

  pub settings_pass : (total : ℕ) (all : Distributions) → accepted_of (per_pulse setting) (settings_of bytes) ≡ Ok (total, all)
      → opened_at taps_s taps_ac bytes setting ≡ taps_of setting (settings_of bytes).trigger_level taps_s taps_ac (settings_of bytes).rates total all
  unfolding opened_at settings_then
  settings_pass total all = ap (settings_then taps_s taps_ac setting (settings_of bytes))

  -- refusal 9 for the buffers
  pub by_lengths : (mode_s mode_ac memory : ℕ) (b : Bool) → buffers_fit (per_pulse setting) mode_s mode_ac memory ≡ b
      → lengths_then taps_s taps_ac bytes mode_s mode_ac memory setting ≡ cond b (opened_at taps_s taps_ac bytes setting) (Err Cause.Length)
  unfolding lengths_then
  by_lengths mode_s mode_ac memory b = ap (λ (x : Bool). cond x (opened_at taps_s taps_ac bytes setting) (Err Cause.Length))
