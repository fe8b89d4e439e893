-- What the code prepares, each prototype at the start of its array, is what a run is opened with.
use Rattle.std.specs.Prelude.{Option, Result, Ok, take}
use Prim.Native.Nat.{ℕ}
use mathlib.Core.Path.{◌≡◌, sym, ap, ◌∙◌, subst}
use mathlib.Core.Bool.{Bool, true}
use mathlib.Core.List.{List}
use lib.Ieee.{Float}
use Rattle.constants.specs.Rate.{prototype_length}
use Rattle.constants.specs.Setting.{per_pulse}
use Rattle.constants.specs.declared.SamplesPerPulse.{SamplesPerPulse}
use Rattle.pulse_shape.specs.Prototype.{mode_s_prototype, mode_ac_prototype}
use Rattle.pulse_shape.specs.Accepted.{mode_s_taps_accepted, mode_ac_taps_accepted}
use Rattle.refusals.specs.declared.Refusal.{Refusal}
use Rattle.run_call.specs.declared.State.{State}
use Rattle.settings.specs.declared.MessagesPerSecond.{MessagesPerSecond}
use Rattle.settings.specs.declared.Distributions.{Distributions}
use Rattle.run_open.specs.Opening.{mode_s_delay, mode_ac_delay, delays_then, delays_of, taps_of, with_prototypes, prepared_read}
use Rattle.run_open.proofs.Decided.{taps_pass}
use Rattle.run_open.proofs.OpenedSetting.{Has, delays_have}

-- the first values of an array, as many as a prototype has at a setting
abbrev pub used : SamplesPerPulse → List Float → List Float
used setting values = take (prototype_length (per_pulse setting)) values

module _ (setting : SamplesPerPulse) (level : Float) (taps_s taps_ac : List Float) (rates : MessagesPerSecond) (total : ℕ) (all : Distributions) where
  -- the taps' checks, the two arrays, the delays of their values in use, and the first state
  pub prepared :
      {s ac : Bool} (n : ℕ) (mode_s mode_ac : List Float) {x y : Option Float} {r : Result State Refusal} (state : State)
      → s ≡ mode_s_taps_accepted (per_pulse setting) taps_s → s ≡ true → ac ≡ mode_ac_taps_accepted (per_pulse setting) taps_ac → ac ≡ true
      → n ≡ prototype_length (per_pulse setting) → used setting mode_s ≡ mode_s_prototype (per_pulse setting) taps_s → used setting mode_ac ≡ mode_ac_prototype (per_pulse setting) taps_ac
      → x ≡ mode_s_delay level (take n mode_s) → y ≡ mode_ac_delay level (take n mode_ac)
      → r ≡ delays_then setting rates total all x y → r ≡ Ok state
      → prepared_read (Ok (record { state = state; mode_s = mode_s; mode_ac = mode_ac })) ≡ with_prototypes taps_s taps_ac (taps_of setting level taps_s taps_ac rates total all)
  unfolding delays_of prepared_read with_prototypes
  prepared n mode_s mode_ac {x} {y} state a b c d m p q f g e o =
      let same : setting ≡ state.setting = sym (subst (Has setting) (sym e ∙ o) (delays_have setting rates total all x y)) in
      let in_s = subst (λ (z : SamplesPerPulse). used z mode_s ≡ mode_s_prototype (per_pulse z) taps_s) same p in
      let in_ac = subst (λ (z : SamplesPerPulse). used z mode_ac ≡ mode_ac_prototype (per_pulse z) taps_ac) same q in
      let of_s : x ≡ mode_s_delay level (mode_s_prototype (per_pulse setting) taps_s) = f ∙ ap (λ k. mode_s_delay level (take k mode_s)) m ∙ ap (mode_s_delay level) p in
      let of_ac : y ≡ mode_ac_delay level (mode_ac_prototype (per_pulse setting) taps_ac) = g ∙ ap (λ k. mode_ac_delay level (take k mode_ac)) m ∙ ap (mode_ac_delay level) q in
      (λ i. Ok (record { state = state; mode_s = in_s i; mode_ac = in_ac i }))
      ∙ ap (with_prototypes taps_s taps_ac) (sym o ∙ e ∙ (λ i. delays_then setting rates total all (of_s i) (of_ac i)) ∙ taps_pass setting level taps_s taps_ac rates total all (sym a ∙ b) (sym c ∙ d))
