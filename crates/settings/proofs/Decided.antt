-- What each test of settings decides: which answer of the definitions it gives.
use Rattle.std.specs.Prelude.{Some, None, Result, Ok, Err}
use Prim.Native.Nat.{ℕ}
use mathlib.Core.Path.{◌≡◌, refl, sym, ap, ◌∙◌}
use mathlib.Core.Bool.{Bool, true, false, cond}
use mathlib.Core.List.{List}
use lib.Dec.{eqb}
use lib.ListN.{length, get_or}
use lib.Ieee.{Float}
use borrow.Author.Tests.{eqb-true, eqb-false, ne_eqb}
use Rattle.constants.specs.declared.SamplesPerPulse.{SamplesPerPulse}
use Rattle.constants.specs.declared.SamplesPerPulse.TheVariants.{Four, Eight}
use Rattle.constants.specs.Setting.{per_pulse}
use Rattle.distributions.specs.Accepted.{carrier_offset, carrier_phase, clock_error}
use Rattle.distributions.specs.declared.CarrierOffset.{CarrierOffset}
use Rattle.distributions.specs.declared.CarrierPhase.{CarrierPhase}
use Rattle.distributions.specs.declared.ClockError.{ClockError}
use Rattle.settings_duration.specs.Duration.{duration_of}
use Rattle.refusals.specs.declared.Refusal as Refusals
use Rattle.refusals.specs.declared.Refusal.TheVariants as Refusal
use Rattle.settings.specs.declared.Settings.{Settings}
use Rattle.settings.specs.declared.Distributions.{Distributions}
use Rattle.settings.specs.Settings.{settings_length, rates_of}
use Rattle.settings.specs.Accepted.{setting_by, setting_at, first_bad_rate, total_of, total_fits, with_clock, with_phase, with_offset, distributions_of, total_then, rates_then, duration_then, values_of, level_in_range, level_then}

-- the samples per pulse, by the length of the settings and their last byte
module _ (bytes : List ℕ) where
  by_length : (b : Bool) → eqb (length bytes) settings_length ≡ b → setting_at bytes ≡ cond b (setting_by (get_or bytes 123 0)) (Err Refusal.Length)
  unfolding setting_at
  by_length b = ap (λ (x : Bool). cond x (setting_by (get_or bytes 123 0)) (Err Refusal.Length))

  pub length_refused : (length bytes ≡ settings_length → ⊥) → setting_at bytes ≡ Err Refusal.Length
  length_refused h = by_length false (ne_eqb (length bytes) settings_length h)

  pub setting_refused : length bytes ≡ settings_length → ((s : SamplesPerPulse) → get_or bytes 123 0 ≡ per_pulse s → ⊥) → setting_at bytes ≡ Err Refusal.SamplesPerPulse
  unfolding setting_at setting_by
  setting_refused l h =
      let four = ne_eqb (get_or bytes 123 0) 4 (h Four) in
      let eight = ne_eqb (get_or bytes 123 0) 8 (h Eight) in
      rw (l, four, eight)

  pub setting_passes : (s : SamplesPerPulse) → length bytes ≡ settings_length → get_or bytes 123 0 ≡ per_pulse s → setting_at bytes ≡ Ok s
  unfolding setting_at setting_by
  setting_passes Four l e = rw (l, e)
  setting_passes Eight l e = rw (l, e)

  -- what holds of each answer for its own cause holds of the one that is given
  pub by_setting : (P : Result SamplesPerPulse Refusals.Refusal → Type 0)
      → ((length bytes ≡ settings_length → ⊥) → P (Err Refusal.Length))
      → (length bytes ≡ settings_length → ((s : SamplesPerPulse) → get_or bytes 123 0 ≡ per_pulse s → ⊥) → P (Err Refusal.SamplesPerPulse))
      → ((s : SamplesPerPulse) → length bytes ≡ settings_length → get_or bytes 123 0 ≡ per_pulse s → P (Ok s))
      → P (setting_at bytes)
  unfolding setting_at setting_by
  by_setting P short other is = go (eqb (length bytes) settings_length) refl (eqb (get_or bytes 123 0) 4) refl (eqb (get_or bytes 123 0) 8) refl
    where
      neither : eqb (get_or bytes 123 0) 4 ≡ false → eqb (get_or bytes 123 0) 8 ≡ false → (s : SamplesPerPulse) → get_or bytes 123 0 ≡ per_pulse s → ⊥
      neither f e Four = eqb-false (get_or bytes 123 0) 4 f
      neither f e Eight = eqb-false (get_or bytes 123 0) 8 e

      go : (b : Bool) → eqb (length bytes) settings_length ≡ b → (x : Bool) → eqb (get_or bytes 123 0) 4 ≡ x → (y : Bool) → eqb (get_or bytes 123 0) 8 ≡ y
          → P (cond b (cond x (Ok Four) (cond y (Ok Eight) (Err Refusal.SamplesPerPulse))) (Err Refusal.Length))
      go false l x f y e = short (eqb-false (length bytes) settings_length l)
      go true l true f y e = is Four (eqb-true (length bytes) settings_length l) (eqb-true (get_or bytes 123 0) 4 f)
      go true l false f true e = is Eight (eqb-true (length bytes) settings_length l) (eqb-true (get_or bytes 123 0) 8 e)
      go true l false f false e = other (eqb-true (length bytes) settings_length l) (neither f e)

module _ (sps : ℕ) (s : Settings) where
  pub duration_refused : (q : Refusals.Refusal) → duration_of sps s.seconds s.nanoseconds ≡ Err q → values_of sps s ≡ Err q
  unfolding values_of duration_then
  duration_refused q e = ap (duration_then sps s) e

  pub duration_passes : (n : ℕ) → duration_of sps s.seconds s.nanoseconds ≡ Ok n → values_of sps s ≡ rates_then sps n s
  unfolding values_of duration_then
  duration_passes n e = ap (duration_then sps s) e

module _ (sps n : ℕ) (s : Settings) where
  pub rate_refused : (k : ℕ) → first_bad_rate 0 (rates_of s.rates) ≡ Some k → rates_then sps n s ≡ Err (Refusal.Rate k)
  unfolding rates_then total_then
  rate_refused k e = ap (total_then sps n s) e

  by_total : (b : Bool) → first_bad_rate 0 (rates_of s.rates) ≡ None → total_fits (total_of (rates_of s.rates)) ≡ b
      → rates_then sps n s ≡ cond b (distributions_of sps n s) (Err Refusal.Total)
  unfolding rates_then total_then
  by_total b e t = ap (total_then sps n s) e ∙ ap (λ (x : Bool). cond x (distributions_of sps n s) (Err Refusal.Total)) t

  pub total_refused : first_bad_rate 0 (rates_of s.rates) ≡ None → total_fits (total_of (rates_of s.rates)) ≡ false → rates_then sps n s ≡ Err Refusal.Total
  total_refused = by_total false

  pub rates_pass : first_bad_rate 0 (rates_of s.rates) ≡ None → total_fits (total_of (rates_of s.rates)) ≡ true → rates_then sps n s ≡ distributions_of sps n s
  rates_pass = by_total true

  by_offset : (a : Result CarrierOffset Refusals.Refusal) → carrier_offset sps s.carrier ≡ a → distributions_of sps n s ≡ with_offset n a (carrier_phase s.phase) (clock_error s.clock)
  unfolding distributions_of
  by_offset a = ap (λ (x : Result CarrierOffset Refusals.Refusal). with_offset n x (carrier_phase s.phase) (clock_error s.clock))

  pub offset_refused : (q : Refusals.Refusal) → carrier_offset sps s.carrier ≡ Err q → distributions_of sps n s ≡ Err q
  unfolding with_offset
  offset_refused q = by_offset (Err q)

  module _ (o : CarrierOffset) (f : carrier_offset sps s.carrier ≡ Ok o) where
    by_phase : (a : Result CarrierPhase Refusals.Refusal) → carrier_phase s.phase ≡ a → distributions_of sps n s ≡ with_phase n o a (clock_error s.clock)
    unfolding with_offset
    by_phase a g = by_offset (Ok o) f ∙ ap (λ (x : Result CarrierPhase Refusals.Refusal). with_phase n o x (clock_error s.clock)) g

    pub phase_refused : (q : Refusals.Refusal) → carrier_phase s.phase ≡ Err q → distributions_of sps n s ≡ Err q
    unfolding with_phase
    phase_refused q = by_phase (Err q)

    module _ (p : CarrierPhase) (g : carrier_phase s.phase ≡ Ok p) where
      by_clock : (a : Result ClockError Refusals.Refusal) → clock_error s.clock ≡ a → distributions_of sps n s ≡ with_clock n o p a
      unfolding with_phase
      by_clock a h = by_phase (Ok p) g ∙ ap (with_clock n o p) h

      pub clock_refused : (q : Refusals.Refusal) → clock_error s.clock ≡ Err q → distributions_of sps n s ≡ Err q
      unfolding with_clock
      clock_refused q = by_clock (Err q)

      pub all_accepted : (c : ClockError) → clock_error s.clock ≡ Ok c → distributions_of sps n s ≡ Ok (n, (record { carrier = o; phase = p; clock = c }))
      unfolding with_clock
      all_accepted c = by_clock (Ok c)

-- refusal 14, behind the others
module _ (level : Float) (values : Result (ℕ × Distributions) Refusals.Refusal) where
  pub values_refused : (q : Refusals.Refusal) → values ≡ Err q → Err q ≡ level_then level values
  unfolding level_then
  values_refused q e = sym (ap (level_then level) e)

  module _ (n : ℕ) (d : Distributions) (e : values ≡ Ok (n, d)) where
    by_level : (b : Bool) → level_in_range level ≡ b → cond b (Ok (n, d)) (Err Refusal.TriggerLevel) ≡ level_then level values
    unfolding level_then
    by_level b t = ap (λ (x : Bool). cond x (Ok (n, d)) (Err Refusal.TriggerLevel)) (sym t) ∙ sym (ap (level_then level) e)

    pub level_refused : level_in_range level ≡ false → Err Refusal.TriggerLevel ≡ level_then level values
    level_refused = by_level false

    pub level_passes : level_in_range level ≡ true → Ok (n, d) ≡ level_then level values
    level_passes = by_level true
