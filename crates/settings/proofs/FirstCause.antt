-- Refusals 1 to 4 and 14 are each given for their cause only, and for the first cause in the order of SPECIFICATION 3.2: the answer to settings is one that `Answered` of specs/ allows (`answered`), and no other (`only`).
-- So settings with no cause are accepted, and settings with a cause are refused.
use Rattle.std.specs.Prelude.{Option, Some, None, Result, Ok, Err}
use Rattle.distributions.specs.declared.ClockError.{ClockError}
use Prim.Native.Nat.{ℕ, ◌≤◌}
use mathlib.Core.Path.{◌≡◌, refl, sym, ap, ◌∙◌, subst}
use mathlib.Core.Bool.{Bool, true, false, cond}
use native.Mathlib.Nat.{zero-add}
use native.Mathlib.Omega.{arith}
use lib.Dec.{leb, ltb}
use borrow.Author.Tests.{ltb-false}
use Rattle.distributions.specs.Accepted.{carrier_offset, carrier_phase, clock_error}
use Rattle.distributions.specs.declared.CarrierOffset.{CarrierOffset}
use Rattle.distributions.specs.declared.CarrierPhase.{CarrierPhase}
use Rattle.distributions.proofs.Refused as Refused
use Rattle.settings_duration.specs.Duration.{samples_of, most_samples, duration_of}
use Rattle.refusals.specs.declared.Refusal as Refusals
use Rattle.refusals.specs.declared.Refusal.TheVariants as Refusal
use Rattle.settings.specs.declared.Settings.{Settings}
use Rattle.settings.specs.declared.Distributions.{Distributions}
use Rattle.settings.specs.Settings.{rates_of, rate_of}
use Rattle.settings.specs.Accepted.{first_bad_rate, with_clock, with_phase, with_offset, distributions_of, total_then, rates_then, duration_then, values_of, level_in_range, level_then, accepted_of}
use Rattle.settings.specs.FirstCause.{Lasts, GoodRates, good_total, NoEarlierCause, GoodDistributions, Answered, refused_1, refused_2, refused_3, refused_4_0, refused_4_1, refused_4_2, refused_14, accepted}
use Rattle.settings.proofs.Decided.{duration_refused, duration_passes, rate_refused, total_refused, rates_pass, offset_refused, phase_refused, clock_refused, all_accepted, values_refused, level_refused, level_passes}
use Rattle.settings.proofs.Rates.{Found, found, finds_none, finds}

-- ---- for its cause only
-- a duration is refused for its own length only
duration_is : (sps a b : ℕ) (q : Refusals.Refusal) → duration_of sps a b ≡ Err q → q ≡ Refusal.Duration
unfolding duration_of
duration_is sps a b q = go (leb 1000000000 b) (ltb most_samples (samples_of sps a b)) (samples_of sps a b)
  where
    go : (x y : Bool) (m : ℕ) → cond x (Err Refusal.Duration) (cond y (Err Refusal.Duration) (Ok m)) ≡ Err q → q ≡ Refusal.Duration
    go true y m e = cc
    go false true m e = cc
    go false false m e = cc

-- and accepted with the samples that it has, at most 2^52
pub lasts_for : (sps a b n : ℕ) → duration_of sps a b ≡ Ok n → (n ≡ samples_of sps a b) × (n ≤ most_samples)
unfolding duration_of
lasts_for sps a b n = go (leb 1000000000 b) (ltb most_samples (samples_of sps a b)) (samples_of sps a b) refl
  where
    go : (x y : Bool) (m : ℕ) → ltb most_samples m ≡ y → cond x (Err Refusal.Duration) (cond y (Err Refusal.Duration) (Ok m)) ≡ Ok n → (n ≡ m) × (n ≤ most_samples)
    go true y m t e = let z : ◌≡◌ {A = ℕ} 0 1 = cc in absurd (omega arith)
    go false true m t e = let z : ◌≡◌ {A = ℕ} 0 1 = cc in absurd (omega arith)
    go false false m t e = let f : n ≡ m = cc in (f, omega (arith, ltb-false most_samples m t))

module _ (sps : ℕ) (s : Settings) where
  -- right once 14 is checked behind the values' answer
  abbrev Behind : Result (ℕ × Distributions) Refusals.Refusal → Type 0
  Behind values = Answered sps s (level_then s.trigger_level values)

  -- a refusal that is right under one name is right under another of it
  named : (q r : Refusals.Refusal) → q ≡ r → Answered sps s (Err r) → Answered sps s (Err q)
  named q r e = subst (λ (x : Refusals.Refusal). Answered sps s (Err x)) (sym e)

  by_level : (n : ℕ) (d : Distributions) → NoEarlierCause sps s n → GoodDistributions sps s d → (b : Bool) → level_in_range s.trigger_level ≡ b
      → Answered sps s (cond b (Ok (n, d)) (Err Refusal.TriggerLevel))
  by_level n d P D true e = accepted P D e
  by_level n d P D false e = refused_14 P D e

  by_clock : (n : ℕ) (o : CarrierOffset) (p : CarrierPhase) → NoEarlierCause sps s n → carrier_offset sps s.carrier ≡ Ok o
      → carrier_phase s.phase ≡ Ok p → (a : Result ClockError Refusals.Refusal) → clock_error s.clock ≡ a → Behind (with_clock n o p a)
  unfolding with_clock level_then
  by_clock n o p P f g (Ok c) e =
      by_level n (record { carrier = o; phase = p; clock = c }) P (record { carrier_is = f; phase_is = g; clock_is = e }) (level_in_range s.trigger_level) refl
  by_clock n o p P f g (Err q) e = let z = Refused.clock_refused s.clock q e in named q _ z (refused_4_2 P f g (e ∙ ap Err z))

  by_phase : (n : ℕ) (o : CarrierOffset) → NoEarlierCause sps s n → carrier_offset sps s.carrier ≡ Ok o
      → (a : Result CarrierPhase Refusals.Refusal) → carrier_phase s.phase ≡ a → Behind (with_phase n o a (clock_error s.clock))
  unfolding with_phase level_then
  by_phase n o P f (Ok p) e = by_clock n o p P f e (clock_error s.clock) refl
  by_phase n o P f (Err q) e = let z = Refused.phase_refused s.phase q e in named q _ z (refused_4_1 P f (e ∙ ap Err z))

  by_offset : (n : ℕ) → NoEarlierCause sps s n → (a : Result CarrierOffset Refusals.Refusal) → carrier_offset sps s.carrier ≡ a → Behind (with_offset n a (carrier_phase s.phase) (clock_error s.clock))
  unfolding with_offset level_then
  by_offset n P (Ok o) e = by_phase n o P e (carrier_phase s.phase) refl
  by_offset n P (Err q) e = let z = Refused.offset_refused sps s.carrier q e in named q _ z (refused_4_0 P (e ∙ ap Err z))

  by_total : (n : ℕ) → Lasts sps s n → GoodRates s 7 → (b : Bool) → good_total s ≡ b → Behind (cond b (distributions_of sps n s) (Err Refusal.Total))
  unfolding distributions_of level_then
  by_total n l g true e = by_offset n (record { lasts = l; rates = g; total = e }) (carrier_offset sps s.carrier) refl
  by_total n l g false e = refused_3 l g e

  by_rates : (n : ℕ) → Lasts sps s n → (b : Option ℕ) → Found 0 (rates_of s.rates) b → Behind (total_then sps n s b)
  unfolding total_then rates_of rate_of level_then
  by_rates n l None g = by_total n l g (good_total s) refl
  by_rates n l (Some j) (i, e, h, g, bad) = subst (λ (k : ℕ). Answered sps s (Err (Refusal.Rate k))) (sym (e ∙ zero-add i)) (refused_2 l h g bad)

  by_duration : (a : Result ℕ Refusals.Refusal) → duration_of sps s.seconds s.nanoseconds ≡ a → Behind (duration_then sps s a)
  unfolding duration_then rates_then level_then
  by_duration (Ok n) e = by_rates n e (first_bad_rate 0 (rates_of s.rates)) (found 0 (rates_of s.rates))
  by_duration (Err q) e = let z = duration_is sps s.seconds s.nanoseconds q e in named q _ z (refused_1 (e ∙ ap Err z))

  pub answered : Answered sps s (accepted_of sps s)
  unfolding accepted_of values_of
  answered = by_duration (duration_of sps s.seconds s.nanoseconds) refl

  -- ---- and the first
  values_pass : (n : ℕ) → NoEarlierCause sps s n → values_of sps s ≡ distributions_of sps n s
  unfolding rates_of rate_of
  values_pass n P = duration_passes sps s n P.lasts ∙ rates_pass sps n s (finds_none 0 (rates_of s.rates) P.rates) P.total

  all_pass : (n : ℕ) (d : Distributions) → NoEarlierCause sps s n → GoodDistributions sps s d → values_of sps s ≡ Ok (n, d)
  all_pass n d P D = values_pass n P ∙ all_accepted sps n s d.carrier D.carrier_is d.phase D.phase_is d.clock D.clock_is

  -- a refusal of the values is the answer
  refuses : (q : Refusals.Refusal) → values_of sps s ≡ Err q → accepted_of sps s ≡ Err q
  unfolding accepted_of
  refuses q e = sym (values_refused s.trigger_level (values_of sps s) q e)

  pub only : (c : Result (ℕ × Distributions) Refusals.Refusal) → Answered sps s c → accepted_of sps s ≡ c
  unfolding rates_of rate_of accepted_of
  only c (refused_1 e) = refuses _ (duration_refused sps s _ e)
  only c (refused_2 {k} {n} l h g bad) = refuses _ (duration_passes sps s n l ∙ rate_refused sps n s k (finds 0 (rates_of s.rates) k h g bad ∙ ap Some (zero-add k)))
  only c (refused_3 {n} l g e) = refuses _ (duration_passes sps s n l ∙ total_refused sps n s (finds_none 0 (rates_of s.rates) g) e)
  only c (refused_4_0 {n} P e) = refuses _ (values_pass n P ∙ offset_refused sps n s _ e)
  only c (refused_4_1 {n} {o} P f e) = refuses _ (values_pass n P ∙ phase_refused sps n s o f _ e)
  only c (refused_4_2 {n} {o} {p} P f g e) = refuses _ (values_pass n P ∙ clock_refused sps n s o f p g _ e)
  only c (refused_14 {n} {d} P D e) = sym (level_refused s.trigger_level (values_of sps s) n d (all_pass n d P D) e)
  only c (accepted {n} {d} P D e) = sym (level_passes s.trigger_level (values_of sps s) n d (all_pass n d P D) e)

-- ---- what acceptance says
pub accepted_passes : (sps : ℕ) (s : Settings) (n : ℕ) (d : Distributions) → accepted_of sps s ≡ Ok (n, d) → NoEarlierCause sps s n
accepted_passes sps s n d e = go (subst (Answered sps s) e (answered sps s))
  where
    go : Answered sps s (Ok (n, d)) → NoEarlierCause sps s n
    go (accepted P D t) = P
