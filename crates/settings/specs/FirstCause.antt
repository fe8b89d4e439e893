-- Which answer to settings is right: refusals 1 to 4 and 14 each for its cause, and for the first cause in the order of SPECIFICATION 3.2.
use Rattle.std.specs.Prelude.{Result, Ok, Err, ℕ, ◌<◌, ◌≡◌, Bool, true, false}
use Rattle.refusals.specs.declared.Refusal as Refusals
use Rattle.distributions.specs.Accepted.{finite_not_negative, carrier_offset, carrier_phase, clock_error}
use Rattle.distributions.specs.declared.CarrierOffset.{CarrierOffset}
use Rattle.distributions.specs.declared.CarrierPhase.{CarrierPhase}
use Rattle.settings_duration.specs.Duration.{duration_of}
use Rattle.refusals.specs.declared.Refusal.TheVariants as Refusal
use Rattle.settings.specs.declared.Settings.{Settings}
use Rattle.settings.specs.declared.Distributions.{Distributions}
use Rattle.settings.specs.Settings.{rates_of, rate_of}
use Rattle.settings.specs.Accepted.{total_of, total_fits, level_in_range}

-- the run has n samples
abbrev pub Lasts : ℕ → Settings → ℕ → Type 0
Lasts sps s n = duration_of sps s.seconds s.nanoseconds ≡ Ok n

-- whether rate i is finite and not negative, and that the first k are
abbrev pub good_rate : Settings → ℕ → Bool
good_rate s i = finite_not_negative (rate_of s.rates i)

abbrev pub GoodRates : Settings → ℕ → Type 0
GoodRates s k = (i : ℕ) → i < k → good_rate s i ≡ true

-- whether the rates' total is above 0 and finite
abbrev pub good_total : Settings → Bool
good_total s = total_fits (total_of (rates_of s.rates))

-- refusals 1, 2 and 3 do not apply: the run has n samples, and its rates and their total are good
pub record NoEarlierCause (sps : ℕ) (s : Settings) (n : ℕ) : Type 0 where
  pub lasts : Lasts sps s n
  pub rates : GoodRates s 7
  pub total : good_total s ≡ true

-- refusal 4 does not apply: the three distributions are accepted as these
pub record GoodDistributions (sps : ℕ) (s : Settings) (d : Distributions) : Type 0 where
  pub carrier_is : carrier_offset sps s.carrier ≡ Ok d.carrier
  pub phase_is : carrier_phase s.phase ≡ Ok d.phase
  pub clock_is : clock_error s.clock ≡ Ok d.clock

-- which answer to settings is right: each refusal for its cause, where no earlier one applies, and acceptance where none does
pub data Answered (sps : ℕ) (s : Settings) : Result (ℕ × Distributions) Refusals.Refusal → Type 0 where
  refused_1 : duration_of sps s.seconds s.nanoseconds ≡ Err Refusal.Duration → Answered sps s (Err Refusal.Duration)
  refused_2 : {k n : ℕ} → Lasts sps s n → k < 7 → GoodRates s k → good_rate s k ≡ false → Answered sps s (Err (Refusal.Rate k))
  refused_3 : {n : ℕ} → Lasts sps s n → GoodRates s 7 → good_total s ≡ false → Answered sps s (Err Refusal.Total)
  refused_4_0 : {n : ℕ} → NoEarlierCause sps s n → carrier_offset sps s.carrier ≡ Err (Refusal.Distribution 0) → Answered sps s (Err (Refusal.Distribution 0))
  refused_4_1 : {n : ℕ} {o : CarrierOffset} → NoEarlierCause sps s n → carrier_offset sps s.carrier ≡ Ok o
      → carrier_phase s.phase ≡ Err (Refusal.Distribution 1) → Answered sps s (Err (Refusal.Distribution 1))
  refused_4_2 : {n : ℕ} {o : CarrierOffset} {p : CarrierPhase} → NoEarlierCause sps s n → carrier_offset sps s.carrier ≡ Ok o
      → carrier_phase s.phase ≡ Ok p → clock_error s.clock ≡ Err (Refusal.Distribution 2) → Answered sps s (Err (Refusal.Distribution 2))
  refused_14 : {n : ℕ} {d : Distributions} → NoEarlierCause sps s n → GoodDistributions sps s d → level_in_range s.trigger_level ≡ false → Answered sps s (Err Refusal.TriggerLevel)
  accepted : {n : ℕ} {d : Distributions} → NoEarlierCause sps s n → GoodDistributions sps s d → level_in_range s.trigger_level ≡ true → Answered sps s (Ok (n, d))
