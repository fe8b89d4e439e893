-- The head of a stored run: its words are below 2^64 (`words_fit`), and give the state back (`state_back`).
use Prim.Native.Nat.{◌^◌, ◌<◌}
use mathlib.Core.Path.{◌≡◌, refl, ap}
use mathlib.Core.Bool.{Bool, true, false, cond, not}
use lib.Dec.{T, eqb, lit<}
use lib.ListN.{get_or}
use lib.Ieee.{Float, binary64, fits, of_bits, to_bits}
use lib.Ieee.Bits.{of_bits-to_bits, to_bits-lt}
use Rattle.constants.specs.declared.SamplesPerPulse.{SamplesPerPulse}
use Rattle.constants.specs.declared.SamplesPerPulse.TheVariants.{Four, Eight}
use Rattle.constants.specs.Rate.{prototype_length, working_memory}
use Rattle.constants.specs.Setting.{per_pulse, setting_from}
use Rattle.constants.proofs.Settings.{setting_back}
use Rattle.distributions.specs.declared.CarrierOffset as Carrier
use Rattle.distributions.specs.declared.CarrierPhase as Phase
use Rattle.distributions.specs.declared.ClockError as Clock
use Rattle.run_theory.specs.Each.{Each}
use Rattle.run_call.specs.declared.State.{State}
use Rattle.run_bytes.specs.declared.DistributionWords.{DistributionWords}
use Rattle.run_bytes.specs.Layout.{stored_length, carrier_words, phase_words, clock_words, head_words}
use Rattle.run_bytes.specs.Reading.{carrier_from, phase_from, clock_from, state_of, is_racked}
use Rattle.run_bytes_theorem.specs.Typed.{AllOf, Word, carrier_floats, phase_floats, clock_floats, TypedState}

-- a value of f64 by its pattern
value : (x : Float) → T (fits binary64 x) → of_bits binary64 (to_bits binary64 x) ≡ x
value = of_bits-to_bits binary64

pattern : (x : Float) → T (fits binary64 x) → to_bits binary64 x < 2 ^ 64
pattern = to_bits-lt binary64

-- ---- distributions
carrier_back : (d : Carrier.CarrierOffset) → AllOf binary64 (carrier_floats d) → carrier_from (carrier_words d) ≡ d
unfolding carrier_from carrier_words
carrier_back (Carrier.TheVariants.Constant x) t = ap Carrier.TheVariants.Constant (value x t.0)
carrier_back (Carrier.TheVariants.ClampedNormal sigma max) t = λ i. Carrier.TheVariants.ClampedNormal (value sigma t.0 i) (value max t.1.0 i)

phase_back : (d : Phase.CarrierPhase) → AllOf binary64 (phase_floats d) → phase_from (phase_words d) ≡ d
unfolding phase_from phase_words
phase_back (Phase.TheVariants.Constant x) t = ap Phase.TheVariants.Constant (value x t.0)
phase_back Phase.TheVariants.Uniform t = refl

clock_back : (d : Clock.ClockError) → AllOf binary64 (clock_floats d) → clock_from (clock_words d) ≡ d
unfolding clock_from clock_words
clock_back (Clock.TheVariants.Constant x) t = ap Clock.TheVariants.Constant (value x t.0)
clock_back (Clock.TheVariants.Uniform max) t = ap Clock.TheVariants.Uniform (value max t.0)

Words : DistributionWords → Type 0
Words d = Word d.kind × (Word d.first × Word d.second)

carrier_fit : (d : Carrier.CarrierOffset) → AllOf binary64 (carrier_floats d) → Words (carrier_words d)
unfolding Words carrier_words
carrier_fit (Carrier.TheVariants.Constant x) t = (lit< tt, (pattern x t.0, lit< tt))
carrier_fit (Carrier.TheVariants.ClampedNormal sigma max) t = (lit< tt, (pattern sigma t.0, pattern max t.1.0))

phase_fit : (d : Phase.CarrierPhase) → AllOf binary64 (phase_floats d) → Words (phase_words d)
unfolding Words phase_words
phase_fit (Phase.TheVariants.Constant x) t = (lit< tt, (pattern x t.0, lit< tt))
phase_fit Phase.TheVariants.Uniform t = (lit< tt, (lit< tt, lit< tt))

clock_fit : (d : Clock.ClockError) → AllOf binary64 (clock_floats d) → Words (clock_words d)
unfolding Words clock_words
clock_fit (Clock.TheVariants.Constant x) t = (lit< tt, (pattern x t.0, lit< tt))
clock_fit (Clock.TheVariants.Uniform max) t = (lit< tt, (pattern max t.0, lit< tt))

ended_back : (b : Bool) → not (eqb (cond b 1 0) 0) ≡ b
ended_back true = refl
ended_back false = refl

racked_number : (b : Bool) → not (eqb (cond b 8190 0) 0) ≡ b
racked_number true = refl
racked_number false = refl

bit_fit : (b : Bool) → Word (cond b 1 0)
bit_fit true = lit< tt
bit_fit false = lit< tt

memory_fit : (b : Bool) → Word (cond b 8190 0)
memory_fit true = lit< tt
memory_fit false = lit< tt

length_fit : (s : SamplesPerPulse) (b : Bool) → Word (stored_length s b)
unfolding stored_length
length_fit Four false = lit< tt
length_fit Four true = lit< tt
length_fit Eight false = lit< tt
length_fit Eight true = lit< tt

setting_fit : (s : SamplesPerPulse) → (Word (prototype_length (per_pulse s)) × Word (working_memory (per_pulse s))) × Word (per_pulse s)
setting_fit Four = ((lit< tt, lit< tt), lit< tt)
setting_fit Eight = ((lit< tt, lit< tt), lit< tt)

module _ (s : State) (t : TypedState s) (racked : Bool) where
  pub state_back : state_of (head_words s racked) ≡ s
  unfolding state_of head_words
  state_back = λ i. record {
    written = s.written;
    total = s.total;
    time = value s.time t.times.0 i;
    latest = value s.latest t.times.1.0 i;
    ended = ended_back s.ended i;
    rates = record {
      extended_squitter = value s.rates.extended_squitter t.rates.0 i;
      acquisition_squitter = value s.rates.acquisition_squitter t.rates.1.0 i;
      short_ap = value s.rates.short_ap t.rates.1.1.0 i;
      all_call_reply = value s.rates.all_call_reply t.rates.1.1.1.0 i;
      long_ap = value s.rates.long_ap t.rates.1.1.1.1.0 i;
      military_extended_squitter = value s.rates.military_extended_squitter t.rates.1.1.1.1.1.0 i;
      mode_ac = value s.rates.mode_ac t.rates.1.1.1.1.1.1.0 i;
    };
    delays = record { mode_s = value s.delays.mode_s t.delays.0 i; mode_ac = value s.delays.mode_ac t.delays.1.0 i };
    distributions = record { carrier = carrier_back s.distributions.carrier t.carrier i; phase = phase_back s.distributions.phase t.phase i; clock = clock_back s.distributions.clock t.clock i };
    setting = setting_back s.setting i;
  }

  pub racked_back : is_racked (head_words s racked) ≡ racked
  unfolding is_racked head_words
  racked_back = racked_number racked

  pub setting_again : setting_from (get_or (head_words s racked) 29 0) ≡ s.setting
  unfolding head_words
  setting_again = setting_back s.setting

  pub words_fit : Each Word (head_words s racked)
  unfolding head_words Words
  words_fit =
      let c = carrier_fit s.distributions.carrier t.carrier in
      let p = phase_fit s.distributions.phase t.phase in
      let k = clock_fit s.distributions.clock t.clock in
      let n = setting_fit s.setting in
      (lit< tt, (lit< tt, (length_fit s.setting racked, (n.0.0, (n.0.1, (memory_fit racked, (t.written, (t.total, (pattern s.time t.times.0, (pattern s.latest t.times.1.0, (pattern s.rates.extended_squitter t.rates.0, (pattern s.rates.acquisition_squitter t.rates.1.0, (pattern s.rates.short_ap t.rates.1.1.0, (pattern s.rates.all_call_reply t.rates.1.1.1.0, (pattern s.rates.long_ap t.rates.1.1.1.1.0, (pattern s.rates.military_extended_squitter t.rates.1.1.1.1.1.0, (pattern s.rates.mode_ac t.rates.1.1.1.1.1.1.0, (pattern s.delays.mode_s t.delays.0, (pattern s.delays.mode_ac t.delays.1.0, (c.0, (c.1.0, (c.1.1, (p.0, (p.1.0, (p.1.1, (k.0, (k.1.0, (k.1.1, (bit_fit s.ended, (n.1, tt))))))))))))))))))))))))))))))
