-- The bytes of a stored run (SPECIFICATION 16.1): its head, its numbers in order, and the check of these; and what `save` answers and leaves.
use Rattle.std.specs.Prelude.{Option, Some, None, is_some, Result, Ok, Err, Bool, ◌&&◌, cond, List, [], ◌∷◌, ◌++◌, ℕ, ◌+◌, ◌*◌, eqb, Float, length}
use Rattle.std.specs.Float.{binary64}
use Rattle.std.specs.Float.Ieee.{to_bits}
use Rattle.constants.specs.declared.SamplesPerPulse.{SamplesPerPulse}
use Rattle.constants.specs.Rate.{prototype_length, working_memory}
use Rattle.constants.specs.Setting.{per_pulse}
use Rattle.distributions.specs.declared.CarrierOffset as Carrier
use Rattle.distributions.specs.declared.CarrierPhase as Phase
use Rattle.distributions.specs.declared.ClockError as Clock
use Rattle.le_read.specs.LeBytes.{bytes_of}
use Rattle.tape_sections.specs.Floats.{float_bytes}
use Rattle.rack.specs.declared.Rack.{Rack}
use Rattle.rack.specs.Feeds.{memory_length}
use Rattle.refusals.specs.declared.Refusal.{Refusal}
use Rattle.refusals.specs.declared.Refusal.TheVariants.{Length}
use Rattle.run_call.specs.declared.State.{State}
use Rattle.run_bytes.specs.declared.DistributionWords.{DistributionWords}
use Rattle.run_bytes.specs.Sums.{sums_of}

-- "MORE1090", its first letter the lowest byte; and the version of this layout
abbrev pub magic : ℕ
magic = 0x3039_3031_4552_4f4d

abbrev pub version : ℕ
version = 1

-- the words of the head, 8 bytes each; and the bytes of a rack: 18 words, 16 gains and its memory
abbrev pub head_count : ℕ
head_count = 30

abbrev pub rack_length : ℕ
rack_length = 8 * 18 + 4 * 16 + 4 * memory_length

-- the bytes of a run: the head, two prototypes, working memory, a rack where there is one, and the check, two words
unfoldable pub stored_length : SamplesPerPulse → Bool → ℕ
stored_length setting racked = 8 * head_count + 4 * (2 * prototype_length (per_pulse setting) + working_memory (per_pulse setting)) + cond racked rack_length 0 + 16

-- a distribution as three words: its kind as the settings have it, and two f64 by their patterns, 0 for one that it does not use
unfoldable pub carrier_words : Carrier.CarrierOffset → DistributionWords
carrier_words (Carrier.TheVariants.Constant x) = record { kind = 0; first = to_bits binary64 x; second = 0 }
carrier_words (Carrier.TheVariants.ClampedNormal sigma max) = record { kind = 1; first = to_bits binary64 sigma; second = to_bits binary64 max }

unfoldable pub phase_words : Phase.CarrierPhase → DistributionWords
phase_words (Phase.TheVariants.Constant x) = record { kind = 0; first = to_bits binary64 x; second = 0 }
phase_words Phase.TheVariants.Uniform = record { kind = 1; first = 0; second = 0 }

unfoldable pub clock_words : Clock.ClockError → DistributionWords
clock_words (Clock.TheVariants.Constant x) = record { kind = 0; first = to_bits binary64 x; second = 0 }
clock_words (Clock.TheVariants.Uniform max) = record { kind = 1; first = to_bits binary64 max; second = 0 }

-- the words of the head: what the bytes are and how many, then the state
unfoldable pub head_words : State → Bool → List ℕ
head_words s racked =
    let carrier = carrier_words s.distributions.carrier in
    let phase = phase_words s.distributions.phase in
    let clock = clock_words s.distributions.clock in
    magic ∷ version ∷ stored_length s.setting racked ∷ prototype_length (per_pulse s.setting) ∷ working_memory (per_pulse s.setting) ∷ cond racked memory_length 0
    ∷ s.written ∷ s.total ∷ to_bits binary64 s.time ∷ to_bits binary64 s.latest
    ∷ to_bits binary64 s.rates.extended_squitter ∷ to_bits binary64 s.rates.acquisition_squitter ∷ to_bits binary64 s.rates.short_ap ∷ to_bits binary64 s.rates.all_call_reply
    ∷ to_bits binary64 s.rates.long_ap ∷ to_bits binary64 s.rates.military_extended_squitter ∷ to_bits binary64 s.rates.mode_ac
    ∷ to_bits binary64 s.delays.mode_s ∷ to_bits binary64 s.delays.mode_ac
    ∷ carrier.kind ∷ carrier.first ∷ carrier.second ∷ phase.kind ∷ phase.first ∷ phase.second ∷ clock.kind ∷ clock.first ∷ clock.second
    ∷ cond s.ended 1 0 ∷ per_pulse s.setting ∷ []

-- the bytes of words, 8 each
unfoldable pub word_bytes : List ℕ → List ℕ
word_bytes [] = []
word_bytes (w ∷ ws) = bytes_of 8 w ++ word_bytes ws

-- a rack: the number of feeds, the samples seen, sixteen delays and sixteen gains, and its memory
unfoldable pub rack_bytes : Option Rack → List Float → List ℕ
rack_bytes None memory = []
rack_bytes (Some r) memory = word_bytes (r.feeds ∷ r.seen ∷ r.delays) ++ float_bytes r.gains ++ float_bytes memory

-- what a run holds between two calls, with a rack behind it or without
pub record Held : Type 0 where
  pub state : State
  pub mode_s : List Float
  pub mode_ac : List Float
  pub memory : List Float
  pub rack : Option Rack
  pub rack_memory : List Float

-- what the check is of
unfoldable pub body_of : Held → List ℕ
body_of h = word_bytes (head_words h.state (is_some h.rack)) ++ float_bytes h.mode_s ++ float_bytes h.mode_ac ++ float_bytes h.memory ++ rack_bytes h.rack h.rack_memory

unfoldable pub checked : List ℕ → List ℕ
checked body = body ++ word_bytes ((sums_of body).sum ∷ (sums_of body).sum_of_sums ∷ [])

unfoldable pub stored_bytes : Held → List ℕ
stored_bytes h = checked (body_of h)

-- the lengths of the lists are those of the setting; a rack's memory is empty where there is no rack
unfoldable pub lists_fit : SamplesPerPulse → Bool → ℕ → ℕ → ℕ → ℕ → Bool
lists_fit setting racked mode_s mode_ac memory rack_memory =
    eqb mode_s (prototype_length (per_pulse setting)) && eqb mode_ac (prototype_length (per_pulse setting)) && eqb memory (working_memory (per_pulse setting)) && eqb rack_memory (cond racked memory_length 0)

unfoldable pub held_fits : Held → Bool
held_fits h = lists_fit h.state.setting (is_some h.rack) (length h.mode_s) (length h.mode_ac) (length h.memory) (length h.rack_memory)

-- what `save` answers, and its bytes afterwards: refusal 9 for any length leaves them
pub record Saved : Type 0 where
  pub answer : Result (Unit {0}) Refusal
  pub bytes : List ℕ

unfoldable pub save_left : Held → List ℕ → Saved
save_left h bytes =
    cond (held_fits h && eqb (length bytes) (stored_length h.state.setting (is_some h.rack))) (record { answer = Ok tt; bytes = stored_bytes h }) (record { answer = Err Length; bytes = bytes })
