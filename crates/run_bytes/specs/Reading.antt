-- A run read back from bytes (SPECIFICATION 16.3): the refusals in order, the state and the rack, and the buffers that are filled.
use Rattle.std.specs.Prelude.{Some, None, Result, Ok, Err, Bool, not, ◌&&◌, cond, List, [], ◌∷◌, ℕ, zero, suc, ◌+◌, ◌-◌, ◌*◌, eqb, ltb, Float, length, get_or, take, drop}
use Rattle.std.specs.Float.{binary64}
use Rattle.std.specs.Float.Ieee.{of_bits}
use Rattle.std.specs.Bool.{nat_eq}
use Rattle.std.specs.Cmp.Lexicographic.{pointwise}
use Rattle.constants.specs.declared.SamplesPerPulse.{SamplesPerPulse}
use Rattle.constants.specs.Rate.{prototype_length, working_memory}
use Rattle.constants.specs.Setting.{per_pulse, setting_from}
use Rattle.distributions.specs.declared.CarrierOffset as Carrier
use Rattle.distributions.specs.declared.CarrierPhase as Phase
use Rattle.distributions.specs.declared.ClockError as Clock
use Rattle.le_read.specs.LeBytes.{number_at}
use Rattle.tape_sections.specs.Floats.{floats_of}
use Rattle.rack.specs.declared.Rack.{Rack}
use Rattle.rack.specs.Feeds.{memory_length}
use Rattle.run_call.specs.declared.State.{State}
use Rattle.run_bytes.specs.declared.DistributionWords.{DistributionWords}
use Rattle.run_bytes.specs.declared.Restored.{Restored}
use Rattle.run_bytes.specs.declared.Unreadable.{Unreadable}
use Rattle.run_bytes.specs.declared.Unreadable.TheVariants.{Buffers, Short, Foreign, Version, Damaged}
use Rattle.run_bytes.specs.Layout.{magic, version, head_count, stored_length, head_words, lists_fit}
use Rattle.run_bytes.specs.Sums.{sums_of}

-- the numbers of the refusals (SPECIFICATION 3.1)
unfoldable pub number_of : Unreadable → ℕ
number_of Buffers = 9
number_of Short = 19
number_of Foreign = 20
number_of Version = 21
number_of Damaged = 22

-- n words from an offset on; 0 for each that is not all there
unfoldable pub words_at : ℕ → List ℕ → ℕ → List ℕ
words_at zero bytes at = []
words_at (suc n) bytes at = number_at 8 bytes at ∷ words_at n bytes (at + 8)

abbrev pub word : List ℕ → ℕ → ℕ
word ws k = get_or ws k 0

abbrev pub f64_of : ℕ → Float
f64_of = of_bits binary64

-- a distribution by its words: kind 0 is a constant, any other number the other
unfoldable pub carrier_from : DistributionWords → Carrier.CarrierOffset
carrier_from d = cond (eqb d.kind 0) (Carrier.TheVariants.Constant (f64_of d.first)) (Carrier.TheVariants.ClampedNormal (f64_of d.first) (f64_of d.second))

unfoldable pub phase_from : DistributionWords → Phase.CarrierPhase
phase_from d = cond (eqb d.kind 0) (Phase.TheVariants.Constant (f64_of d.first)) Phase.TheVariants.Uniform

unfoldable pub clock_from : DistributionWords → Clock.ClockError
clock_from d = cond (eqb d.kind 0) (Clock.TheVariants.Constant (f64_of d.first)) (Clock.TheVariants.Uniform (f64_of d.first))

-- the state by the words of a head, whatever they are
unfoldable pub state_of : List ℕ → State
state_of ws = record {
  written = word ws 6;
  total = word ws 7;
  time = f64_of (word ws 8);
  latest = f64_of (word ws 9);
  ended = not (eqb (word ws 28) 0);
  rates = record { extended_squitter = f64_of (word ws 10); acquisition_squitter = f64_of (word ws 11); short_ap = f64_of (word ws 12); all_call_reply = f64_of (word ws 13); long_ap = f64_of (word ws 14); military_extended_squitter = f64_of (word ws 15); mode_ac = f64_of (word ws 16) };
  delays = record { mode_s = f64_of (word ws 17); mode_ac = f64_of (word ws 18) };
  distributions = record {
    carrier = carrier_from (record { kind = word ws 19; first = word ws 20; second = word ws 21 });
    phase = phase_from (record { kind = word ws 22; first = word ws 23; second = word ws 24 });
    clock = clock_from (record { kind = word ws 25; first = word ws 26; second = word ws 27 });
  };
  setting = setting_from (word ws 29);
}

unfoldable pub is_racked : List ℕ → Bool
is_racked ws = not (eqb (word ws 5) 0)

-- the words of the head of any bytes
unfoldable pub head_at : List ℕ → List ℕ
head_at bytes = words_at head_count bytes 0

-- the check: the last two words are the sums of all before them
unfoldable pub sums_match : List ℕ → Bool
sums_match bytes =
    let n = length bytes - 16 in
    let sums = sums_of (take n bytes) in
    eqb (number_at 8 bytes n) sums.sum && eqb (number_at 8 bytes (n + 8)) sums.sum_of_sums

-- the words are the head that some state has
unfoldable pub is_head : List ℕ → Bool
is_head ws = pointwise nat_eq ws (head_words (state_of ws) (is_racked ws))

-- the head of a state, of as many bytes, which the check fits
unfoldable pub sound : List ℕ → List ℕ → Bool
sound ws bytes = is_head ws && (eqb (length bytes) (stored_length (setting_from (word ws 29)) (is_racked ws)) && sums_match bytes)

-- 19 for bytes too short for a head and the check, 20 for another magic number, 21 for another version, 19 for another length than the head says, 22 for the rest
unfoldable pub head_of : List ℕ → Result (List ℕ) Unreadable
head_of bytes =
    let ws = head_at bytes in
    cond (ltb (length bytes) (8 * head_count + 16)) (Err Short)
    (cond (not (eqb (word ws 0) magic)) (Err Foreign)
    (cond (not (eqb (word ws 1) version)) (Err Version)
    (cond (not (eqb (word ws 2) (length bytes))) (Err Short)
    (cond (sound ws bytes) (Ok ws) (Err Damaged)))))

-- the buffers that are filled: the two prototypes, working memory, and a rack's memory
pub record Lent : Type 0 where
  pub mode_s : List Float
  pub mode_ac : List Float
  pub memory : List Float
  pub rack_memory : List Float

-- what `restore` answers, and the buffers afterwards
pub record Taken : Type 0 where
  pub answer : Result Restored Unreadable
  pub lent : Lent

-- the places of the parts behind the head
abbrev pub mode_s_place : ℕ
mode_s_place = 8 * head_count

unfoldable pub mode_ac_place : SamplesPerPulse → ℕ
mode_ac_place setting = mode_s_place + 4 * prototype_length (per_pulse setting)

unfoldable pub memory_place : SamplesPerPulse → ℕ
memory_place setting = mode_s_place + 8 * prototype_length (per_pulse setting)

unfoldable pub rack_place : SamplesPerPulse → ℕ
rack_place setting = memory_place setting + 4 * working_memory (per_pulse setting)

-- the rack that stands at a place
unfoldable pub rack_at : List ℕ → ℕ → Rack
rack_at bytes at = record { feeds = number_at 8 bytes at; seen = number_at 8 bytes (at + 8); delays = words_at 16 bytes (at + 16); gains = floats_of 16 (drop (at + 144) bytes) }

-- of sound bytes, with this head
unfoldable pub restored_of : List ℕ → List ℕ → Restored
restored_of bytes ws = record { state = state_of ws; rack = cond (is_racked ws) (Some (rack_at bytes (rack_place (setting_from (word ws 29))))) None }

unfoldable pub filled_of : List ℕ → List ℕ → Lent
filled_of bytes ws =
    let setting = setting_from (word ws 29) in
    record {
      mode_s = floats_of (prototype_length (per_pulse setting)) (drop mode_s_place bytes);
      mode_ac = floats_of (prototype_length (per_pulse setting)) (drop (mode_ac_place setting) bytes);
      memory = floats_of (working_memory (per_pulse setting)) (drop (memory_place setting) bytes);
      rack_memory = floats_of (cond (is_racked ws) memory_length 0) (drop (rack_place setting + 208) bytes);
    }

-- 9 for buffers of other lengths; a refusal takes nothing and changes no buffer
unfoldable pub taken_by : List ℕ → Lent → Result (List ℕ) Unreadable → Taken
taken_by bytes lent (Err q) = record { answer = Err q; lent = lent }
taken_by bytes lent (Ok ws) =
    cond (lists_fit (setting_from (word ws 29)) (is_racked ws) (length lent.mode_s) (length lent.mode_ac) (length lent.memory) (length lent.rack_memory))
    (record { answer = Ok (restored_of bytes ws); lent = filled_of bytes ws }) (record { answer = Err Buffers; lent = lent })

unfoldable pub restore_left : List ℕ → Lent → Taken
restore_left bytes lent = taken_by bytes lent (head_of bytes)
