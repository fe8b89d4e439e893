-- The bench checks marked P in SPECIFICATION 12: what the definitions give, beside what it says.
use Rattle.std.specs.Prelude.{ℕ, ◌+◌, ◌*◌, ◌^◌, true, false, Option, Some, None, Result, Ok, Err, List, [], ◌∷◌, ◌++◌}
use Rattle.refusals.specs.declared.Refusal.{Refusal}
use Rattle.refusals.specs.Number.{number_of}
use Rattle.constants.specs.Rate.{four, required_samples}
use Rattle.settings_duration.specs.Duration.{duration_of}
use Rattle.mode_ac.specs.Building.{from_data, from_digits}
use Rattle.pulse_map.specs.ModeAC.{mode_ac_positions}
use Rattle.mode_s.specs.Parity.{parity_of}
use Rattle.message.specs.Types.{type_number}
use Rattle.message.specs.declared.ReplyKind.TheVariants.{Short, Long}
use Rattle.message.specs.declared.Class.{Class}
use Rattle.message.specs.declared.Class.TheVariants.{OfType, TisB}
use Rattle.message.specs.Classing.{class_by}
use Rattle.pulse_map.specs.Length.{mode_s_num_samples, mode_ac_num_samples}

-- what a line speaks of: a number, a refusal by its number, the positions of pulses, a class by its number, or none
pub data Value : Type 0 where
  number : ℕ → Value
  refusal : ℕ → Value
  positions : List ℕ → Value
  class : ℕ → Value
  no_class : Value

-- a line: what the definitions give, and what SPECIFICATION 12 says
pub record Line : Type 0 where
  pub gives : Value
  pub says : Value

abbrev pub line : Value → Value → Line
line g s = record { gives = g; says = s }

-- an answer, by a number of it, or its refusal
abbrev pub of_answer : {X : Type 0} → (X → ℕ) → Result X Refusal → Value
of_answer n (Ok x) = number (n x)
of_answer n (Err q) = refusal (number_of q)

abbrev pub of_class : Option Class → Value
of_class (Some (OfType t)) = class (type_number t)
of_class (Some TisB) = class 7
of_class None = no_class

abbrev pub durations : List Line
durations =
    line (of_answer (λ n. n) (duration_of four 0 124)) (number 0) ∷
    line (of_answer (λ n. n) (duration_of four 0 125)) (number 1) ∷
    line (of_answer (λ n. n) (duration_of four 562949953 421312124)) (number (2 ^ 52)) ∷
    line (of_answer (λ n. n) (duration_of four 562949953 421312125)) (refusal 1) ∷
    []

abbrev pub lengths : List Line
lengths =
    line (number (required_samples four 0)) (number 0) ∷
    line (number (required_samples four 43)) (number 218) ∷
    line (number (required_samples four 52)) (number 258) ∷
    line (number (required_samples four 128)) (number 596) ∷
    line (number (required_samples four 240)) (number 1094) ∷
    line (number (mode_s_num_samples four true)) (number 960) ∷
    line (number (mode_s_num_samples four false)) (number 512) ∷
    line (number (mode_ac_num_samples four false)) (number 166) ∷
    line (number (mode_ac_num_samples four true)) (number 201) ∷
    []

abbrev pub replies : List Line
replies =
    line (of_answer (λ r. r.«data») (from_digits 7 0 0 0 false)) (number 3584) ∷
    line (positions (mode_ac_positions 3584 false)) (positions (0 ∷ 6 ∷ 12 ∷ 18 ∷ 42 ∷ [])) ∷
    line (of_answer (λ r. r.«data») (from_data 4095 false)) (number 4095) ∷
    line (of_answer (λ r. r.«data») (from_data 4096 false)) (refusal 10) ∷
    []

-- ASCII 123456789
abbrev pub parity : List Line
parity = line (number (parity_of (49 ∷ 50 ∷ 51 ∷ 52 ∷ 53 ∷ 54 ∷ 55 ∷ 56 ∷ 57 ∷ []))) (number 0x054268) ∷ []

-- messages with any low three bits of byte 0 and any later bytes; short AP is type 2
abbrev pub classes : ℕ → List ℕ → List Line
classes low later =
    line (of_class (class_by Long ((11 * 8 + low) ∷ later))) no_class ∷
    line (of_class (class_by Short ((4 * 8 + low) ∷ later))) (class 2) ∷
    []

abbrev pub table : ℕ → List ℕ → List Line
table low later = durations ++ (parity ++ (lengths ++ (replies ++ classes low later)))

abbrev pub gives : List Line → List Value
gives [] = []
gives (l ∷ ls) = l.gives ∷ gives ls

abbrev pub says : List Line → List Value
says [] = []
says (l ∷ ls) = l.says ∷ says ls
