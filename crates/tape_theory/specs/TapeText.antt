-- The tape program (SPECIFICATION 11.1) as a function of the tape's bytes: the text that it prints.
use Rattle.std.specs.Prelude.{ℕ, ◌+◌, ◌*◌, ◌/◌, ◌%◌, cond, ◌≡◌, Result, Ok, Err, List, [], ◌∷◌, ltb, length, take, drop}
use Rattle.constants.specs.Rate.{prototype_length, working_memory}
use Rattle.constants.specs.Setting.{per_pulse}
use Rattle.constants.specs.declared.SamplesPerPulse.{SamplesPerPulse}
use Rattle.run_theory.specs.Zeros.{zeros}
use Rattle.refusals.specs.Number.{number_of}
use Rattle.refusals.specs.declared.Refusal.{Refusal}
use Rattle.pulse_shape.specs.Prototype.{mode_s_prototype, mode_ac_prototype}
use Rattle.run_theory.specs.PlainBench.{draws_of}
use Rattle.run_call.specs.declared.State.{State}
use Rattle.run_call.specs.StateGenerator.{gen_of}
use Rattle.run_open.specs.Opening.{OpenBuffers}
use Rattle.tape_sections.specs.Floats.{floats_of}
use Rattle.tape_sections.specs.Sections.{draws_offset, noise_offset, tape_setting, tape_sps}
use Rattle.tape_text.specs.Text.{refused_text}
use Rattle.tape_head.specs.declared.Beginning.{Beginning}
use Rattle.tape_head.specs.Head.{taps_s, taps_ac, head_of}
use Rattle.tape_theory.specs.Fed.{Chunk}
use Rattle.tape_theory.specs.PlainTape.{plain_text}

-- what the program passes to opening, at the samples per pulse by which it reads the tape
unfoldable pub lent_by_program : SamplesPerPulse → OpenBuffers
lent_by_program setting = record { mode_s = zeros (prototype_length (per_pulse setting)); mode_ac = zeros (prototype_length (per_pulse setting)); memory = zeros (working_memory (per_pulse setting)) }

-- chunks of the noise in parts of bytes: each a whole number of values
unfoldable pub Parts : List (List ℕ) → List Chunk → Type 0
Parts [] [] = Unit {0}
Parts [] (c ∷ cs) = ⊥
Parts (b ∷ bs) [] = ⊥
Parts (b ∷ bs) (c ∷ cs) = (c.noise ≡ floats_of (length b / 4) b) × (length b % 4 ≡ 0) × Parts bs cs

module _ (tape : List ℕ) where
  -- the bytes of n draws, and those behind the noise's count
  unfoldable pub draws_section : ℕ → List ℕ
  draws_section n = take (65 * n) (drop (draws_offset (tape_sps tape) + 4) tape)

  unfoldable pub behind_count : ℕ → List ℕ
  behind_count n = drop (noise_offset (tape_sps tape) n + 4) tape

  -- a noise section's length comes before its values; then the plain run on all draws and noise, with or without bytes left over
  unfoldable pub section_text : State → ℕ → ℕ → List ℕ
  section_text s n count =
      cond (ltb (length (behind_count n)) (4 * count)) (refused_text 11)
      (plain_text s (mode_s_prototype (tape_sps tape) (taps_s (tape_sps tape) tape)) (mode_ac_prototype (tape_sps tape) (taps_ac (tape_sps tape) tape)) (ltb (4 * count) (length (behind_count n)))
      (draws_of (gen_of s (mode_s_prototype (tape_sps tape) (taps_s (tape_sps tape) tape)) (mode_ac_prototype (tape_sps tape) (taps_ac (tape_sps tape) tape))) (draws_section n)) (floats_of count (behind_count n)))

  unfoldable pub head_text : (Result Beginning Refusal) → List ℕ
  head_text (Ok b) = section_text b.state b.draws b.noise
  head_text (Err q) = refused_text (number_of q)

  unfoldable pub tape_text : List ℕ
  tape_text = head_text (head_of tape (lent_by_program (tape_setting tape))).head
