-- What may be reported of a tape that is read from somewhere, with record bytes given before and left after (`Reported`, the contract of `tape_run::run_tape`); and the same in the plain run's terms (`PlainlyReported`).
use Rattle.std.specs.Prelude.{ℕ, ◌*◌, Bool, cond, ◌≡◌, Result, Err, List, [], length, Float}
use Rattle.refusals.specs.Number.{number_of}
use Rattle.refusals.specs.declared.Refusal.{Refusal}
use Rattle.pulse_shape.specs.Prototype.{mode_s_prototype, mode_ac_prototype}
use Rattle.run_theory.specs.PlainBench.{draws_of}
use Rattle.run_call.specs.declared.State.{State}
use Rattle.run_call.specs.StateGenerator.{gen_of}
use Rattle.tape_sections.specs.Sections.{most_draws, tape_setting, tape_sps}
use Rattle.tape_text.specs.Text.{run_text, refused_text}
use Rattle.tape_head.specs.declared.Beginning.{Beginning}
use Rattle.tape_head.specs.Head.{run_of, taps_s, taps_ac, head_of}
use Rattle.std.specs.declared.io.Error.{Error}
use Rattle.tape_feed.specs.declared.SectionEnd.{SectionEnd}
use Rattle.tape_feed.specs.declared.Outcome as Outcome
use Rattle.tape_feed.specs.Verdict.{is_cut_short, outcome_of, outcome_done}
use Rattle.tape_theory.specs.Fed.{Held, begun}
use Rattle.tape_theory.specs.PlainTape.{Ending, done, refused, plain_ending, plain_text, FedCut}
use Rattle.tape_theory.specs.TapeText.{lent_by_program, draws_section}

module _ (tape : List ℕ) where
  -- the prototypes of a tape's filters
  abbrev pub mode_s_of : List Float
  mode_s_of = mode_s_prototype (tape_sps tape) (taps_s (tape_sps tape) tape)

  abbrev pub mode_ac_of : List Float
  mode_ac_of = mode_ac_prototype (tape_sps tape) (taps_ac (tape_sps tape) tape)

  -- its head, opened with what the program lends
  abbrev pub head_read : Result Beginning Refusal
  head_read = (head_of tape (lent_by_program (tape_setting tape))).head

  -- working memory behind its head
  abbrev pub memory_left : List Float
  memory_left = (head_of tape (lent_by_program (tape_setting tape))).left.memory

-- the bytes given for records: 66 for each draw that a tape may have
abbrev pub records_lent : ℕ
records_lent = 66 * most_draws

-- what is left in them: the records of a run that is done, else what they held
unfoldable pub records_left : Outcome.Outcome → List ℕ → List ℕ → List ℕ
records_left outcome written before = cond (outcome_done outcome) written before

-- what is right to report of some tape
pub data Reported (outcome : Outcome.Outcome) (before after : List ℕ) : Type 0 where
  -- of one whose head is refused, its refusal, with no sample
  head_refused : (tape : List ℕ) (q : Refusal) → head_read tape ≡ Err q → outcome ≡ Outcome.TheVariants.Refused q 0 → after ≡ before → Reported outcome before after
  -- of one whose head begins a run, the outcome of that run, fed noise that is cut as `FedCut` asks: as many values as the count says, unless the section is cut short; by how the section ended
  run : (tape : List ℕ) (s : State) (n count : ℕ) → head_read tape ≡ run_of s n count → length before ≡ records_lent → (f : Held) (end : SectionEnd)
      → FedCut (mode_s_of tape) (mode_ac_of tape) (draws_section tape n) count (begun s (memory_left tape) before) (is_cut_short end) f
      → outcome ≡ outcome_of end f.feed → after ≡ records_left outcome f.records before → Reported outcome before after

-- how many records are reported
abbrev pub records_in : Outcome.Outcome → ℕ
records_in (Outcome.TheVariants.Done records samples) = records
records_in (Outcome.TheVariants.Refused q samples) = 0
records_in (Outcome.TheVariants.Untaken why) = 0

-- ---- in the plain run's terms
-- an outcome and record bytes that say an ending: a run that is done by its records and samples, with its record bytes; a refusal of that number, with the bytes as they were
abbrev pub Says : Ending → Outcome.Outcome → List ℕ → List ℕ → Type 0
Says (done bytes records samples) outcome before after = (outcome ≡ Outcome.TheVariants.Done records samples) × (after ≡ bytes)
Says (refused number) outcome before after = (q : Refusal) × (samples : ℕ) × (outcome ≡ Outcome.TheVariants.Refused q samples) × (number_of q ≡ number) × (after ≡ before)

-- the text of an outcome and record bytes
unfoldable pub outcome_text : Outcome.Outcome → List ℕ → List ℕ
outcome_text (Outcome.TheVariants.Done records samples) bytes = run_text bytes records samples
outcome_text (Outcome.TheVariants.Refused q samples) bytes = refused_text (number_of q)
outcome_text (Outcome.TheVariants.Untaken why) bytes = []

pub data PlainlyReported (outcome : Outcome.Outcome) (before after : List ℕ) : Type 0 where
  -- of a head that is refused, its number
  number_refused : (tape : List ℕ) (q : Refusal) → head_read tape ≡ Err q → Says (refused (number_of q)) outcome before after → PlainlyReported outcome before after
  -- why the samples are not taken
  not_taken : (why : Error) → outcome ≡ Outcome.TheVariants.Untaken why → after ≡ before → PlainlyReported outcome before after
  -- of a noise section that is cut short, 11
  cut_short : (tape : List ℕ) (s : State) (n count : ℕ) → head_read tape ≡ run_of s n count → Says (refused 11) outcome before after → PlainlyReported outcome before after
  -- else the plain run's ending and text, on the tape's draws, as many noise values as its count says, and bytes left over or not
  plain : (tape : List ℕ) (s : State) (n count : ℕ) → head_read tape ≡ run_of s n count → (noise : List Float) → length noise ≡ count → (left : Bool)
      → Says (plain_ending s (mode_s_of tape) (mode_ac_of tape) left (draws_of (gen_of s (mode_s_of tape) (mode_ac_of tape)) (draws_section tape n)) noise before) outcome before after
      → outcome_text outcome after ≡ plain_text s (mode_s_of tape) (mode_ac_of tape) left (draws_of (gen_of s (mode_s_of tape) (mode_ac_of tape)) (draws_section tape n)) noise
      → PlainlyReported outcome before after
