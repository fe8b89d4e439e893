-- How a tape ends whose head is accepted, and its text: by the plain run on the tape's draws and all its noise, which knows no chunks (`plain_ending`, `plain_text`); of a run that was fed its noise in chunks (`fed_ending`, `fed_text`); and the claim that they are the same (`PlainTape`).
use Rattle.std.specs.Prelude.{Ok}
use Rattle.std.specs.Prelude.{ℕ, zero, suc, ◌*◌, ◌/◌, ◌%◌, ◌≤◌, ◌<◌, Bool, false, cond, ◌&&◌, ◌||◌, ◌≡◌, List, [], ◌∷◌, ◌++◌, leb, length, Float}
use Rattle.run_theory.specs.Generator.{Generator}
use Rattle.run_theory.specs.PlainRun.{ended, plain_records}
use Rattle.run_theory.specs.PlainBench.{pairs, over, draws_of}
use Rattle.run_theory.specs.Demand3.{Prefix, plain_output, plain_lines}
use Rattle.run_steps.specs.declared.Stop as Stop
use Rattle.run_call.specs.declared.State.{State}
use Rattle.run_call.specs.StateGenerator.{gen_of}
use Rattle.tape_text.specs.Text.{run_text, refused_text}
use Rattle.tape_feed.specs.Verdict.{verdict_of, verdict_number}
use Rattle.tape_theory.specs.Fed.{Held, Chunk, begun, fed_all, samples_fed}

-- how a tape ends: with its run done, record bytes, and its numbers of records and samples; or refused by a number
pub data Ending : Type 0 where
  done : (bytes : List ℕ) (records samples : ℕ) → Ending
  refused : (number : ℕ) → Ending

-- the ending by a verdict: 0 is no refusal
unfoldable pub ending_by : ℕ → List ℕ → ℕ → ℕ → Ending
ending_by zero bytes records samples = done bytes records samples
ending_by (suc n) bytes records samples = refused (suc n)

-- the text of an ending
unfoldable pub ending_text : Ending → List ℕ
ending_text (done bytes records samples) = run_text bytes records samples
ending_text (refused number) = refused_text number

module _ (G : Generator) where
  open G use {Value, Draw, t0, out_of_range, total}

  -- some noise value is not finite or too large
  unfoldable pub out_of_range_in : List Value → Bool
  out_of_range_in [] = false
  out_of_range_in (v ∷ vs) = out_of_range v || out_of_range_in vs

  -- the end draw is among the draws, and there is noise for every sample
  unfoldable pub plain_done : List Draw → List Value → Bool
  plain_done ds noise = ended G t0 ds && leb total (length (pairs noise))

  -- faults 8 to 10 of SPECIFICATION 11.2: 8, 11, or 0 for no refusal
  unfoldable pub plain_verdict : Bool → List Draw → List Value → ℕ
  plain_verdict left ds noise = cond (out_of_range_in noise) 8 (cond (plain_done ds noise) (cond left 11 0) 11)

-- of a run with this state and these prototypes, on all draws and noise of its tape, with or without bytes left over behind them
module _ (s : State) (mode_s mode_ac : List Float) where
  -- its ending: the records stand at the start of the bytes given for them
  unfoldable pub plain_ending : Bool → List (gen_of s mode_s mode_ac).Draw → List Float → List ℕ → Ending
  plain_ending left ds noise room = ending_by (plain_verdict (gen_of s mode_s mode_ac) left ds noise) (over (plain_lines (gen_of s mode_s mode_ac) ds) room) (length (plain_records (gen_of s mode_s mode_ac) ds)) s.total

  -- its text
  unfoldable pub plain_text : Bool → List (gen_of s mode_s mode_ac).Draw → List Float → List ℕ
  plain_text left ds noise = ending_text (ending_by (plain_verdict (gen_of s mode_s mode_ac) left ds noise) (plain_lines (gen_of s mode_s mode_ac) ds) (length (plain_records (gen_of s mode_s mode_ac) ds)) s.total)

-- of a run that was fed all its noise, by its verdict
unfoldable pub fed_ending : Bool → Held → Ending
fed_ending left f = ending_by (verdict_number (verdict_of false f.feed.answer left)) f.records f.feed.records f.feed.state.written

unfoldable pub fed_text : Bool → Held → List ℕ
fed_text left f = ending_text (fed_ending left f)

-- noise cut as the tape program cuts it: each chunk but the last has an even number of values, and each is given an even output of more values than it has
abbrev pub Roomy : Chunk → Type 0
Roomy c = (length c.output % 2 ≡ 0) × (length c.noise < length c.output)

unfoldable pub Cut : List Chunk → Type 0
Cut [] = Unit {0}
Cut (c ∷ []) = Roomy c
Cut (c ∷ d ∷ cs) = (length c.noise % 2 ≡ 0) × Roomy c × Cut (d ∷ cs)

-- all the noise
unfoldable pub noise_in : List Chunk → List Float
noise_in [] = []
noise_in (c ∷ cs) = c.noise ++ noise_in cs

-- a run that was fed noise, so cut: all of a section of count values, unless that is cut short
unfoldable pub FedCut : List Float → List Float → List ℕ → ℕ → Held → Bool → Held → Type 0
FedCut mode_s mode_ac draws count d short f =
    (c : Chunk) × (cs : List Chunk) × Cut (c ∷ cs) × (f ≡ fed_all mode_s mode_ac draws d (c ∷ cs)) × (short ≡ false → length (noise_in (c ∷ cs)) ≡ count)

-- The claim on a run with this state, these prototypes and this working memory, and on the bytes of its tape's draws: given record bytes with room for each draw, and fed its noise in any chunks so cut,
-- it ends as the plain run does and prints its text, with or without bytes left over; and the samples that the chunks give are a first part of the plain run's on all draws and noise, and all of them where the run is Done.
pub record PlainTape (s : State) (mode_s mode_ac memory : List Float) (draws : List ℕ) : Type 0 where
  pub ending : (records : List ℕ) → 66 * (length draws / 65) ≤ length records → (c : Chunk) (cs : List Chunk) → Cut (c ∷ cs)
      → (left : Bool) → fed_ending left (fed_all mode_s mode_ac draws (begun s memory records) (c ∷ cs)) ≡ plain_ending s mode_s mode_ac left (draws_of (gen_of s mode_s mode_ac) draws) (noise_in (c ∷ cs)) records
  pub text : (records : List ℕ) → 66 * (length draws / 65) ≤ length records → (c : Chunk) (cs : List Chunk) → Cut (c ∷ cs)
      → (left : Bool) → fed_text left (fed_all mode_s mode_ac draws (begun s memory records) (c ∷ cs)) ≡ plain_text s mode_s mode_ac left (draws_of (gen_of s mode_s mode_ac) draws) (noise_in (c ∷ cs))
  pub samples : (records : List ℕ) → 66 * (length draws / 65) ≤ length records → (c : Chunk) (cs : List Chunk) → Cut (c ∷ cs)
      → Prefix (samples_fed mode_s mode_ac draws (begun s memory records) (c ∷ cs)) (plain_output (gen_of s mode_s mode_ac) (draws_of (gen_of s mode_s mode_ac) draws) (pairs (noise_in (c ∷ cs))))
  pub all_samples_lem : (records : List ℕ) → 66 * (length draws / 65) ≤ length records → (c : Chunk) (cs : List Chunk) → Cut (c ∷ cs)
      → (fed_all mode_s mode_ac draws (begun s memory records) (c ∷ cs)).feed.answer ≡ Ok Stop.TheVariants.Done
      → samples_fed mode_s mode_ac draws (begun s memory records) (c ∷ cs) ≡ plain_output (gen_of s mode_s mode_ac) (draws_of (gen_of s mode_s mode_ac) draws) (pairs (noise_in (c ∷ cs)))
