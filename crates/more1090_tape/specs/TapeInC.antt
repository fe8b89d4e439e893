-- The claim on tapes for callers in C (`TapeInC`, at the end): what is read, opened, fed and asked by the calls of the header prints the text of the tape (SPECIFICATION 11.1) and gives the samples of the plain run (10.1), however its noise is cut.
use Rattle.std.specs.Prelude.{ℕ, ◌+◌, ◌-◌, ◌*◌, ◌/◌, ◌≤◌, ◌<◌, cond, ◌≡◌, List, [], ◌∷◌, ◌++◌, ltb, length, take, drop, Float}
use Rattle.run_theory.specs.Generator.{Generator}
use Rattle.run_theory.specs.PlainBench.{join, pairs, draws_of}
use Rattle.run_theory.specs.Demand3.{Prefix, plain_output}
use Rattle.run_call.specs.declared.State.{State}
use Rattle.run_call.specs.StateGenerator.{gen_of}
use Rattle.run_open.specs.Opening.{OpenBuffers}
use Rattle.tape_sections.specs.Sections.{tape_setting}
use Rattle.tape_head.specs.Head.{run_of}
use Rattle.tape_theory.specs.Fed.{Chunk}
use Rattle.tape_theory.specs.PlainTape.{Cut, noise_in}
use Rattle.tape_theory.specs.Reported.{mode_s_of, mode_ac_of, head_read}
use Rattle.tape_theory.specs.TapeText.{lent_by_program, Parts, tape_text}
use Rattle.more1090_tape.specs.declared.FlatTape.{FlatTape}
use Rattle.more1090_tape.specs.Flat.{head_wanted, OpenLeft, open_left, FlatFed, flat_fed, flat_ending, flat_text}

-- a run, and what it keeps from one chunk to the next
pub record FlatHeld : Type 0 where
  pub tape : FlatTape
  pub memory : List Float
  pub records : List ℕ

unfoldable pub flat_lend : Chunk → FlatHeld → FlatFed
flat_lend c d = record { tape = d.tape; memory = d.memory; output = c.output; records = d.records }

unfoldable pub flat_keep : FlatFed → FlatHeld
flat_keep d = record { tape = d.tape; memory = d.memory; records = d.records }

-- a call of `more1090_tape_feed` for each chunk
module _ (mode_s mode_ac : List Float) (draws : List ℕ) where
  unfoldable pub flat_fed_all : FlatHeld → List Chunk → FlatHeld
  flat_fed_all d [] = d
  flat_fed_all d (c ∷ cs) = flat_fed_all (flat_keep (flat_fed mode_s mode_ac draws c.noise (flat_lend c d))) cs

  -- the samples that they give: of each output two numbers for each sample that the chunk brought
  unfoldable pub flat_samples : FlatHeld → List Chunk → List Float
  flat_samples d [] = []
  flat_samples d (c ∷ cs) =
      let f = flat_fed mode_s mode_ac draws c.noise (flat_lend c d) in
      take (2 * (f.tape.state.written - d.tape.state.written)) f.output ++ flat_samples (flat_keep f) cs

-- what is printed of a run by how its noise section ends, with the records that its ending has
unfoldable pub printed : FlatHeld → ℕ → List ℕ
printed d end = flat_text (flat_ending d.tape end) (take (66 * (flat_ending d.tape end).records) d.records)

-- the claim on a tape that is opened
module _ (tape : List ℕ) (o : OpenLeft) where
  -- the bytes of its draws, and those behind its noise's count
  abbrev pub draw_bytes : List ℕ
  draw_bytes = take (65 * o.beginning.draws) (drop o.beginning.draws_at tape)

  abbrev pub noise_bytes : List ℕ
  noise_bytes = drop (o.beginning.draws_at + 65 * o.beginning.draws + 4) tape

  -- its run with room for records, fed chunks, and the samples that they give
  abbrev pub begun : List ℕ → FlatHeld
  begun records = record { tape = o.beginning.tape; memory = o.left.memory; records = records }

  abbrev pub fed : List ℕ → List Chunk → FlatHeld
  fed records cs = flat_fed_all o.left.mode_s o.left.mode_ac draw_bytes (begun records) cs

  abbrev pub given : List ℕ → List Chunk → List Float
  given records cs = flat_samples o.left.mode_s o.left.mode_ac draw_bytes (begun records) cs

  pub record Prints : Type 0 where
    -- refused, its ending prints its text
    pub refused : (o.beginning.tape.refusal ≡ 0 → ⊥) → (memory : List Float) (records : List ℕ) → printed (record { tape = o.beginning.tape; memory = memory; records = records }) 0 ≡ tape_text tape
    -- so does, of one that is not, the ending of a section that is short, whatever was fed
    pub short : o.beginning.tape.refusal ≡ 0 → length noise_bytes < 4 * o.beginning.noise → (d : FlatHeld) → printed d 2 ≡ tape_text tape
    -- and the ending of its run, fed all its noise, cut in any way, by whether bytes are left over
    pub whole : o.beginning.tape.refusal ≡ 0 → 4 * o.beginning.noise ≤ length noise_bytes → (records : List ℕ) → 26400 ≤ length records → (c : Chunk) (cs : List Chunk) → Cut (c ∷ cs)
        → (bs : List (List ℕ)) → Parts bs (c ∷ cs) → join bs ≡ take (4 * o.beginning.noise) noise_bytes
        → printed (fed records (c ∷ cs)) (cond (ltb (4 * o.beginning.noise) (length noise_bytes)) 1 0) ≡ tape_text tape

  -- the plain run's samples, of a run with this state and the prototypes of the tape's filters
  abbrev pub plain : State → List Float → List Float
  plain s noise = let G : Generator = gen_of s (mode_s_of tape) (mode_ac_of tape) in plain_output G (draws_of G draw_bytes) (pairs noise)

  pub record Gives (s : State) : Type 0 where
    -- the samples are a first part of those of the plain run on all draws and noise, cut in any way
    pub first : (records : List ℕ) → 66 * (length draw_bytes / 65) ≤ length records → (c : Chunk) (cs : List Chunk) → Cut (c ∷ cs) → Prefix (given records (c ∷ cs)) (plain s (noise_in (c ∷ cs)))
    -- and all of them where the run is done
    pub all_given : (records : List ℕ) → 66 * (length draw_bytes / 65) ≤ length records → (c : Chunk) (cs : List Chunk) → Cut (c ∷ cs) → (fed records (c ∷ cs)).tape.stop ≡ 0 → given records (c ∷ cs) ≡ plain s (noise_in (c ∷ cs))

pub record TapeInC (tape : List ℕ) : Type 0 where
  -- the first bytes of a tape, as many as they say that stand before the noise, open as the whole tape does
  pub read : (lent : OpenBuffers) (k : ℕ) → head_wanted (take k tape) ≤ k → open_left (take k tape) lent ≡ open_left tape lent
  -- opened with prototypes and memory of 0.0 in the lengths that its samples per pulse ask for, it prints its text
  pub prints : Prints tape (open_left tape (lent_by_program (tape_setting tape)))
  -- and gives its samples
  pub gives : (s : State) (n count : ℕ) → head_read tape ≡ run_of s n count → Gives tape (open_left tape (lent_by_program (tape_setting tape))) s
