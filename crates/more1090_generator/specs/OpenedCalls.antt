-- Demand 3 (SPECIFICATION 2.3) for callers in C, hypothesis and claim in one statement: `OpenedCalls`, at the end of this file. Where `more1090_open` answers refusal 0, it opened a run of which all is claimed that `run_theorem/specs/OpenedRuns` claims,
-- and calls of `more1090_run`, refused ones among them, with any draws, noise and buffers, answer and leave what run calls on it do, in C's numbers.
use Rattle.std.specs.Prelude.{◌≡◌, List, [], ◌∷◌, map, ℕ, ◌+◌, ◌*◌, ◌≤◌, Float}
use Rattle.constants.specs.Rate.{reply_limit}
use Rattle.constants.specs.Setting.{per_pulse}
use Rattle.run_theory.specs.Added.{sum_of, whole_of}
use Rattle.run_theory.specs.Each.{Each}
use Rattle.run_theory.specs.PlainRun.{plain_added}
use Rattle.run_call.specs.Buffers.{CallBuffers}
use Rattle.run_open.specs.Opening as Opening
use Rattle.run_theorem.specs.OpenedRuns.{Run, Opens, calls, gen, results, bench, draws_taken, record_counts, state_after, Demand3}
use Rattle.more1090_generator.specs.declared.FlatState.{FlatState}
use Rattle.more1090_generator.specs.States.{flat_of}
use Rattle.more1090_generator.specs.Answers.{opened_flat, FlatLeft, left_flat, flat_runs_left}
use Rattle.more1090_generator.specs.Seen.{flat_seen, bench_seen}

-- what each call of a list answers and leaves, from state f and the run's buffers on, given state, prototypes and memory as the last call left them (by the contract of `more1090_run`)
abbrev pub flat_calls : FlatState → Run → List CallBuffers → List FlatLeft
flat_calls f r cs = flat_runs_left f r.buffers.mode_s r.buffers.mode_ac r.buffers.memory cs

-- the state that the last call returns, or f where there is none
abbrev pub last_flat : FlatState → List FlatLeft → FlatState
last_flat f [] = f
last_flat f (l ∷ ls) = last_flat l.ran.state ls

-- Reply samples added to working memory: of an answer, as one number; and of a list of answers.
abbrev pub flat_added : FlatLeft → ℕ
flat_added l = whole_of l.ran.answer.added_high l.ran.answer.added_low

abbrev pub flat_total : List FlatLeft → ℕ
flat_total [] = 0
flat_total (l ∷ ls) = flat_added l + flat_total ls

-- The number is the sum of the counts in the records that the call wrote, each of which is at most the reply limit.
pub record FlatCountsAdded (sps : ℕ) (l : FlatLeft) : Type 0 where
  pub sum : flat_added l ≡ sum_of (record_counts l.ran.answer.records l.records)
  pub each : Each (λ n. n ≤ reply_limit sps) (record_counts l.ran.answer.records l.records)
  pub most : flat_added l ≤ reply_limit sps * l.ran.answer.records

-- the claim, on the state f that `more1090_open` returned for a run r
pub record Demand3InC (taps_s taps_ac : List Float) (settings : List ℕ) (given : Opening.OpenBuffers) (f : FlatState) (r : Run) : Type 0 where
  -- the run is opened with these settings and filters, and leaves its buffers in those given; (a) to (e) and the rest of demand 3 hold of it
  pub opens : Opens taps_s taps_ac settings given r
  pub demand3 : Demand3 taps_s taps_ac settings r
  -- each call answers and leaves what the run call does, in C's numbers
  pub same : (cs : List CallBuffers) → flat_calls f r cs ≡ map left_flat (calls r cs)
  -- so each answer is the plain bench's, in the specification's numbers and values, and so are output and record bytes after it
  pub answers : (cs : List CallBuffers) → map flat_seen (flat_calls f r cs) ≡ map (bench_seen r.state r.buffers.mode_s r.buffers.mode_ac) (results r cs)
  -- each counts the reply samples of the records that it wrote; in all they are the plain run's
  pub adds : (cs : List CallBuffers) → Each (FlatCountsAdded (per_pulse r.state.setting)) (flat_calls f r cs)
  pub total : (cs : List CallBuffers) → flat_total (flat_calls f r cs) ≡ plain_added (gen r) (draws_taken r cs)
  -- and the state that comes back is the plain bench's
  pub state : (cs : List CallBuffers) → last_flat f (flat_calls f r cs) ≡ flat_of (state_after r (bench r cs))

abbrev pub OpenedCalls : Type 0
OpenedCalls = (taps_s taps_ac : List Float) (settings : List ℕ) (given : Opening.OpenBuffers) →
    let o = Opening.opened_of taps_s taps_ac settings given in
    (opened_flat o).refusal ≡ 0 → (r : Run) × Demand3InC taps_s taps_ac settings given (opened_flat o).state r
