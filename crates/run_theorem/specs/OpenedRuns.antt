-- Demand 3 (SPECIFICATION 2.3), hypothesis and claim in one statement: `OpenedRuns`, at the end of this file. If opening answers a run, then (a) to (e) hold of every list of run calls on it, refused calls among them, with any draws, noise and buffers;
-- the state that comes back is the plain bench's, and every number written is finite.
use Rattle.std.specs.Prelude.{None, Ok, ℕ, zero, suc, ◌+◌, ◌*◌, ◌≤◌, true, false, List, [], ◌∷◌, ◌++◌, map, ◌⊎◌, ◌≡◌, pos, length, take, drop, Float}
use Rattle.std.specs.Float.{fin}
use Rattle.constants.specs.Rate.{reply_limit}
use Rattle.constants.specs.Setting.{per_pulse}
use Rattle.floats.specs.Range.{within}
use Rattle.le_read.specs.LeBytes.{number_at}
use Rattle.run_theory.specs.Added.{sum_of, whole_of}
use Rattle.run_theory.specs.Each.{Each}
use Rattle.run_theory.specs.Generator.{Generator}
use Rattle.run_theory.specs.PlainRun.{time_of, ended, replies, plain_added}
use Rattle.run_theory.specs.PlainBench as Bench
use Rattle.run_theory.specs.Demand3.{Prefix, plain_output, plain_lines, Reach}
use Rattle.run_generator.specs.Instance.{RepresentableDraw}
use Rattle.run_steps.specs.declared.Stop as Stop
use Rattle.run_call.specs.declared.State.{State}
use Rattle.run_call.specs.StateGenerator.{gen_of}
use Rattle.run_call.specs.Buffers.{Left, CallBuffers}
use Rattle.run_call.specs.Calls.{runs_left, call_of}
use Rattle.run_open.specs.Opening as Opening
use Rattle.run_theorem.specs.Seen.{seen_left, seen_result}

-- ---- the hypothesis
-- a run: its first state, and the prototypes and working memory that opening left
pub record Run : Type 0 where
  pub state : State
  pub buffers : Opening.OpenBuffers

-- Opening with these settings and filters, given these buffers, answers the run and leaves its buffers. (So the contract of `open` says it.)
pub record Opens (taps_s taps_ac : List Float) (settings : List ℕ) (given : Opening.OpenBuffers) (r : Run) : Type 0 where
  pub answers : Opening.opened_of taps_s taps_ac settings given ≡ Ok r.state
  pub leaves : r.buffers ≡ Opening.left_by taps_s taps_ac (Ok r.state) given

-- ---- a list of run calls on a run
-- what each call answers and leaves, given state, prototypes and memory as the last call left them (by the contract of `run`)
abbrev pub calls : Run → List CallBuffers → List Left
calls r cs = runs_left r.state r.buffers.mode_s r.buffers.mode_ac r.buffers.memory cs

-- what settings and filters make of draws, as plain run and plain bench take it
abbrev pub gen : Run → Generator
gen r = gen_of r.state r.buffers.mode_s r.buffers.mode_ac

-- the plain bench: its results of the same calls, and the bench after them
abbrev pub bench_calls : (r : Run) → List CallBuffers → List (Bench.Call (gen r))
bench_calls r cs = map (call_of r.state r.buffers.mode_s r.buffers.mode_ac) cs

abbrev pub results : (r : Run) → List CallBuffers → List (Bench.Result (gen r))
results r cs = Bench.bench_results (gen r) (Bench.bench0 (gen r)) (bench_calls r cs)

abbrev pub bench : (r : Run) → List CallBuffers → Bench.Bench (gen r)
bench r cs = Bench.bench_after (gen r) (Bench.bench0 (gen r)) (bench_calls r cs)

-- Samples and records written, noise values used and draws taken: of each call's buffers the first part that its answer counts, joined in order.
abbrev pub all_samples : List Left → List Float
all_samples [] = []
all_samples (l ∷ ls) = take (2 * l.ran.counts.samples) l.output ++ all_samples ls

abbrev pub all_records : List Left → List ℕ
all_records [] = []
all_records (l ∷ ls) = take (66 * l.ran.counts.records) l.records ++ all_records ls

abbrev pub all_used : List CallBuffers → List Left → List Float
all_used [] ls = []
all_used (c ∷ cs) [] = []
all_used (c ∷ cs) (l ∷ ls) = take l.ran.counts.noise c.noise ++ all_used cs ls

abbrev pub all_taken : Run → List CallBuffers → List Left → List RepresentableDraw
all_taken r [] ls = []
all_taken r (c ∷ cs) [] = []
all_taken r (c ∷ cs) (l ∷ ls) = take l.ran.counts.taken (Bench.draws_of (gen r) c.draws) ++ all_taken r cs ls

abbrev pub samples_written : Run → List CallBuffers → List Float
samples_written r cs = all_samples (calls r cs)

abbrev pub records_written : Run → List CallBuffers → List ℕ
records_written r cs = all_records (calls r cs)

abbrev pub noise_used : Run → List CallBuffers → List Float
noise_used r cs = all_used cs (calls r cs)

abbrev pub draws_taken : Run → List CallBuffers → List RepresentableDraw
draws_taken r cs = all_taken r cs (calls r cs)

-- ---- reply samples added to working memory
-- of an answer, as one number
abbrev pub samples_added : Left → ℕ
samples_added l = whole_of l.ran.counts.added_high l.ran.counts.added_low

-- of a list of answers: a whole number, not a pair
abbrev pub total_added : List Left → ℕ
total_added [] = 0
total_added (l ∷ ls) = samples_added l + total_added ls

-- the counts of the first n records in bytes: offset 49 of each (SPECIFICATION 4.5)
abbrev pub record_counts : ℕ → List ℕ → List ℕ
record_counts zero bytes = []
record_counts (suc n) bytes = number_at 2 bytes 49 ∷ record_counts n (drop 66 bytes)

-- in the records that a call wrote
abbrev pub counts_written : Left → List ℕ
counts_written l = record_counts l.ran.counts.records l.records

-- The number is the sum of the counts in the records that the call wrote, each of which is at most the reply limit of these samples per pulse.
pub record CountsAdded (sps : ℕ) (l : Left) : Type 0 where
  pub sum : samples_added l ≡ sum_of (counts_written l)
  pub each : Each (λ n. n ≤ reply_limit sps) (counts_written l)
  pub most : samples_added l ≤ reply_limit sps * l.ran.counts.records

-- some call answers Done
abbrev pub ReachesDone : List Left → Type 0
ReachesDone [] = ⊥
ReachesDone (l ∷ ls) = (l.ran.answer ≡ Ok Stop.TheVariants.Done) ⊎ ReachesDone ls

-- the state that the last call returns, or s where there is none
abbrev pub last_state : State → List Left → State
last_state s [] = s
last_state s (l ∷ ls) = last_state l.ran.state ls

-- The plain bench as a state: the samples written, one for each noise pair used; the time of the draws taken; the latest time, 0.0 for none; whether the end draw is taken. All else is as opened.
abbrev pub state_after : (r : Run) → Bench.Bench (gen r) → State
state_after r b = record {
  written = length b.used;
  time = time_of (gen r) (gen r).t0 b.taken;
  latest = Bench.latest_or_first (gen r) b.mark;
  ended = ended (gen r) (gen r).t0 b.taken;
  total = r.state.total;
  rates = r.state.rates;
  delays = r.state.delays;
  distributions = r.state.distributions;
  setting = r.state.setting;
}

-- finite, since neither an infinity nor a NaN is within a number in size, and at most 2^53
abbrev pub Finite53 : Float → Type 0
Finite53 v = within v (fin false 1 (pos 53)) ≡ true

-- ---- the claim, on a run opened with these settings and filters
pub record Demand3 (taps_s taps_ac : List Float) (settings : List ℕ) (r : Run) : Type 0 where
  -- The first n calls of a list answer and leave what the list of these n calls does. So whatever is claimed of every list holds after each call.
  pub first_calls : (cs : List CallBuffers) (n : ℕ) → take n (calls r cs) ≡ calls r (take n cs)
  -- (a) Each answer is the plain bench's, and so are output and record bytes after it. The bench's draws taken and noise used are those that the answers count.
  pub answers : (cs : List CallBuffers) → map seen_left (calls r cs) ≡ map (seen_result r.state r.buffers.mode_s r.buffers.mode_ac) (results r cs)
  pub taken : (cs : List CallBuffers) → draws_taken r cs ≡ (bench r cs).taken
  pub used : (cs : List CallBuffers) → noise_used r cs ≡ Bench.flatten (bench r cs).used
  -- (b) All samples and records written are the plain run on the draws taken and the noise used.
  pub samples : (cs : List CallBuffers) → samples_written r cs ≡ plain_output (gen r) (draws_taken r cs) (Bench.pairs (noise_used r cs))
  pub records : (cs : List CallBuffers) → records_written r cs ≡ plain_lines (gen r) (draws_taken r cs)
  -- (c) They stay a first part of the plain run when any noise, and any draws in range that the state does not refuse, are put after.
  pub samples_stay :
      (cs : List CallBuffers) (ds : List RepresentableDraw) (vs : List Float) → Bench.draw_refusal (gen r) (time_of (gen r) (gen r).t0 (draws_taken r cs)) (bench r cs).mark ds ≡ None
      → Prefix (samples_written r cs) (plain_output (gen r) (draws_taken r cs ++ ds) (Bench.pairs (noise_used r cs ++ vs)))
  pub records_stay : (cs : List CallBuffers) (ds : List RepresentableDraw) → Prefix (records_written r cs) (plain_lines (gen r) (draws_taken r cs ++ ds))
  -- (d) Another opening with the same settings and filters, whatever its buffers held, opens the same run.
  -- Lists of calls on the two, alike in draws taken and noise used, that reach Done give the same samples and records, and as many samples as the duration has.
  pub same_run : (given' : Opening.OpenBuffers) (r' : Run) → Opens taps_s taps_ac settings given' r' → r ≡ r'
  pub alike :
      (given' : Opening.OpenBuffers) (r' : Run) → Opens taps_s taps_ac settings given' r' → (cs cs' : List CallBuffers) → ReachesDone (calls r cs) → ReachesDone (calls r' cs')
      → draws_taken r cs ≡ draws_taken r' cs' → noise_used r cs ≡ noise_used r' cs'
      → (samples_written r cs ≡ samples_written r' cs') × (records_written r cs ≡ records_written r' cs')
  pub whole : (cs : List CallBuffers) → ReachesDone (calls r cs) → (ended (gen r) (gen r).t0 (draws_taken r cs) ≡ true) × (length (samples_written r cs) ≡ 2 * r.state.total)
  -- (e) No reply adds before its first sample, nor to more than the reply limit (1,094 at 4 samples per pulse, 2,187 at 8).
  pub reach : (cs : List CallBuffers) → Each (Reach (gen r)) (replies (gen r) (gen r).t0 (draws_taken r cs))
  -- Reply samples added (SPECIFICATION 9.5): of each call, those of the replies whose records it wrote; in all, those of the plain run. So a run's total is the same however it was cut.
  pub adds : (cs : List CallBuffers) → Each (CountsAdded (per_pulse r.state.setting)) (calls r cs)
  pub total : (cs : List CallBuffers) → total_added (calls r cs) ≡ plain_added (gen r) (draws_taken r cs)
  pub same_total :
      (given' : Opening.OpenBuffers) (r' : Run) → Opens taps_s taps_ac settings given' r' → (cs cs' : List CallBuffers) → ReachesDone (calls r cs) → ReachesDone (calls r' cs')
      → draws_taken r cs ≡ draws_taken r' cs' → total_added (calls r cs) ≡ total_added (calls r' cs')
  -- Every number written is finite, and at most 2^53 in size.
  pub finite : (cs : List CallBuffers) → Each Finite53 (samples_written r cs)
  -- The state that comes back is the plain bench's: `written` counts the samples written so far, two numbers each.
  pub state : (cs : List CallBuffers) → last_state r.state (calls r cs) ≡ state_after r (bench r cs)
  pub written : (cs : List CallBuffers) → length (samples_written r cs) ≡ 2 * (last_state r.state (calls r cs)).written

abbrev pub OpenedRuns : Type 0
OpenedRuns = (taps_s taps_ac : List Float) (settings : List ℕ) (given : Opening.OpenBuffers) (r : Run) → Opens taps_s taps_ac settings given r → Demand3 taps_s taps_ac settings r
