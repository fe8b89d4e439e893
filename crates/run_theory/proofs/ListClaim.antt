-- Demand 3 (SPECIFICATION 2.3) in terms of any generator: what is shown here of every list of calls, as a record `Demand3`. What callers are promised is `OpenedRuns` of `run_theorem`, over the calls of the code.
use Rattle.std.specs.Prelude.{None}
use mathlib.Core.Bool.{Bool, true, false, ◌||◌}
use mathlib.Core.List.{List, [], ◌∷◌, ◌++◌, map}
use mathlib.Core.Path.{◌≡◌}
use Prim.Native.Nat.{ℕ, ◌+◌, ◌*◌, ◌≤◌}
use lib.ListN.{length, take}
use Rattle.run_theory.specs.Each.{Each}
use Rattle.run_theory.specs.Added.{sum_of}
use Rattle.run_theory.specs.Generator.{Generator}
use Rattle.run_theory.specs.PlainRun.{Reply, time_of, ended, replies, plain_added}
use Rattle.run_theory.specs.PlainBench.{Stop, done, output_full, wants_noise, wants_draws, records_full, Answer, refused, ran, pairs, flatten, join, Call, Result, draws_of, draw_refusal, bench0, bench_results}
use Rattle.run_theory.specs.Demand3.{Prefix, bench, plain_output, plain_lines, Reach}

abbrev pub is_done : Stop → Bool
is_done done = true
is_done output_full = false
is_done wants_noise = false
is_done wants_draws = false
is_done records_full = false

abbrev pub done_in : Answer → Bool
done_in (refused r) = false
done_in (ran d s n r a stop) = is_done stop

-- the counts of an answer: draws taken, samples written, noise values used, records written, reply samples added
abbrev pub draws_taken : Answer → ℕ
draws_taken (refused r) = 0
draws_taken (ran d s n r a stop) = d

abbrev pub samples_written : Answer → ℕ
samples_written (refused r) = 0
samples_written (ran d s n r a stop) = s

abbrev pub noise_used : Answer → ℕ
noise_used (refused r) = 0
noise_used (ran d s n r a stop) = n

abbrev pub records_written : Answer → ℕ
records_written (refused r) = 0
records_written (ran d s n r a stop) = r

abbrev pub samples_added : Answer → ℕ
samples_added (refused r) = 0
samples_added (ran d s n r a stop) = a

module _ (G : Generator) where
  open G use {Value, Byte, Draw, Time, t0, entry, record_bytes, limit, total}

  -- all samples written, joined in order: of each output, what the answer counts
  abbrev pub all_samples : List (Result G) → List Value
  all_samples [] = []
  all_samples (r ∷ rs) = take (2 * samples_written r.answer) r.output ++ all_samples rs

  abbrev pub all_records : List (Result G) → List Byte
  all_records [] = []
  all_records (r ∷ rs) = take (record_bytes * records_written r.answer) r.records ++ all_records rs

  -- all reply samples added
  abbrev pub all_added : List (Result G) → ℕ
  all_added [] = 0
  all_added (r ∷ rs) = samples_added r.answer + all_added rs

  -- a reply whose record has its count, which is at most `limit`
  pub record Recorded (r : Reply G) : Type 0 where
    pub time : Time
    pub draw : Draw
    pub line : r.line ≡ entry time draw r.first (length r.values)
    pub few : length r.values ≤ limit

  -- what a call adds: the samples of the replies whose records it wrote
  pub record Adds (r : Result G) : Type 0 where
    pub new : List (Reply G)
    pub many : length new ≡ records_written r.answer
    pub lines : take (record_bytes * records_written r.answer) r.records ≡ join (map (λ x. x.line) new)
    pub added : samples_added r.answer ≡ sum_of (map (λ x. length x.values) new)
    pub recorded : Each Recorded new

  -- some call answered Done
  abbrev pub reaches_done : List (Result G) → Bool
  reaches_done [] = false
  reaches_done (r ∷ rs) = done_in r.answer || reaches_done rs

  -- the draws taken and the noise values used, joined in order: of what was passed, what the answers count
  abbrev pub all_taken : List (Call G) → List (Result G) → List Draw
  all_taken [] rs = []
  all_taken (c ∷ cs) [] = []
  all_taken (c ∷ cs) (r ∷ rs) = take (draws_taken r.answer) (draws_of G c.draws) ++ all_taken cs rs

  abbrev pub all_used : List (Call G) → List (Result G) → List Value
  all_used [] rs = []
  all_used (c ∷ cs) [] = []
  all_used (c ∷ cs) (r ∷ rs) = take (noise_used r.answer) c.noise ++ all_used cs rs

  -- `run` gives the result of each call of a list, from what opening left
  pub record Demand3 (run : List (Call G) → List (Result G)) : Type 0 where
    pub answers : (cs : List (Call G)) → run cs ≡ bench_results G (bench0 G) cs
    pub taken : (cs : List (Call G)) → (bench G cs).taken ≡ all_taken cs (run cs)
    pub used : (cs : List (Call G)) → flatten (bench G cs).used ≡ all_used cs (run cs)
    pub samples : (cs : List (Call G)) → all_samples (run cs) ≡ plain_output G (bench G cs).taken (bench G cs).used
    pub records : (cs : List (Call G)) → all_records (run cs) ≡ plain_lines G (bench G cs).taken
    pub samples_stay :
        (cs : List (Call G)) (ds : List Draw) (vs : List Value) → draw_refusal G (time_of G t0 (bench G cs).taken) (bench G cs).mark ds ≡ None
        → Prefix (all_samples (run cs)) (plain_output G ((bench G cs).taken ++ ds) (pairs (flatten (bench G cs).used ++ vs)))
    pub records_stay : (cs : List (Call G)) (ds : List Draw) → Prefix (all_records (run cs)) (plain_lines G ((bench G cs).taken ++ ds))
    pub written : (cs : List (Call G)) → length (all_samples (run cs)) ≡ 2 * length (bench G cs).used
    pub whole : (cs : List (Call G)) → reaches_done (run cs) ≡ true → (ended G t0 (bench G cs).taken ≡ true) × (length (all_samples (run cs)) ≡ 2 * total)
    pub reach : (cs : List (Call G)) → Each (Reach G) (replies G t0 (bench G cs).taken)
    pub adds : (cs : List (Call G)) → Each Adds (run cs)
    pub added : (cs : List (Call G)) → all_added (run cs) ≡ plain_added G (bench G cs).taken
