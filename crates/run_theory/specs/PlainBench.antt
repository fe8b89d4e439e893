-- Plain bench (SPECIFICATION 10.2): the checks and the five steps of a run call, on the draws taken, the noise used and the latest time.
use Rattle.std.specs.Prelude.{Option, Some, None, Bool, true, false, cond, not, ◌&&◌, ◌||◌, List, [], ◌∷◌, ◌++◌, ℕ, zero, suc, ◌+◌, ◌-◌, ◌*◌, ◌/◌, ◌%◌, eqb, leb, ltb, length, drop}
use Rattle.run_theory.specs.Generator.{Generator, Pair, Sample, NoisePair}
use Rattle.run_theory.specs.PlainRun.{Kind, ignored, ends, reply, kind, time_of, ended, plain_samples, plain_records, plain_counts}
use Rattle.run_theory.specs.Added.{sum_of}

pub data Stop : Type 0 where
  done output_full wants_noise wants_draws records_full : Stop

-- the stops by number (SPECIFICATION 9.2)
abbrev pub stop_number : Stop → ℕ
stop_number done = 0
stop_number output_full = 1
stop_number wants_noise = 2
stop_number wants_draws = 3
stop_number records_full = 4

-- why a run call is refused: a buffer has a wrong length; a draw and its field; the index of a noise value
pub data Refusal : Type 0 where
  wrong_length : Refusal
  wrong_draw : ℕ → ℕ → Refusal
  wrong_noise : ℕ → Refusal

-- the number and values of SPECIFICATION 3.1
abbrev pub numbers : Refusal → List ℕ
numbers wrong_length = 9 ∷ []
numbers (wrong_draw d f) = 7 ∷ d ∷ f ∷ []
numbers (wrong_noise p) = 8 ∷ p ∷ []

-- draws taken, samples written, noise values used, records written, reply samples added to working memory, and one stop
pub data Answer : Type 0 where
  refused : Refusal → Answer
  ran : ℕ → ℕ → ℕ → ℕ → ℕ → Stop → Answer

-- ---- flat lists, as callers pass them
-- numbers two by two; a last one with no partner is left over
abbrev pub pairs : {X : Type 0} → List X → List (Pair X)
pairs [] = []
pairs (x ∷ []) = []
pairs (x ∷ y ∷ xs) = record { re = x; im = y } ∷ pairs xs

-- pairs as numbers, real part before imaginary
abbrev pub flatten : {X : Type 0} → List (Pair X) → List X
flatten [] = []
flatten (a ∷ l) = a.re ∷ a.im ∷ flatten l

-- lists joined in order
abbrev pub join : {X : Type 0} → List (List X) → List X
join [] = []
join (l ∷ ls) = l ++ join ls

-- a buffer after xs were written at its start: what is beyond is unchanged
abbrev pub over : {X : Type 0} → List X → List X → List X
over xs buffer = xs ++ drop (length xs) buffer

module _ (G : Generator) where
  open G use {Value, Byte, Draw, Time, t0, after, before, fault, out_of_range, draw_bytes, record_bytes, draw_at, hold, total}

  -- the buffers of a run call, beside those of opening: draw bytes, noise values, output and record bytes
  pub record Call : Type 0 where
    pub draws : List Byte
    pub noise : List Value
    pub output : List Value
    pub records : List Byte

  -- what a run call yields: its answer, and the two buffers after it
  pub record Result : Type 0 where
    pub answer : Answer
    pub output : List Value
    pub records : List Byte

  -- the first n draws of bytes
  abbrev pub cut : ℕ → List Byte → List Draw
  cut zero bytes = []
  cut (suc n) bytes = draw_at bytes ∷ cut n (drop draw_bytes bytes)

  abbrev pub draws_of : List Byte → List Draw
  draws_of bytes = cut (length bytes / draw_bytes) bytes

  -- ---- the checks of a run call
  -- Refusal 9: output empty or of odd length, or draw bytes no multiple of 65.
  abbrev pub wrong_lengths : Call → Bool
  wrong_lengths c = eqb (length c.output) 0 || not (eqb (length c.output % 2) 0) || not (eqb (length c.draws % draw_bytes) 0)

  -- the first refusal of two
  abbrev pub or_else : Option Refusal → Option Refusal → Option Refusal
  or_else (Some r) o = Some r
  or_else None o = o

  abbrev pub at_draw : ℕ → Option ℕ → Option Refusal
  at_draw k None = None
  at_draw k (Some f) = Some (wrong_draw k f)

  -- Refusal 7: the first draw, from draw k on, and its first field out of range.
  abbrev pub first_fault : ℕ → List Draw → Option Refusal
  first_fault k [] = None
  first_fault k (d ∷ ds) = or_else (at_draw k (fault d)) (first_fault (suc k) ds)

  -- a time is before the latest time of a draw by whose start a sample was written
  abbrev pub jumps_back : Option Time → Time → Bool
  jumps_back None t = false
  jumps_back (Some m) t = before t m

  -- Refusal 7 of draws: a first one that jumps back is refused at its gap, field 0.
  abbrev pub draw_refusal : Time → Option Time → List Draw → Option Refusal
  draw_refusal t m [] = None
  draw_refusal t m (d ∷ ds) = cond (jumps_back m (after t d)) (Some (wrong_draw 0 0)) (first_fault 0 (d ∷ ds))

  -- Refusal 8: the first index, from index k on, of a noise value not finite or too large.
  abbrev pub first_out_of_range : ℕ → List Value → Option Refusal
  first_out_of_range k [] = None
  first_out_of_range k (v ∷ vs) = cond (out_of_range v) (Some (wrong_noise k)) (first_out_of_range (suc k) vs)

  -- A run call checks 9, then every draw, then every noise value. Of the state it reads the time of the draws taken and the latest time.
  abbrev pub refusal_of : Time → Option Time → Call → Option Refusal
  refusal_of t m c =
      cond (wrong_lengths c) (Some wrong_length) (or_else (draw_refusal t m (draws_of c.draws)) (first_out_of_range 0 c.noise))

  -- ---- the five steps
  -- what is left of the buffers: draws, noise pairs, samples that output can hold, and records that the record bytes can hold
  pub record Remaining : Type 0 where
    pub draws : List Draw
    pub noise : List (NoisePair G)
    pub room : ℕ
    pub slots : ℕ

  abbrev pub remaining_of : Call → Remaining
  remaining_of c = record { draws = draws_of c.draws; noise = pairs c.noise; room = length c.output / 2; slots = length c.records / record_bytes }

  -- what the steps yield: a stop; a sample written after the end draw; a sample written by the start of the next draw, with that draw's time; a draw taken.
  -- Each but the stop goes with the noise pair or draw that it uses and with what is then left.
  pub data Step : Type 0 where
    halt : Stop → Step
    drain : NoisePair G → Remaining → Step
    due : Time → NoisePair G → Remaining → Step
    taking : Draw → Kind → Remaining → Step

  -- Step 2, where one sample is due: none left in output, fewer than 2 noise values left, else write it.
  abbrev pub write : (NoisePair G → Remaining → Step) → List Draw → List (NoisePair G) → ℕ → ℕ → Step
  write f ds vs zero slots = halt output_full
  write f ds [] (suc room) slots = halt wants_noise
  write f ds (v ∷ vs) (suc room) slots = f v (record { draws = ds; noise = vs; room = room; slots = slots })

  -- Step 5: fewer than 66 record bytes left, else the message is added and recorded.
  abbrev pub step5 : Draw → ℕ → List Draw → List (NoisePair G) → ℕ → ℕ → Step
  step5 d s ds vs room zero = halt records_full
  step5 d s ds vs room (suc slots) = taking d (reply s) (record { draws = ds; noise = vs; room = room; slots = slots })

  -- Step 4: the draw is taken and ignored, or is taken and ends the run.
  abbrev pub step4 : Draw → Kind → List Draw → List (NoisePair G) → ℕ → ℕ → Step
  step4 d ignored ds vs room slots = taking d ignored (record { draws = ds; noise = vs; room = room; slots = slots })
  step4 d ends ds vs room slots = taking d ends (record { draws = ds; noise = vs; room = room; slots = slots })
  step4 d (reply s) ds vs room slots = step5 d s ds vs room slots

  -- the next draw does not end the run, and its start minus the samples held back exceeds the samples written; a negative one never does
  abbrev pub due_by : ℕ → Kind → Bool
  due_by written ignored = false
  due_by written ends = false
  due_by written (reply s) = ltb written (s - hold)

  -- Steps 2 and 3: end draw taken; no draw left; a draw at time t by whose start a sample is due, or not.
  abbrev pub step2 : Bool → ℕ → Time → List Draw → List (NoisePair G) → ℕ → ℕ → Step
  step2 true written t ds vs room slots = write drain ds vs room slots
  step2 false written t [] vs room slots = halt wants_draws
  step2 false written t (d ∷ ds) vs room slots =
      cond (due_by written (kind G (after t d) d)) (write (due (after t d)) (d ∷ ds) vs room slots) (step4 d (kind G (after t d) d) ds vs room slots)

  -- Step 1: end draw taken and all samples written.
  abbrev pub step1 : Bool → ℕ → Time → List Draw → List (NoisePair G) → ℕ → ℕ → Step
  step1 e written t ds vs room slots = cond (e && leb total written) (halt done) (step2 e written t ds vs room slots)

  -- ---- the bench
  -- State of the plain bench: the draws taken, the noise used (two values for each sample written),
  -- and the latest time of a draw by whose start a sample was written.
  pub record Bench : Type 0 where
    pub taken : List Draw
    pub used : List (NoisePair G)
    pub mark : Option Time

  -- none of these at first
  abbrev pub bench0 : Bench
  bench0 = record { taken = []; used = []; mark = None }

  abbrev pub latest : Option Time → Time → Option Time
  latest None t = Some t
  latest (Some m) t = Some (cond (before m t) t m)

  -- the latest time as a plain time: the first time, 0.0, where there is none
  abbrev pub latest_or_first : Option Time → Time
  latest_or_first None = t0
  latest_or_first (Some m) = m

  -- what a bench is after the steps, what is left of the buffers, and the stop
  pub record Benched : Type 0 where
    pub bench : Bench
    pub rest : Remaining
    pub stop : Stop

  abbrev pub bench_step : Bench → Remaining → Step
  bench_step b l = step1 (ended G t0 b.taken) (length b.used) (time_of G t0 b.taken) l.draws l.noise l.room l.slots

  -- A sample after the end draw moves no mark.
  abbrev pub bench_on : (Bench → Remaining → Benched) → Bench → Remaining → Step → Benched
  bench_on go b l (halt s) = record { bench = b; rest = l; stop = s }
  bench_on go b l (drain v l') = go (record { taken = b.taken; used = b.used ++ (v ∷ []); mark = b.mark }) l'
  bench_on go b l (due t v l') = go (record { taken = b.taken; used = b.used ++ (v ∷ []); mark = latest b.mark t }) l'
  bench_on go b l (taking d k l') = go (record { taken = b.taken ++ (d ∷ []); used = b.used; mark = b.mark }) l'

  -- The call repeats these steps until one stops it. The number bounds the steps; run_call_model/proofs/EnoughFuel.antt shows that `fuel` is enough.
  abbrev pub bench_steps : ℕ → Bench → Remaining → Benched
  bench_steps zero b l = record { bench = b; rest = l; stop = wants_draws }
  bench_steps (suc f) b l = bench_on (λ b' l'. bench_steps f b' l') b l (bench_step b l)

  -- each step but the last takes a draw or fills room
  abbrev pub fuel : Remaining → ℕ
  fuel l = suc (length l.draws + l.room)

  abbrev pub counts : Remaining → Remaining → ℕ → Stop → Answer
  counts l l' added s = ran (length l.draws - length l'.draws) (l.room - l'.room) (2 * (length l.noise - length l'.noise)) (l.slots - l'.slots) added s

  -- what a call gives: its answer, and the samples and records that it writes
  pub record Given : Type 0 where
    pub answer : Answer
    pub samples : List (Sample G)
    pub records : List (List Byte)

  -- the plain run's new samples and records, and the sum of its new counts: a reply's whole count belongs to the call that takes its draw and writes its record
  abbrev pub bench_given : Bench → Remaining → Benched → Given
  bench_given b l r = record {
    answer = counts l r.rest (sum_of (drop (length (plain_counts G b.taken)) (plain_counts G r.bench.taken))) r.stop;
    samples = drop (length (plain_samples G b.taken b.used)) (plain_samples G r.bench.taken r.bench.used);
    records = drop (length (plain_records G b.taken)) (plain_records G r.bench.taken);
  }

  abbrev pub refused_with : Refusal → Given
  refused_with r = record { answer = refused r; samples = []; records = [] }

  -- output and record bytes beyond those written are unchanged
  abbrev pub result_of : Call → Given → Result
  result_of c g = record { answer = g.answer; output = over (flatten g.samples) c.output; records = over (join g.records) c.records }

  abbrev pub bench_call : Bench → Call → Option Refusal → Given × Bench
  bench_call b c (Some r) = (refused_with r, b)
  bench_call b c None =
      let r = bench_steps (fuel (remaining_of c)) b (remaining_of c) in
      (bench_given b (remaining_of c) r, r.bench)

  -- A refused call returns what the table says and leaves the bench; an unrefused one does the steps on it.
  abbrev pub bench_run : Bench → Call → Given × Bench
  bench_run b c = bench_call b c (refusal_of (time_of G t0 b.taken) b.mark c)

  -- a list of calls: what each yields, and the bench after all
  abbrev pub bench_results : Bench → List Call → List Result
  bench_results b [] = []
  bench_results b (c ∷ cs) = result_of c (bench_run b c).0 ∷ bench_results (bench_run b c).1 cs

  abbrev pub bench_after : Bench → List Call → Bench
  bench_after b [] = b
  bench_after b (c ∷ cs) = bench_after (bench_run b c).1 cs
