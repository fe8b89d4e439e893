-- A model of the code, and not the specification's words: a run call on working memory of limit + hold samples as a flat list used as a ring, a count of samples written, the time, the end and the latest time.
-- From an opened run it is the plain bench's (run_call_model/proofs/Demand3); it is defined on any state. Its fuel is enough (run_call_model/proofs/EnoughFuel, `machine-enough`).
use Rattle.std.specs.Prelude.{Option, Some, None, Bool, true, false, cond, List, [], ◌∷◌, ℕ, zero, suc, ◌+◌, ◌*◌, ◌%◌, length, get_or, set, replicate}
use Rattle.run_theory.specs.Generator.{Generator, Sample, NoisePair, silence, add, noisy}
use Rattle.run_theory.specs.Added.{sum_of}
use Rattle.run_theory.specs.PlainRun.{Kind, ignored, ends, reply}
use Rattle.run_theory.specs.PlainBench.{Stop, wants_draws, Refusal, Call, Result, Remaining, remaining_of, Step, halt, drain, due, taking, step1, refusal_of, fuel, counts, Given, refused_with, result_of}

module _ (G : Generator) where
  open G use {Time, before}

  -- the later of two times
  abbrev pub later : Time → Time → Time
  later m t = cond (before m t) t m

-- o is what a read out of range gives; a read of the machine is never out of range where memory has its length
module _ (G : Generator) (o : G.Value) where
  open G use {Value, Byte, Draw, Time, nought, t0, after, adds, entry, limit, hold}

  -- samples that memory holds
  abbrev pub window : ℕ
  window = limit + hold

  abbrev pub blank : List Value
  blank = replicate (2 * window) nought

  -- the sample at a slot
  abbrev pub rd : List Value → ℕ → Sample G
  rd m i = record { re = get_or m (2 * i) o; im = get_or m (2 * i + 1) o }

  abbrev pub wr : List Value → ℕ → Sample G → List Value
  wr m i a = set (set m (2 * i) a.re) (2 * i + 1) a.im

  -- a reply added from sample s on
  abbrev pub put : List Value → ℕ → List (Sample G) → List Value
  put m s [] = m
  put m s (x ∷ xs) = put (wr m (s % window) (add G (rd m (s % window)) x)) (suc s) xs

  pub record State : Type 0 where
    pub memory : List Value
    pub written : ℕ
    pub time : Time
    pub over : Bool
    pub mark : Time

  pub record Ran : Type 0 where
    pub state : State
    pub rest : Remaining G
    pub stop : Stop
    pub samples : List (Sample G)
    pub records : List (List Byte)
    pub added : List ℕ

  -- what opening leaves: the first time stands for no latest time
  abbrev pub opened : State
  opened = record { memory = blank; written = 0; time = t0; over = false; mark = t0 }

  abbrev pub state_step : State → Remaining G → Step G
  state_step z l = step1 G z.over z.written z.time l.draws l.noise l.room l.slots

  abbrev pub with_sample : Sample G → Ran → Ran
  with_sample a r = record { state = r.state; rest = r.rest; stop = r.stop; samples = a ∷ r.samples; records = r.records; added = r.added }

  -- a record, and its reply's count
  abbrev pub with_record : List Byte → ℕ → Ran → Ran
  with_record a n r = record { state = r.state; rest = r.rest; stop = r.stop; samples = r.samples; records = a ∷ r.records; added = n ∷ r.added }

  -- the state after a sample is written, with the latest time m
  abbrev pub state_after_sample : State → Time → State
  state_after_sample z m = record { memory = wr z.memory (z.written % window) (silence G); written = suc z.written; time = z.time; over = z.over; mark = m }

  abbrev pub sample : State → NoisePair G → Sample G
  sample z v = noisy G (rd z.memory (z.written % window)) v

  abbrev pub state_after_draw : State → Draw → Kind → State
  state_after_draw z d ignored = record { memory = z.memory; written = z.written; time = after z.time d; over = z.over; mark = z.mark }
  state_after_draw z d ends = record { memory = z.memory; written = z.written; time = after z.time d; over = true; mark = z.mark }
  state_after_draw z d (reply s) = record
      { memory = put z.memory s (adds (after z.time d) d s); written = z.written; time = after z.time d; over = z.over; mark = z.mark }

  abbrev pub noted : Time → Draw → Kind → Ran → Ran
  noted t d ignored r = r
  noted t d ends r = r
  noted t d (reply s) r = with_record (entry t d s (length (adds t d s))) (length (adds t d s)) r

  abbrev pub machine_on : (State → Remaining G → Ran) → State → Remaining G → Step G → Ran
  machine_on go z l (halt s) = record { state = z; rest = l; stop = s; samples = []; records = []; added = [] }
  machine_on go z l (drain v l') = with_sample (sample z v) (go (state_after_sample z z.mark) l')
  machine_on go z l (due t v l') = with_sample (sample z v) (go (state_after_sample z (later G z.mark t)) l')
  machine_on go z l (taking d k l') = noted (after z.time d) d k (go (state_after_draw z d k) l')

  abbrev pub machine_steps : ℕ → State → Remaining G → Ran
  machine_steps zero z l = record { state = z; rest = l; stop = wants_draws; samples = []; records = []; added = [] }
  machine_steps (suc f) z l = machine_on (λ z' l'. machine_steps f z' l') z l (state_step z l)

  abbrev pub machine_given : Remaining G → Ran → Given G
  machine_given l r = record { answer = counts G l r.rest (sum_of r.added) r.stop; samples = r.samples; records = r.records }

  abbrev pub machine_call : State → Call G → Option Refusal → Given G × State
  machine_call z c (Some q) = (refused_with G q, z)
  machine_call z c None =
      let r = machine_steps (fuel G (remaining_of G c)) z (remaining_of G c) in
      (machine_given (remaining_of G c) r, r.state)

  -- a run call
  abbrev pub machine_run : State → Call G → Given G × State
  machine_run z c = machine_call z c (refusal_of G z.time (Some z.mark) c)

  abbrev pub machine_results : State → List (Call G) → List (Result G)
  machine_results z [] = []
  machine_results z (c ∷ cs) = result_of G c (machine_run z c).0 ∷ machine_results (machine_run z c).1 cs

  abbrev pub machine_after : State → List (Call G) → State
  machine_after z [] = z
  machine_after z (c ∷ cs) = machine_after (machine_run z c).1 cs

  -- what each call of a list yields, from what opening left
  abbrev pub runs : List (Call G) → List (Result G)
  runs cs = machine_results opened cs
