-- The run of a tape before its noise, the verdict on it once its noise is read, and what is reported of it.
use Rattle.std.specs.Prelude.{ℕ, Bool, true, false, cond, Result, Ok, Err}
use Rattle.refusals.specs.Number.{number_of}
use Rattle.refusals.specs.declared.Refusal.{Refusal}
use Rattle.refusals.specs.declared.Refusal.TheVariants.{Tape}
use Rattle.run_call.specs.declared.State.{State}
use Rattle.run_steps.specs.declared.Stop as Stop
use Rattle.tape_feed.specs.declared.Feed.{Feed}
use Rattle.tape_feed.specs.declared.SectionEnd as SectionEnd
use Rattle.tape_feed.specs.declared.Outcome as Outcome

-- a run that nothing has been fed: no draw taken, no record written
unfoldable pub start_of : State → Feed
start_of s = record { state = s; taken = 0; records = 0; answer = Ok Stop.TheVariants.WantsNoise }

-- the verdict on a tape whose noise is read (SPECIFICATION 11.2, faults 7 to 10)
unfoldable pub stop_then : Bool → Stop.Stop → (Result (Unit {0}) Refusal)
stop_then over Stop.TheVariants.Done = cond over (Err Tape) (Ok tt)
stop_then over Stop.TheVariants.OutputFull = Err Tape
stop_then over Stop.TheVariants.WantsNoise = Err Tape
stop_then over Stop.TheVariants.WantsDraws = Err Tape
stop_then over Stop.TheVariants.RecordsFull = Err Tape

unfoldable pub answer_then : Bool → (Result Stop.Stop Refusal) → (Result (Unit {0}) Refusal)
answer_then over (Ok w) = stop_then over w
answer_then over (Err q) = Err q

unfoldable pub verdict_of : Bool → (Result Stop.Stop Refusal) → Bool → (Result (Unit {0}) Refusal)
verdict_of short answer over = cond short (Err Tape) (answer_then over answer)

-- its refusal's number, or 0 where nothing is refused
unfoldable pub verdict_number : (Result (Unit {0}) Refusal) → ℕ
verdict_number (Ok u) = 0
verdict_number (Err q) = number_of q

-- what is reported of a run by its verdict: its records and samples, or the refusal and the samples written before it
unfoldable pub judged_of : (Result (Unit {0}) Refusal) → Feed → Outcome.Outcome
judged_of (Ok u) f = Outcome.TheVariants.Done f.records f.state.written
judged_of (Err q) f = Outcome.TheVariants.Refused q f.state.written

-- whether a section was cut short, so that its values are not all fed
unfoldable pub is_cut_short : SectionEnd.SectionEnd → Bool
is_cut_short SectionEnd.TheVariants.Whole = false
is_cut_short SectionEnd.TheVariants.LeftOver = false
is_cut_short SectionEnd.TheVariants.Short = true
is_cut_short (SectionEnd.TheVariants.Untaken e) = true

-- whether bytes are left over behind it
unfoldable pub is_left_over : SectionEnd.SectionEnd → Bool
is_left_over SectionEnd.TheVariants.Whole = false
is_left_over SectionEnd.TheVariants.LeftOver = true
is_left_over SectionEnd.TheVariants.Short = false
is_left_over (SectionEnd.TheVariants.Untaken e) = false

-- what is reported of a tape: where its samples are not taken why not, and no refusal; else by the verdict on it
unfoldable pub outcome_of : SectionEnd.SectionEnd → Feed → Outcome.Outcome
outcome_of SectionEnd.TheVariants.Whole f = judged_of (verdict_of false f.answer false) f
outcome_of SectionEnd.TheVariants.LeftOver f = judged_of (verdict_of false f.answer true) f
outcome_of SectionEnd.TheVariants.Short f = judged_of (verdict_of true f.answer false) f
outcome_of (SectionEnd.TheVariants.Untaken e) f = Outcome.TheVariants.Untaken e

-- whether a run is done, and its records are handed out
unfoldable pub outcome_done : Outcome.Outcome → Bool
outcome_done (Outcome.TheVariants.Done records samples) = true
outcome_done (Outcome.TheVariants.Refused refusal samples) = false
outcome_done (Outcome.TheVariants.Untaken e) = false
