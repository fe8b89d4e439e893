-- What a booking will use (SPECIFICATION 10.4): opening's checks, then every draw, then the figures of the run.
use Rattle.std.specs.Prelude.{Result, Ok, Err, option_map}
use Rattle.std.specs.Prelude.{ℕ, ◌*◌, ◌%◌, cond, List, eqb, length, Float}
use Rattle.constants.specs.Setting.{per_pulse}
use Rattle.constants.specs.declared.SamplesPerPulse.{SamplesPerPulse}
use Rattle.pulse_shape.specs.Prototype.{mode_s_prototype, mode_ac_prototype}
use Rattle.refusals.specs.declared.Refusal as Refusal
use Rattle.refusals.specs.Answer.{unless}
use Rattle.draw.specs.Draw.{draw_length}
use Rattle.run_theory.specs.Generator.{Generator}
use Rattle.run_theory.specs.PlainBench as Bench
use Rattle.run_call.specs.declared.State.{State}
use Rattle.run_call.specs.StateGenerator.{gen_of}
use Rattle.run_call.specs.Given.{refusal_given}
use Rattle.run_open.specs.Opening.{opened_at}
use Rattle.settings.specs.Accepted.{setting_at, at_setting}
use Rattle.run_booking.specs.Walk.{End, walk_of}

-- samples, noise values, records and draws taken, and which draw ends the run or that draws ran out
pub record Figures (Time : Type 0) : Type 0 where
  pub samples : ℕ
  pub noise : ℕ
  pub records : ℕ
  pub taken : ℕ
  pub end : End Time

-- Samples are the duration's, and two noise values go with each, whether draws ran out or not.
abbrev pub figures_of : (G : Generator) → G.Time → List G.Draw → Figures G.Time
figures_of G t ds = record { samples = G.total; noise = 2 * G.total; records = (walk_of G t ds).records; taken = (walk_of G t ds).taken; end = (walk_of G t ds).end }

-- of a run: refusal 7 for the first draw at fault, ignored or behind the end draw as it may be; then the figures of its draws, the time before the first one given
unfoldable pub draws_then : State → List Float → List Float → Float → List ℕ → Result (Figures Float) Refusal.Refusal
draws_then s mode_s mode_ac time draws =
    let G = gen_of s mode_s mode_ac in
    unless (option_map refusal_given (Bench.first_fault G 0 (Bench.draws_of G draws))) (figures_of G time (Bench.draws_of G draws))

module _ (taps_s taps_ac : List Float) where
  unfoldable pub opened_then : Float → List ℕ → (Result State Refusal.Refusal) → Result (Figures Float) Refusal.Refusal
  opened_then time draws (Ok s) = draws_then s (mode_s_prototype (per_pulse s.setting) taps_s) (mode_ac_prototype (per_pulse s.setting) taps_ac) time draws
  opened_then time draws (Err refusal) = Err refusal

  -- refusal 9 for draw bytes no multiple of 65; then opening's others, prototypes and working memory having their lengths; then 7; then the figures
  unfoldable pub booking_at : Float → List ℕ → List ℕ → SamplesPerPulse → Result (Figures Float) Refusal.Refusal
  booking_at time settings draws setting = cond (eqb (length draws % draw_length) 0) (opened_then time draws (opened_at taps_s taps_ac settings setting)) (Err Refusal.TheVariants.Length)

  -- what a booking answers: refusal 15 first, but for 9 for settings of another length
  unfoldable pub booking_of : Float → List ℕ → List ℕ → Result (Figures Float) Refusal.Refusal
  booking_of time settings draws = at_setting (booking_at time settings draws) (setting_at settings)
