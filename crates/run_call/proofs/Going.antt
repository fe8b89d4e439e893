-- The invariant of a call's loop, the rest of the call being the whole call, and what each end of a step does to it.
use Rattle.std.specs.Prelude.{Ok}
use mathlib.Core.Path.{◌≡◌, refl, sym, ap, ◌∙◌, subst}
use mathlib.Core.List.{List}
use Prim.Native.Nat.{ℕ, suc, ◌+◌, ◌-◌, ◌*◌, ◌/◌, ◌≤◌, ◌<◌}
use native.Mathlib.Omega.{arith}
use lib.ListN.{length, take, drop, length-drop}
use lib.Seq.{take_all}
use lib.Ieee.{Float, nan}
use Rattle.constants.specs.Rate.{working_memory}
use Rattle.constants.specs.Setting.{per_pulse}
use Rattle.run_call_model.specs.Progress as Theory
use Rattle.run_call.specs.declared.State.{State}
use Rattle.run_steps.specs.declared.Progress.{Progress}
use Rattle.run_steps.specs.declared.LastStep as LastStep
use Rattle.run_steps.specs.declared.Stop as Stop
use Rattle.run_call.specs.declared.Ran.{Ran}
use Rattle.run_steps.specs.PlanModel.{stop_read}
use Rattle.run_steps.specs.ProgressModel.{added_of}
use Rattle.run_theory.specs.Added.{high_half, low_half}
use Rattle.run_call.specs.StepModel.{Inside, progress_read, rest_after, Went, StepSays}
use Rattle.run_call.specs.StateGenerator.{gen_of}
use Rattle.run_call.specs.Buffers.{Left}
use Rattle.run_call.specs.CallModel.{initial_by, ran_by, left_by, call_left}
use Rattle.run_call.specs.Given.{stop_given}

given_read : (w : Stop.Stop) → stop_given (stop_read w) ≡ w
unfolding stop_given stop_read
given_read Stop.TheVariants.Done = refl
given_read Stop.TheVariants.OutputFull = refl
given_read Stop.TheVariants.WantsNoise = refl
given_read Stop.TheVariants.WantsDraws = refl
given_read Stop.TheVariants.RecordsFull = refl

-- the part of the draw bytes after a draw
pub tail_is : (rest : List ℕ) → take (length rest - 65) (drop 65 rest) ≡ drop 65 rest
tail_is rest = take_all (length rest - 65) (drop 65 rest) (rw length-drop (omega arith))

-- each step takes a draw or fills output
abbrev pub steps_left : ℕ → ℕ → Progress → ℕ
steps_left rest output t = suc (rest / 65 + (output / 2 - t.samples))

pub record Going (s : State) (mode_s mode_ac memory₀ : List Float) (draws : List ℕ) (noise output₀ : List Float) (records₀ : List ℕ)
    (memory output : List Float) (records : List ℕ) (t : Progress) (rest : List ℕ) : Type 0 where
  pub memory_is : length memory ≡ working_memory (per_pulse s.setting)
  pub output_is : length output ≡ length output₀
  pub records_is : length records ≡ length records₀
  pub inside : Inside t (length noise) (length output) (length records)
  pub tape : 65 * t.taken + length rest ≡ length draws
  pub same : left_by s mode_s mode_ac (Theory.rest_of (gen_of s mode_s mode_ac) nan noise (progress_read s mode_s mode_ac t memory rest output records)) ≡ call_left s mode_s mode_ac memory₀ draws noise output₀ records₀

pub starts : (s : State) (mode_s mode_ac memory : List Float) (draws : List ℕ) (noise output : List Float) (records : List ℕ) (t : Progress) → length memory ≡ working_memory (per_pulse s.setting) → t ≡ initial_by s
    → Going s mode_s mode_ac memory draws noise output records memory output records t draws
unfolding initial_by call_left
starts s mode_s mode_ac memory draws noise output records t m e = subst (λ (x : Progress). Going s mode_s mode_ac memory draws noise output records memory output records x draws) (sym e) (record {
  memory_is = m;
  output_is = refl;
  records_is = refl;
  inside = record { output_in = omega arith; noise_in_lem = omega arith; records_in_lem = omega arith; added_in = omega arith };
  tape = omega arith;
  same = refl;
})

-- after a step: what it says, and the lengths that it keeps
module _ {s : State} {mode_s mode_ac memory₀ : List Float} {draws : List ℕ} {noise output₀ : List Float} {records₀ : List ℕ} {memory output : List Float} {records : List ℕ} {t : Progress} {rest : List ℕ}
    (r : Progress) (memory' output' : List Float) (records' : List ℕ)
    (g : Going s mode_s mode_ac memory₀ draws noise output₀ records₀ memory output records t rest) (said : StepSays (gen_of s mode_s mode_ac) noise nan r.last (progress_read s mode_s mode_ac t memory rest output records) (progress_read s mode_s mode_ac r memory' (rest_after r.last rest) output' records')) (m_is : length memory' ≡ length memory) (o_is : length output' ≡ length output) (r_is : length records' ≡ length records) where
  abbrev Says : LastStep.LastStep → Type 0
  Says n = StepSays (gen_of s mode_s mode_ac) noise nan n (progress_read s mode_s mode_ac t memory rest output records) (progress_read s mode_s mode_ac r memory' (rest_after n rest) output' records')

  at : (n : LastStep.LastStep) → r.last ≡ n → Says n
  at n q = subst Says q said

  on : (rest' : List ℕ) → added_of r ≤ 65535 * r.taken → Went (gen_of s mode_s mode_ac) noise nan (progress_read s mode_s mode_ac t memory rest output records) (progress_read s mode_s mode_ac r memory' rest' output' records') → 65 * r.taken + length rest' ≡ length draws → Going s mode_s mode_ac memory₀ draws noise output₀ records₀ memory' output' records' r rest'
  on rest' few w q = record {
    memory_is = m_is ∙ g.memory_is;
    output_is = o_is ∙ g.output_is;
    records_is = r_is ∙ g.records_is;
    inside = record { output_in = w.within.output_in; noise_in_lem = w.within.noise_in_lem; records_in_lem = w.within.records_in_lem; added_in = few };
    tape = q;
    same = sym (ap (left_by s mode_s mode_ac) w.same) ∙ g.same;
  }

  -- samples were written
  pub samples_written_less : r.last ≡ LastStep.TheVariants.SamplesWritten → steps_left (length rest) (length output') r < steps_left (length rest) (length output) t
  samples_written_less q = (at LastStep.TheVariants.SamplesWritten q).0.less

  pub samples_written_again : r.last ≡ LastStep.TheVariants.SamplesWritten → Going s mode_s mode_ac memory₀ draws noise output₀ records₀ memory' output' records' r rest
  samples_written_again q = let w = at LastStep.TheVariants.SamplesWritten q in on rest (omega (arith, w.1, w.2, g.inside.added_in)) w.0 (omega (arith, w.1, g.tape))

  -- a draw was taken
  pub draw_taken_bytes : r.last ≡ LastStep.TheVariants.DrawTaken → 65 ≤ length rest
  draw_taken_bytes q = (at LastStep.TheVariants.DrawTaken q).2

  pub draw_taken_less : r.last ≡ LastStep.TheVariants.DrawTaken → steps_left (length (drop 65 rest)) (length output') r < steps_left (length rest) (length output) t
  draw_taken_less q = (at LastStep.TheVariants.DrawTaken q).0.less

  pub draw_taken_again : r.last ≡ LastStep.TheVariants.DrawTaken → Going s mode_s mode_ac memory₀ draws noise output₀ records₀ memory' output' records' r (drop 65 rest)
  draw_taken_again q = let w = at LastStep.TheVariants.DrawTaken q in on (drop 65 rest) (omega (arith, w.1, w.3, g.inside.added_in)) w.0 (omega (arith, w.1, w.2, g.tape, length-drop 65 rest))

  -- the call stopped
  pub stop_reached_samples : (w : Stop.Stop) → r.last ≡ LastStep.TheVariants.StopReached w → 2 * r.samples ≤ length noise
  stop_reached_samples w q = omega (arith, (at (LastStep.TheVariants.StopReached w) q).1, g.inside.noise_in_lem)

  at_stop : (w : Stop.Stop) → r.last ≡ LastStep.TheVariants.StopReached w → ◌≡◌ {A = Left} (record { ran = ran_by s r w; memory = memory'; output = output'; records = records' }) (call_left s mode_s mode_ac memory₀ draws noise output₀ records₀)
  unfolding left_by ran_by
  at_stop w q =
      (λ j. record {
        ran = record {
          state = record { written = r.written; total = s.total; time = r.time; latest = r.latest; ended = r.ended; rates = s.rates; delays = s.delays; distributions = s.distributions; setting = s.setting };
          counts = record { taken = r.taken; samples = r.samples; noise = 2 * r.samples; records = r.records; added_high = high_half (added_of r); added_low = low_half (added_of r) };
          answer = Ok (sym (given_read w) j);
        };
        memory = memory';
        output = output';
        records = records';
      })
      ∙ sym (ap (left_by s mode_s mode_ac) (at (LastStep.TheVariants.StopReached w) q).0) ∙ g.same

  pub stopped_left : (w : Stop.Stop) (x : Ran) → r.last ≡ LastStep.TheVariants.StopReached w → x ≡ ran_by s r w → ◌≡◌ {A = Left} (record { ran = x; memory = memory'; output = output'; records = records' }) (call_left s mode_s mode_ac memory₀ draws noise output₀ records₀)
  stopped_left w x q e = subst (λ (y : Ran). ◌≡◌ {A = Left} (record { ran = y; memory = memory'; output = output'; records = records' }) (call_left s mode_s mode_ac memory₀ draws noise output₀ records₀)) (sym e) (at_stop w q)
