-- What the plan of a step says of the buffers, and what doing it leaves of the rest of the call: each arm of `step`.
use mathlib.Core.Path.{◌≡◌, refl, sym, ap, ◌∙◌, subst}
use mathlib.Core.Bool.{Bool, true, false}
use mathlib.Core.Logic.{◌⊎◌, inl, inr}
use mathlib.Core.List.{List}
use Prim.Native.Nat.{ℕ, ◌+◌, ◌-◌, ◌*◌, ◌%◌, ◌≤◌, ◌<◌, ◌^◌}
use native.Mathlib.Omega.{arith}
use lib.Dec.{lit<}
use lib.ListN.{length, take, drop}
use lib.Ieee.{Float, nan}
use Rattle.constants.specs.Rate.{working_memory}
use Rattle.constants.specs.Setting.{per_pulse}
use Rattle.run_theory.specs.Generator.{Generator, start_from}
use Rattle.run_theory.specs.PlainRun.{kind_of}
use Rattle.run_theory.specs.PlainBench as Bench
use Rattle.run_call_model.specs.Machine.{later}
use Rattle.le_read.specs.LeBytes.{overwritten}
use Rattle.run_call_model.specs.Progress as Turns
use Rattle.run_call_model.specs.Plan as Plans
use Rattle.run_call_model.specs.Plan.{Plan, stop_at, drain_many, due_many, ignore, end_run, add_reply}
use Rattle.run_call_model.proofs.Progress.{progress_with_samples}
use Rattle.run_call_model.proofs.Plan as Theory
use Rattle.run_call_model.proofs.Batched.{next_progress, nearer}
use Rattle.run_call.specs.DueModel.{DueBuffers, due_of}
use Rattle.run_call.proofs.AnyDraws.{any_samples, any_memory}
use Rattle.draw.specs.Draw.{draw_at}
use Rattle.draw.specs.Config.{time_after, config_of}
use Rattle.draw.specs.Pending.{pending_of}
use Rattle.draw.proofs.MessageOfDraw.{pending_time, pending_start}
use Rattle.message_config.specs.declared.MessageConfig.{MessageConfig}
use Rattle.reply_record.specs.Record.{record_bytes}
use Rattle.run_call.specs.RecordedModel.{memory_with, count_with, records_with}
use Rattle.reply_samples.specs.Samples.{reply_samples}
use Rattle.run_generator.specs.Instance.{draws}
use Rattle.run_generator.proofs.InstanceDrawLaws.{line_length}
use Rattle.run_call.specs.declared.State.{State}
use Rattle.run_steps.specs.declared.Progress.{Progress}
use Rattle.run_steps.specs.declared.Stop as Stop
use Rattle.run_steps.specs.declared.Plan as Plan
use Rattle.run_steps.specs.PlanModel.{counted, plan_read, chosen}
use Rattle.run_theory.specs.Added.{high_half, low_half, whole_of}
use Rattle.run_steps.specs.ProgressModel.{added_of, progress_after_samples, progress_after_draw, progress_after_stop, progress_after_step}
use Rattle.run_call.specs.StepModel.{Inside, progress_read, rest_after, Went, StepSays}
use Rattle.run_call.specs.StateGenerator.{filters_of, gen_of}
use Rattle.run_call.proofs.Adding.{added_put, counts, added_by, counted_by, recorded_by}
use Rattle.run_call.proofs.Halves.{whole_is}
use Rattle.run_call.proofs.Writing.{samples_written_memory, samples_written_output}

-- the buffers, and the run, have sizes of 64 bits, so no count goes over
pub record Sized (total taken rest output records : ℕ) : Type 0 where
  pub run_in : total < 2 ^ 64
  pub draws_in_lem : 65 * taken + rest < 2 ^ 64
  pub output_in : output < 2 ^ 64
  pub records_in_lem : records < 2 ^ 64

not_over : (n m : ℕ) → n ≡ m → m < 2 ^ 64 → n % 2 ^ 64 ≡ m
not_over n m e h = omega arith

no_more : (n : ℕ) → n + 0 ≡ n
no_more n = omega arith

abbrev is_stop : Plan Float → Bool
is_stop (stop_at k) = true
is_stop (drain_many n) = false
is_stop (due_many n time) = false
is_stop (ignore time) = false
is_stop (end_run time) = false
is_stop (add_reply time first) = false

no_stop : (p : Plan Float) → is_stop p ≡ false → (k : Bench.Stop) → p ≡ stop_at k → ⊥
no_stop p e k h = let both : ◌≡◌ {A = Bool} true false = sym (ap is_stop h) ∙ e in let one : ◌≡◌ {A = ℕ} 0 1 = cc in omega arith

-- a step with its plan: the state, the prototypes, the buffers and left, the next draw's message, and what is known of them
pub record Planned : Type 0 where
  pub s : State
  pub mode_s : List Float
  pub mode_ac : List Float
  pub noise : List Float
  pub t : Progress
  pub memory : List Float
  pub rest : List ℕ
  pub output : List Float
  pub records : List ℕ
  pub last : MessageConfig
  pub plan : Plan.Plan
  pub memory_is : length memory ≡ working_memory (per_pulse s.setting)
  pub inside : Inside t (length noise) (length output) (length records)
  pub sized : Sized s.total t.taken (length rest) (length output) (length records)
  pub next_is : last ≡ pending_of s.distributions (time_after t.time (draw_at rest)) (draw_at rest)
  pub chose : plan_read plan ≡ chosen s.setting t.ended t.written s.total s.delays last (length rest) (length output - 2 * t.samples) (length noise - 2 * t.samples) (length records - 66 * t.records)

module _ (P : Planned) where
  open P use {s, mode_s, mode_ac, noise, t, memory, rest, output, records, last, plan, memory_is, inside, sized, next_is, chose}

  abbrev G : Generator
  G = gen_of s mode_s mode_ac

  abbrev z : Turns.Progress (gen_of s mode_s mode_ac) nan
  z = progress_read s mode_s mode_ac t memory rest output records

  abbrev Step : Progress → List Float → List Float → List ℕ → Type 0
  Step r memory' output' records' = StepSays (gen_of s mode_s mode_ac) noise nan r.last z (progress_read s mode_s mode_ac r memory' (rest_after r.last rest) output' records')

  -- the message's own time and start are the theory's
  chosen_is : plan_read plan ≡ Theory.plan_of G nan noise z
  unfolding chosen time_after
  chosen_is =
      chose ∙ ap (λ (c : MessageConfig). chosen s.setting t.ended t.written s.total s.delays c (length rest) (length output - 2 * t.samples) (length noise - 2 * t.samples) (length records - 66 * t.records)) next_is
      ∙ (λ i. Plans.plan (counted s.setting s.total) t.ended t.written (length rest) (pending_time s.distributions (time_after t.time (draw_at rest)) (draw_at rest) i) (kind_of (counted s.setting s.total) (start_from (pending_start s.distributions (time_after t.time (draw_at rest)) (draw_at rest) s.delays i)))
      (length output - 2 * t.samples) (length noise - 2 * t.samples) (length records - 66 * t.records))

  within : Turns.Within G nan noise z
  within = record { output_in = inside.output_in; noise_in_lem = inside.noise_in_lem; records_in_lem = inside.records_in_lem }

  is : (x : Plan.Plan) → plan ≡ x → Theory.plan_of G nan noise z ≡ plan_read x
  is x h = sym chosen_is ∙ ap plan_read h

  says : (x : Plan.Plan) → plan ≡ x → Theory.PlanSays G nan noise z (plan_read x)
  says x h = subst (λ (p : Plan Float). Theory.PlanSays G nan noise z p) (is x h) (Theory.plan_says G nan noise (lit< tt) (lit< tt) z within)

  right : (x : Plan.Plan) → plan ≡ x → Turns.rest_of G nan noise z ≡ Theory.after_plan G nan noise (lit< tt) (lit< tt) z (plan_read x)
  right x h =
      Theory.plan_right G nan noise (lit< tt) (lit< tt) (λ time d k n. line_length s.distributions time d.draw k n) z within
      ∙ ap (λ (p : Plan Float). Theory.after_plan G nan noise (lit< tt) (lit< tt) z p) (is x h)

  -- a plan that is no stop, carried out
  went : (x : Plan.Plan) → plan ≡ x → is_stop (plan_read x) ≡ false
      → Theory.after_plan G nan noise (lit< tt) (lit< tt) z (plan_read x) ≡ Turns.rest_of G nan noise (next_progress G nan noise z (plan_read x))
      → (y : Turns.Progress G nan) → y ≡ next_progress G nan noise z (plan_read x) → Went G noise nan z y
  went x h e after y k =
      let near = nearer G nan noise (lit< tt) (lit< tt) (λ time d k n. line_length s.distributions time d.draw k n) z within (plan_read x) (says x h) (no_stop (plan_read x) e) in
      subst (λ (u : Turns.Progress G nan). Went G noise nan z u) (sym k) (record { same = right x h ∙ after; within = near.within; less = near.less })

  -- the progress that was made is the plan's
  by_plan : (x : Plan.Plan) → plan ≡ x → (r : Progress) (memory' output' : List Float) (records' : List ℕ) → r ≡ progress_after_step t plan 0 → Step (progress_after_step t x 0) memory' output' records' → Step r memory' output' records'
  by_plan x h r memory' output' records' k = subst (λ (y : Progress). Step y memory' output' records') (sym (k ∙ ap (λ (y : Plan.Plan). progress_after_step t y 0) h))

  -- ---- a stop
  halted : (w : Stop.Stop) → plan ≡ Plan.TheVariants.Halt w → (r : Progress) → r ≡ progress_after_step t plan 0 → Step r memory output records
  unfolding plan_read progress_after_step progress_after_stop
  halted w h r k = by_plan (Plan.TheVariants.Halt w) h r memory output records k (says (Plan.TheVariants.Halt w) h, refl)

  -- ---- samples
  abbrev SamplesWritten : ℕ → List Float → List Float → Type 0
  SamplesWritten n memory' output' = ◌≡◌ {A = DueBuffers} (record { memory = memory'; output = output' }) (due_of s.setting noise t.written t.samples n (record { memory = memory; output = output }))

  samples_written_is : (n : ℕ) (m : Float) → Theory.Written G nan noise z n m → (memory' output' : List Float) → SamplesWritten n memory' output' → progress_read s mode_s mode_ac (progress_after_samples t n m) memory' rest output' records ≡ progress_with_samples G nan noise z n m
  unfolding progress_after_samples
  samples_written_is n m f memory' output' e = λ j. record {
    state = record {
      memory = (samples_written_memory s.setting noise memory output memory' output' t.written t.samples n memory_is f.noise_fits f.output_fits e ∙ sym (any_memory (draws (filters_of s mode_s mode_ac)) s.setting s.total memory t.written n)) j;
      written = not_over (t.written + n) (t.written + n) refl (omega (arith, f.below, sized.run_in)) j;
      time = t.time;
      over = t.ended;
      mark = m;
    };
    taken = t.taken;
    samples = not_over (t.samples + n) (t.samples + n) refl (omega (arith, f.output_fits, sized.output_in)) j;
    lines = t.records;
    added = added_of t;
    rest = rest;
    output = (samples_written_output s.setting noise memory output memory' output' t.written t.samples n memory_is f.noise_fits f.output_fits e
        ∙ ap (λ (l : List Float). overwritten output (2 * t.samples) l) (sym (any_samples (draws (filters_of s mode_s mode_ac)) s.setting s.total memory t.written (take (2 * n) (drop (2 * t.samples) noise))))) j;
    records = records;
  }

  drained : (n : ℕ) → plan ≡ Plan.TheVariants.Drain n → (r : Progress) (memory' output' : List Float) → r ≡ progress_after_step t plan 0 → SamplesWritten n memory' output' → Step r memory' output' records
  unfolding plan_read progress_after_step progress_after_samples
  drained n h r memory' output' k e =
      by_plan (Plan.TheVariants.Drain n) h r memory' output' records k
      (went (Plan.TheVariants.Drain n) h refl refl _ (samples_written_is n t.latest (says (Plan.TheVariants.Drain n) h) memory' output' e), refl, refl)

  dued : (n : ℕ) (time : Float) → plan ≡ Plan.TheVariants.Due n time → (r : Progress) (memory' output' : List Float) → r ≡ progress_after_step t plan 0 → SamplesWritten n memory' output' → Step r memory' output' records
  unfolding plan_read progress_after_step progress_after_samples
  dued n time h r memory' output' k e =
      by_plan (Plan.TheVariants.Due n time) h r memory' output' records k
      (went (Plan.TheVariants.Due n time) h refl refl _ (samples_written_is n (later G t.latest time) (says (Plan.TheVariants.Due n time) h).0 memory' output' e), refl, refl)

  -- ---- draws
  one_taken : 65 ≤ length rest → (t.taken + 1) % 2 ^ 64 ≡ t.taken + 1
  one_taken h = not_over (t.taken + 1) (t.taken + 1) refl (omega (arith, sized.draws_in_lem))

  -- the count added is exact
  added_exact : 65 ≤ length rest → (n : ℕ) → n ≤ 65535 → whole_of (high_half (added_of t + n) % 2 ^ 64) (low_half (added_of t + n)) ≡ added_of t + n
  added_exact h n few = whole_is (added_of t + n) (t.taken + 1) (omega (arith, inside.added_in)) (omega (arith, sized.draws_in_lem))

  added_few : 65 ≤ length rest → (n : ℕ) → n ≤ 65535 → whole_of (high_half (added_of t + n) % 2 ^ 64) (low_half (added_of t + n)) ≤ added_of t + 65535
  added_few h n few = omega (arith, added_exact h n few)

  -- a draw that is not recorded
  draw_taken_none : (time : Float) (ended : Bool) → 65 ≤ length rest → time ≡ time_after t.time (draw_at rest) → progress_read s mode_s mode_ac (progress_after_draw t time ended 0 0) memory (drop 65 rest) output records ≡ record {
    state = record { memory = memory; written = t.written; time = time_after t.time (draw_at rest); over = ended; mark = t.latest };
    taken = t.taken + 1;
    samples = t.samples;
    lines = t.records;
    added = added_of t;
    rest = drop 65 rest;
    output = output;
    records = records;
  }
  unfolding progress_after_draw
  draw_taken_none time ended h e = λ j. record {
    state = record { memory = memory; written = t.written; time = e j; over = ended; mark = t.latest };
    taken = one_taken h j;
    samples = t.samples;
    lines = not_over (t.records + 0) t.records (omega arith) (omega (arith, inside.records_in_lem, sized.records_in_lem)) j;
    added = (added_exact h 0 (omega arith) ∙ no_more (added_of t)) j;
    rest = drop 65 rest;
    output = output;
    records = records;
  }

  skipped : (time : Float) → plan ≡ Plan.TheVariants.Skip time → (r : Progress) → r ≡ progress_after_step t plan 0 → Step r memory output records
  unfolding plan_read progress_after_step progress_after_draw time_after
  skipped time h r k =
      let f = says (Plan.TheVariants.Skip time) h in
      by_plan (Plan.TheVariants.Skip time) h r memory output records k
      (went (Plan.TheVariants.Skip time) h refl refl _ (draw_taken_none time t.ended f.bytes f.at), one_taken f.bytes, f.bytes, added_few f.bytes 0 (omega arith))

  ended_by : (time : Float) → plan ≡ Plan.TheVariants.End time → (r : Progress) → r ≡ progress_after_step t plan 0 → Step r memory output records
  unfolding plan_read progress_after_step progress_after_draw time_after
  ended_by time h r k =
      let f = says (Plan.TheVariants.End time) h in
      by_plan (Plan.TheVariants.End time) h r memory output records k
      (went (Plan.TheVariants.End time) h refl refl _ (draw_taken_none time true f.bytes f.at), one_taken f.bytes, f.bytes, added_few f.bytes 0 (omega arith))

  -- a plan that touches no buffer, and one that writes samples
  pub untouched : ((w : Stop.Stop) × plan ≡ Plan.TheVariants.Halt w) ⊎ (((x : Float) × plan ≡ Plan.TheVariants.Skip x) ⊎ ((x : Float) × plan ≡ Plan.TheVariants.End x)) → (r : Progress) → r ≡ progress_after_step t plan 0 → Step r memory output records
  untouched (inl h) r k = halted h.0 h.1 r k
  untouched (inr (inl h)) r k = skipped h.0 h.1 r k
  untouched (inr (inr h)) r k = ended_by h.0 h.1 r k

  pub wrote : (n : ℕ) → (plan ≡ Plan.TheVariants.Drain n) ⊎ ((x : Float) × plan ≡ Plan.TheVariants.Due n x) → (r : Progress) (memory' output' : List Float) → r ≡ progress_after_step t plan 0 → SamplesWritten n memory' output' → Step r memory' output' records
  wrote n (inl h) r memory' output' k e = drained n h r memory' output' k e
  wrote n (inr h) r memory' output' k e = dued n h.0 h.1 r memory' output' k e

  pub added : (time : Float) (first : ℕ) → plan ≡ Plan.TheVariants.Add time first → (n : ℕ) → n ≤ 65535 → (r : Progress) (memory' : List Float) (records' : List ℕ) → r ≡ progress_after_step t (Plan.TheVariants.Add time first) n
      → memory' ≡ memory_with s.setting last s.delays first rest mode_s mode_ac memory → records' ≡ records_with s.setting last s.delays first rest memory (66 * t.records) records → n ≡ count_with s.setting last s.delays first rest memory → Step r memory' output records'
  unfolding plan_read progress_after_step progress_after_draw time_after
  added time first h n small r memory' records' k p o counted_is =
      let f = says (Plan.TheVariants.Add time first) h in
      subst (λ (y : Progress). Step y memory' output records') (sym k)
      (went (Plan.TheVariants.Add time first) h refl refl _ (draw_taken_reply f), one_taken f.taken.bytes, f.taken.bytes, added_few f.taken.bytes n small)
    where
      at : Float
      at = time_after t.time (draw_at rest)

      message : MessageConfig
      message = config_of s.distributions at (draw_at rest)

      draw_taken_reply : Theory.Added G nan noise z time first → progress_read s mode_s mode_ac (progress_after_draw t time t.ended 1 n) memory' (drop 65 rest) output records' ≡ next_progress G nan noise z (add_reply time first)
      draw_taken_reply f = λ j. record {
        state = record {
          memory = (added_by s.setting s.distributions s.delays at first rest last next_is memory memory_is mode_s mode_ac memory' p ∙ added_put (filters_of s mode_s mode_ac) s.total (reply_samples (per_pulse s.setting) mode_s mode_ac s.delays (draw_at rest).amplitude message) memory first) j;
          written = t.written;
          time = f.taken.at j;
          over = t.ended;
          mark = t.latest;
        };
        taken = one_taken f.taken.bytes j;
        samples = t.samples;
        lines = not_over (t.records + 1) (t.records + 1) refl (omega (arith, f.fits, sized.records_in_lem)) j;
        added =
            (added_exact f.taken.bytes n small
            ∙ ap (λ (k : ℕ). added_of t + k) (counted_by s.setting s.distributions s.delays at first rest last next_is memory memory_is n counted_is ∙ sym (counts (filters_of s mode_s mode_ac) s.total (draw_at rest).amplitude message))) j;
        rest = drop 65 rest;
        output = output;
        records = (recorded_by s.setting s.distributions s.delays at first rest last next_is memory memory_is records records' (66 * t.records) (omega (arith, f.fits)) o
            ∙ ap (λ (n : ℕ). overwritten records (66 * t.records) (record_bytes message first (draw_at rest).kind n)) (sym (counts (filters_of s mode_s mode_ac) s.total (draw_at rest).amplitude message))) j;
      }
