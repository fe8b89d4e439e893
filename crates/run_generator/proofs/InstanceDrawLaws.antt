-- What the theory of calls asks of draws holds of the real ones, by filters in range and at most 2^52 samples (`instance-draw-laws`): gaps, hold-back, count bound and length of a record.
use Rattle.std.specs.Prelude.{None}
use Prim.Native.Nat.{ℕ, ◌+◌, ◌^◌, ◌≤◌, ◌<◌}
use mathlib.Core.Path.{◌≡◌, ap, ◌∙◌}
use mathlib.Core.Bool.{false}
use native.Mathlib.Nat.{le_trans, le_of_eq}
use native.Mathlib.Omega.{arith}
use lib.Dec.{lit<}
use lib.IntN.{ℤ, pos, negsuc}
use lib.ListN.{length, length-map}
use lib.Ieee.{Float, nan, inf, fin, lt}
use Rattle.constants.specs.declared.SamplesPerPulse.{SamplesPerPulse}
use Rattle.constants.specs.declared.SamplesPerPulse.TheVariants.{Four, Eight}
use Rattle.constants.specs.Setting.{per_pulse}
use Rattle.constants.specs.Rate.{reply_limit, hold_back}
use Rattle.float_rounding.proofs.Order.{Signed}
use Rattle.message.specs.Types.{type_numbered}
use Rattle.message_config.proofs.InRange.{TimeInRange, signed_in_range, ErrorInRange}
use Rattle.message_config.proofs.HoldBack.{held_back}
use Rattle.message_config.proofs.FirstClock.{first_clock_of}
use Rattle.reply_samples.specs.Samples.{reply_samples}
use Rattle.reply_samples.proofs.Counts.{samples_counted, count_most}
use Rattle.reply_record.specs.Record.{record_bytes}
use Rattle.reply_record.proofs.RecordLength.{record_length_lem}
use Rattle.settings.specs.declared.Distributions.{Distributions}
use Rattle.draw.specs.declared.Draw.{Draw}
use Rattle.draw.specs.Config.{type_drawn, bytes_drawn, config_with, config_of, start_at}
use Rattle.draw.proofs.InRange.{InRange, in_range}
use Rattle.run_theory.specs.Generator.{from, start_from}
use Rattle.run_theory.specs.PlainRun.{reply, kind}
use Rattle.run_theory.proofs.StepFacts.{reply_fits, reply_start}
use Rattle.run_theory.proofs.Times.{NonNeg, GoodTime}
use Rattle.run_call_model.proofs.FloatLaws.{DrawLaws}
use Rattle.run_generator.specs.Instance.{pair_of, RepresentableDraw, Filters, pulse_samples, draws, instance_of}
use Rattle.run_generator.proofs.ReplyBytes.{made_bytes}
use Rattle.run_generator.proofs.DrawInRange.{gap_of, message_error}
use Rattle.run_generator.proofs.FiltersInRange.{FiltersInRange}

pub time_in_range : (t : Float) → GoodTime t → TimeInRange t
time_in_range t g = signed_in_range t g.fit (signed t g.non_neg)
  where
    signed : (t : Float) → NonNeg t → Signed t false
    signed nan h = h
    signed (inf s) h = h
    signed (fin s m e) h = h

started : (z : ℤ) (s : ℕ) → start_from z ≡ from s → z ≡ pos s
unfolding start_from
started (pos n) s e = let h : n ≡ s = cc in ap pos h
started (negsuc n) s e = let h : ◌≡◌ {A = ℕ} 0 1 = cc in absurd (omega arith)

-- every record has 66 bytes
config_bytes : (all : Distributions) (t : Float) (d : Draw) → length (config_of all t d).reply.bytes ≡ 14
unfolding config_of config_with bytes_drawn
config_bytes all t d = made_bytes (type_drawn (type_numbered d.kind)) d.picks

pub line_length : (all : Distributions) (t : Float) (d : Draw) (s n : ℕ) → length (record_bytes (config_of all t d) s d.kind n) ≡ 66
line_length all t d s n = record_length_lem (config_of all t d) s d.kind n (config_bytes all t d)

some_limit : (s : SamplesPerPulse) → 0 < reply_limit (per_pulse s)
some_limit Four = lit< tt
some_limit Eight = lit< tt

module _ (f : Filters) (R : FiltersInRange f) (total : ℕ) (few : total ≤ 2 ^ 52) where
  pub fields : (d : RepresentableDraw) → (draws f).fault d ≡ None → InRange f.rates f.distributions d.draw
  fields d e = in_range f.rates f.distributions d.draw e

  error_in_range : (t : Float) (d : RepresentableDraw) → (draws f).fault d ≡ None → ErrorInRange (config_of f.distributions t d.draw).reply.kind (config_of f.distributions t d.draw).error
  error_in_range t d e = message_error f.rates f.distributions R.distributions.clock d.draw d.held.clock (fields d e) t

  pub reply_at : (t : Float) (d : RepresentableDraw) (s : ℕ) → kind (instance_of f total) t d ≡ reply s → start_at f.distributions f.delays t d.draw ≡ pos s
  reply_at t d s e = started (start_at f.distributions f.delays t d.draw) s (reply_start (instance_of f total) (start_from (start_at f.distributions f.delays t d.draw)) s e)

  pub below_52 : (t : Float) (d : RepresentableDraw) (s : ℕ) → kind (instance_of f total) t d ≡ reply s → s < 2 ^ 52
  below_52 t d s e = step s (reply_limit (pulse_samples f)) total (reply_fits (instance_of f total) (start_from (start_at f.distributions f.delays t d.draw)) s e) few
    where
      step : (s k n : ℕ) → s + k < n → n ≤ 2 ^ 52 → s < 2 ^ 52
      step s k n h l = omega arith

  -- Hold-back
  pub instance_held :
      (t t' : Float) (d d' : RepresentableDraw) (s s' : ℕ) → GoodTime t → GoodTime t' → (draws f).fault d ≡ None → (draws f).fault d' ≡ None → lt t' t ≡ false
      → kind (instance_of f total) t d ≡ reply s → kind (instance_of f total) t' d' ≡ reply s' → s ≤ s' + hold_back (pulse_samples f)
  unfolding config_of config_with
  instance_held t t' d d' s s' g g' e e' o k k' =
      held_back f.setting f.delays R.delays (config_of f.distributions t d.draw) (config_of f.distributions t' d'.draw) s s'
      (time_in_range t g) (time_in_range t' g') (error_in_range t d e) (error_in_range t' d' e') o (reply_at t d s k) (reply_at t' d' s' k') (below_52 t' d' s' k')

  -- Count bound
  pub instance_short : (t : Float) (d : RepresentableDraw) (s : ℕ) → GoodTime t → (draws f).fault d ≡ None → kind (instance_of f total) t d ≡ reply s → length ((draws f).adds t d s) ≤ reply_limit (pulse_samples f)
  unfolding config_of config_with
  instance_short t d s g e k =
      let c = config_of f.distributions t d.draw in
      let samples = reply_samples (pulse_samples f) f.mode_s f.mode_ac f.delays d.draw.amplitude c in
      let clock = first_clock_of f.setting f.delays R.delays c s (time_in_range t g) (error_in_range t d e) (reply_at t d s k) (below_52 t d s k) in
      le_trans (le_of_eq (length-map samples pair_of ∙ samples_counted (pulse_samples f) f.mode_s f.mode_ac f.delays d.draw.amplitude c)) (count_most f.setting f.delays c clock)

  pub instance_draw_laws : DrawLaws (draws f) (pulse_samples f) total
  instance_draw_laws = record {
    gap_in_range = λ d h. gap_of f.rates f.distributions d.draw h;
    held = instance_held;
    short = instance_short;
    some_limit = some_limit f.setting;
    entry_length = λ t d s n. line_length f.distributions t d.draw s n;
  }
