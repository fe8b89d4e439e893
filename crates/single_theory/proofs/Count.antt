-- A reply of a draw in range, by filters in range, has at most as many samples as the limit says where it starts before sample 2^52 (`few_or_late`); so the samples made by way of working memory are those of the definition (`single_is`), for every stretch that is accepted (`accepted_is`).
use Rattle.std.specs.Prelude.{Option, Some, None, Result, Ok, Err}
use Prim.Native.Nat.{ℕ, ◌+◌, ◌*◌, ◌/◌, ◌%◌, ◌^◌, ◌≤◌, ◌<◌}
use native.Mathlib.Nat.{le_trans, le_of_eq}
use native.Mathlib.Omega.{arith}
use mathlib.Core.Path.{◌≡◌, refl, sym, ap, ◌∙◌, subst}
use mathlib.Core.Bool.{Bool, true, false, cond, not, ◌||◌, ◌&&◌, true≢false}
use mathlib.Core.List.{List}
use mathlib.Core.Logic.{◌⊎◌, inl, inr, ◌≢◌}
use borrow.Author.Tests.{eqb-true, ltb-false}
use lib.Dec.{T, eqb, ltb, leb, lit<}
use lib.IntN.{ℤ, pos, negsuc}
use lib.ListN.{length}
use lib.Ieee.{Float, binary64, fits}
use Rattle.constants.specs.declared.SamplesPerPulse.{SamplesPerPulse}
use Rattle.constants.specs.declared.SamplesPerPulse.TheVariants.{Four, Eight}
use Rattle.constants.specs.Setting.{per_pulse}
use Rattle.constants.specs.Rate.{reply_limit, hold_back, ring_slots}
use Rattle.float_rounding.proofs.Size.{le_or_lt}
use Rattle.pulse_shape.specs.Prototype.{mode_s_prototype, mode_ac_prototype}
use Rattle.refusals.specs.declared.Refusal.{Refusal}
use Rattle.refusals.specs.declared.Refusal.TheVariants as Refused
use Rattle.message_config.specs.declared.MessageConfig.{MessageConfig}
use Rattle.message_config.specs.Config.{config_start}
use Rattle.message_config.proofs.InRange.{TimeInRange, ErrorInRange}
use Rattle.message_config.proofs.FirstClock.{first_clock_of}
use Rattle.settings.specs.declared.Distributions.{Distributions}
use Rattle.settings.specs.declared.MessagesPerSecond.{MessagesPerSecond}
use Rattle.settings.specs.Settings.{settings_of}
use Rattle.settings.specs.Accepted.{setting_at}
use Rattle.settings_duration.specs.Duration.{samples_of, duration_of}
use Rattle.draw.specs.Draw.{draw_length, draw_at}
use Rattle.draw.specs.Fault.{draw_fault, fault_at, fault_from, first_fault}
use Rattle.draw.specs.Config.{time_after, config_with, config_of}
use Rattle.draw.proofs.Bytes.{read_held}
use Rattle.draw.proofs.InRange.{in_range}
use Rattle.reply_samples.specs.declared.Sample.{Sample}
use Rattle.reply_samples.specs.Samples.{reply_samples}
use Rattle.reply_samples.proofs.Counts.{ClockInRange, samples_counted, count_most}
use Rattle.run_theory.specs.FloatGenerator.{nought}
use Rattle.run_theory.proofs.Times.{good_on}
use Rattle.run_generator.specs.Instance.{Filters, RepresentableDraw, pulse_samples}
use Rattle.run_generator.proofs.DrawInRange.{gap_of, message_error}
use Rattle.run_generator.proofs.FiltersInRange.{FiltersInRange}
use Rattle.run_generator.proofs.InstanceDrawLaws.{time_in_range}
use Rattle.run_call.specs.declared.State.{State}
use Rattle.run_call.specs.StateGenerator.{filters_of}
use Rattle.run_open.specs.Opening.{opened_at}
use Rattle.run_open.proofs.AtSetting.{opened_at_in_range}
use Rattle.single_add.specs.Stretch.{first_reached}
use Rattle.single_add.specs.StretchModel.{stretch_of}
use Rattle.single_add.proofs.Window.{stretch_is, stretch_past}
use Rattle.single_theory.specs.Single.{single_samples, samples_asked, wrong_lengths, wrong_stretch, stretch_then, lengths_checked, draw_then, values_checked}
use Rattle.single_theory.proofs.BeforeZero.{before_zero}

zero_fits : T (fits binary64 nought)
unfolding fits
zero_fits = tt

-- ---- the slots of the ring: some, and as many as the limit of a reply's samples at least
slots_some : (s : SamplesPerPulse) → 0 < ring_slots (per_pulse s)
slots_some Four = lit< tt
slots_some Eight = lit< tt

limit_in_slots : (sps : ℕ) → reply_limit sps ≤ ring_slots sps
limit_in_slots sps = more (reply_limit sps) (hold_back sps)
  where
    more : (a b : ℕ) → a ≤ a + b
    more a b = omega arith

-- ---- a reply of a draw in range
module _ (f : Filters) (R : FiltersInRange f) (d : RepresentableDraw) (e : draw_fault f.rates f.distributions d.draw ≡ None) where
  abbrev c : MessageConfig
  c = config_of f.distributions (time_after nought d.draw) d.draw

  abbrev zs : List Sample
  zs = reply_samples (pulse_samples f) f.mode_s f.mode_ac f.delays d.draw.amplitude c

  no_field : draw_fault f.rates f.distributions d.draw ≢ Some 0
  no_field h = let n : ◌≡◌ {A = ℕ} 0 1 = ap (λ (o : Option ℕ). elim o [ None ↦ 0 | Some k ↦ 1 ]) (sym e ∙ h) in absurd (omega arith)

  in_time : TimeInRange c.time
  unfolding config_of config_with time_after
  in_time = time_in_range (time_after nought d.draw) (good_on nought d.draw.gap (record { non_neg = refl; fit = zero_fits }) (gap_of f.rates f.distributions d.draw no_field))

  error : ErrorInRange c.reply.kind c.error
  error = message_error f.rates f.distributions R.distributions.clock d.draw d.held.clock (in_range f.rates f.distributions d.draw e) (time_after nought d.draw)

  few : ClockInRange f.delays c → length zs ≤ ring_slots (pulse_samples f)
  few r = le_trans (le_of_eq (samples_counted (pulse_samples f) f.mode_s f.mode_ac f.delays d.draw.amplitude c)) (le_trans (count_most f.setting f.delays c r) (limit_in_slots (pulse_samples f)))

  -- at most as many samples as working memory has slots, or a start past the end
  pub few_or_late : (n : ℕ) → n ≤ 2 ^ 52 → (length zs ≤ ring_slots (pulse_samples f)) ⊎ (n ≤ first_reached (config_start f.delays c))
  few_or_late n h = at (config_start f.delays c) refl
    where
      late : (s : ℕ) → 2 ^ 52 ≤ s → n ≤ s
      late s k = le_trans h k

      reached : (s : ℕ) → config_start f.delays c ≡ pos s → n ≤ s → n ≤ first_reached (config_start f.delays c)
      reached s q k = subst (λ (z : ℤ). n ≤ first_reached z) (sym q) (unfold first_reached in k)

      at : (z : ℤ) → config_start f.delays c ≡ z → (length zs ≤ ring_slots (pulse_samples f)) ⊎ (n ≤ first_reached (config_start f.delays c))
      at (pos s) q = elim (le_or_lt (2 ^ 52) s) [
        | inl k ↦ inr (reached s q (late s k))
        | inr k ↦ inl (few (first_clock_of f.setting f.delays R.delays c s in_time error q k))
      ]
      at (negsuc j) q = inl (few (before_zero f.setting f.delays R.delays c in_time error j q))

  pub single_is : (n : ℕ) (noise output : List Float) → n ≤ 2 ^ 52 → length output ≡ 2 * n → length noise ≡ 2 * n
      → stretch_of (pulse_samples f) (config_start f.delays c) zs noise output ≡ single_samples f d.draw noise
  unfolding single_samples
  single_is n noise output h p q = elim (few_or_late n h) [
    | inl k ↦ stretch_is (pulse_samples f) (slots_some f.setting) (config_start f.delays c) zs noise output (q ∙ sym p) (n, p) k
    | inr k ↦ stretch_past (pulse_samples f) (slots_some f.setting) (config_start f.delays c) zs noise output (q ∙ sym p) (n, p) (subst (λ (m : ℕ). m ≤ 2 * first_reached (config_start f.delays c)) (sym p) (twice n (first_reached (config_start f.delays c)) k))
  ]
    where
      twice : (a b : ℕ) → a ≤ b → 2 * a ≤ 2 * b
      twice a b h = omega arith

-- ---- what is accepted
or_left : (a b : Bool) → a || b ≡ false → a ≡ false
or_left true b e = e
or_left false b e = refl

or_right : (a b : Bool) → a || b ≡ false → b ≡ false
or_right true b e = absurd (true≢false e)
or_right false b e = e

not_false : (a : Bool) → not a ≡ false → a ≡ true
not_false true e = refl
not_false false e = absurd (true≢false e)

pub record Lengths (draw noise output : ℕ) : Type 0 where
  pub draw_is : draw ≡ draw_length
  pub n : ℕ
  pub most : n ≤ 2 ^ 52
  pub output_is : output ≡ 2 * n
  pub noise_is : noise ≡ 2 * n

-- a duration that is accepted has at most 2^52 samples
abbrev Short : Result ℕ Refusal → Type 0
Short (Ok n) = n ≤ 2 ^ 52
Short (Err q) = Unit {0}

short : (sps seconds nanoseconds : ℕ) → Short (duration_of sps seconds nanoseconds)
unfolding duration_of
short sps seconds nanoseconds = go (leb 1000000000 nanoseconds) (ltb (2 ^ 52) (samples_of sps seconds nanoseconds)) refl
  where
    go : (a b : Bool) → ltb (2 ^ 52) (samples_of sps seconds nanoseconds) ≡ b → Short (cond a (Err Refused.Duration) (cond b (Err Refused.Duration) (Ok (samples_of sps seconds nanoseconds))))
    go true b q = tt
    go false true q = tt
    go false false q = ltb-false (2 ^ 52) (samples_of sps seconds nanoseconds) q

module _ (sps : ℕ) (settings : List ℕ) (draw noise output : ℕ) where
  draw_is : wrong_lengths sps settings draw output ≡ false → draw ≡ draw_length
  unfolding wrong_lengths
  draw_is e =
      let a = not (eqb draw draw_length) in
      let b = not (eqb (output % 2) 0) in
      eqb-true draw draw_length (not_false (eqb draw draw_length) (or_left a b (or_left (a || b) (eqb output 0 && not (eqb (samples_asked sps settings) 0)) e)))

  stretch_is_n : (n : ℕ) → wrong_stretch n output noise ≡ false → (output ≡ 2 * n) × (noise ≡ 2 * n)
  unfolding wrong_stretch
  stretch_is_n n e = (
    eqb-true output (2 * n) (not_false (eqb output (2 * n)) (or_left (not (eqb output (2 * n))) (not (eqb noise (2 * n))) e)),
    eqb-true noise (2 * n) (not_false (eqb noise (2 * n)) (or_right (not (eqb output (2 * n))) (not (eqb noise (2 * n))) e)),
  )

  abbrev LengthsTold : Result (Unit {0}) Refusal → Type 0
  LengthsTold (Ok u) = Lengths draw noise output
  LengthsTold (Err q) = Unit {0}

  lengths_told : LengthsTold (lengths_checked sps settings draw noise output)
  unfolding lengths_checked stretch_then
  lengths_told = go (wrong_lengths sps settings draw output) refl
    where
      stretch : draw ≡ draw_length → (n : ℕ) → n ≤ 2 ^ 52 → (b : Bool) → wrong_stretch n output noise ≡ b → LengthsTold (cond b (Err Refused.StretchLength) (Ok tt))
      stretch l n m true w = tt
      stretch l n m false w = let s = stretch_is_n n w in record { draw_is = l; n = n; most = m; output_is = s.0; noise_is = s.1 }

      duration : draw ≡ draw_length → (d : Result ℕ Refusal) → Short d → LengthsTold (stretch_then noise output d)
      duration l (Err q) m = tt
      duration l (Ok n) m = stretch l n m (wrong_stretch n output noise) refl

      go : (b : Bool) → wrong_lengths sps settings draw output ≡ b
          → LengthsTold (cond b (Err Refused.Length) (stretch_then noise output (duration_of sps (settings_of settings).seconds (settings_of settings).nanoseconds)))
      go true w = tt
      go false w = duration (draw_is w) (duration_of sps (settings_of settings).seconds (settings_of settings).nanoseconds) (short sps (settings_of settings).seconds (settings_of settings).nanoseconds)

  -- the lengths of a draw, noise and an output that are accepted
  pub lengths_are : lengths_checked sps settings draw noise output ≡ Ok tt → Lengths draw noise output
  lengths_are e = subst LengthsTold e lengths_told

abbrev Passed : Result (Unit {0}) Refusal → Type 0
Passed (Ok u) = Unit {0}
Passed (Err q) = ⊥

-- a draw that is accepted has no fault
pub no_fault : (state : State) (draw : List ℕ) (noise : List Float) → values_checked state draw noise ≡ Ok tt → first_fault state.rates state.distributions draw ≡ None
unfolding values_checked draw_then
no_fault state draw noise = go (first_fault state.rates state.distributions draw)
  where
    go : (x : (Option (ℕ × ℕ))) → draw_then noise x ≡ Ok tt → x ≡ None
    go None e = refl
    go (Some (k, field)) e = absurd (subst Passed (sym e) tt)

-- one draw without a fault
one_fine : (rates : MessagesPerSecond) (all : Distributions) (s : List ℕ) → length s ≡ 65 → first_fault rates all s ≡ None → draw_fault rates all (draw_at s) ≡ None
unfolding first_fault fault_from fault_at
one_fine rates all s l e = go (draw_fault rates all (draw_at s)) (sym (ap (λ (n : ℕ). fault_from rates all (n / 65) 0 s) l) ∙ e)
  where
    go : (x : (Option ℕ)) → fault_at 0 x None ≡ None → x ≡ None
    go None q = refl
    go (Some k) q = let z : ◌≡◌ {A = ℕ} 0 1 = ap (λ (y : (Option (ℕ × ℕ))). elim y [ None ↦ 1 | Some (i, j) ↦ 0 ]) q in absurd (omega arith)

-- what the code makes, of a stretch that is accepted, is what is to be left
module _ (settings : List ℕ) (taps_s taps_ac : List Float) (draw : List ℕ) (noise output : List Float) (z : SamplesPerPulse) (state : State) where
  abbrev filters : Filters
  filters = filters_of state (mode_s_prototype (per_pulse state.setting) taps_s) (mode_ac_prototype (per_pulse state.setting) taps_ac)

  abbrev message : MessageConfig
  message = config_of state.distributions (time_after nought (draw_at draw)) (draw_at draw)

  pub accepted_is : setting_at settings ≡ Ok z → lengths_checked (per_pulse z) settings (length draw) (length noise) (length output) ≡ Ok tt → opened_at taps_s taps_ac settings z ≡ Ok state → values_checked state draw noise ≡ Ok tt
      → stretch_of (per_pulse state.setting) (config_start state.delays message) (reply_samples (per_pulse state.setting) filters.mode_s filters.mode_ac state.delays (draw_at draw).amplitude message) noise output ≡ single_samples filters (draw_at draw) noise
  accepted_is s l o v =
      let L = lengths_are (per_pulse z) settings (length draw) (length noise) (length output) l in
      let e = one_fine state.rates state.distributions draw L.draw_is (no_fault state draw noise v) in
      single_is filters (opened_at_in_range taps_s taps_ac settings z state s o).0 (record { draw = draw_at draw; held = read_held draw }) e L.n noise output L.most L.output_is L.noise_is
