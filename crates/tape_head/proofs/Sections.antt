-- How the parts of a tape's beginning join.
use Rattle.std.specs.Prelude.{Option, Some, None, Result, Ok, Err, is_ok}
use Prim.Native.Nat.{ℕ, ◌+◌, ◌-◌, ◌*◌, ◌/◌, ◌≤◌, min}
use mathlib.Core.Path.{◌≡◌, refl, sym, ap, ◌∙◌}
use mathlib.Core.Bool.{false≢true}
use mathlib.Core.List.{List, ◌++◌, append-nil}
use native.Mathlib.Omega.{arith}
use lib.Ieee.{Float}
use lib.ListN.{length, take, drop, length-drop}
use lib.Seq.{take_all, drop-length}
use Rattle.constants.specs.declared.SamplesPerPulse.{SamplesPerPulse}
use Rattle.constants.specs.Setting.{per_pulse}
use Rattle.constants.specs.Rate.{mode_s_taps, prototype_length}
use Rattle.refusals.specs.declared.Refusal.{Refusal}
use Rattle.refusals.specs.declared.Refusal.TheVariants.{Draw}
use Rattle.settings.specs.Settings.{settings_length, settings_of}
use Rattle.settings.specs.Accepted.{at_setting, accepted_of}
use Rattle.settings.specs.declared.Distributions.{Distributions}
use Rattle.draw.specs.Fault.{first_fault}
use Rattle.run_call.specs.declared.State.{State}
use Rattle.run_theory.specs.Zeros.{zeros}
use Rattle.run_open.specs.FillModel.{over}
use Rattle.run_open.specs.Opening.{OpenBuffers, opened_for, opened_of, with_prototypes, prepared_read, left_by}
use Rattle.run_open.specs.declared.Prepared.{Prepared}
use Rattle.run_open.proofs.OpenedAs.{OpenedAs, opened_as, refused_as}
use Rattle.run_open.proofs.Filled.{filled}
use Rattle.tape_sections.specs.Floats.{floats_of}
use Rattle.tape_sections.proofs.Rows.{length_floats}
use Rattle.tape_sections.specs.Sections.{taps_offset, taps_count, draws_offset, section_at}
use Rattle.tape_sections.proofs.Counts.{counted}
use Rattle.tape_head.specs.declared.Beginning.{Beginning}
use Rattle.tape_head.specs.Head.{noise_then, fault_then, draws_then, opened_then, taps, taps_s, taps_ac, settings_bytes, setting_then, opened_from, taps_then, checked_then, early_of, early_then, at_rate, left_then, beginning_of, head_of}
use Rattle.tape_head.proofs.Setting.{setting_read, setting_opens}
use Rattle.tape_head.proofs.Within.{opened_shown}

-- ---- the settings, as the code takes them
pub settings_part : (tape : List ℕ) → take (128 - 4) (drop 4 tape) ≡ settings_bytes tape
unfolding settings_bytes
settings_part tape = refl

-- ---- the draws and the noise, where the draws' count stands at k
behind_start : (a n : ℕ) → a + 65 * n - a ≡ 65 * n
behind_start a n = omega arith

module _ (tape : List ℕ) (s : State) (n : ℕ) {k : ℕ} (offset : k ≡ draws_offset (per_pulse s.setting)) {f : Option (ℕ × ℕ)}
    (e : f ≡ first_fault s.rates s.distributions (take (k + 4 + 65 * n - (k + 4)) (drop (k + 4) tape))) where
  by_fault : fault_then (per_pulse s.setting) tape s n f ≡ draws_then (per_pulse s.setting) tape s (Some n)
  unfolding draws_then
  by_fault =
      ap (fault_then (per_pulse s.setting) tape s n)
      (e
      ∙ ap (λ (m : ℕ). first_fault s.rates s.distributions (take m (drop (k + 4) tape))) (behind_start (k + 4) n)
      ∙ ap (λ (m : ℕ). first_fault s.rates s.distributions (take (65 * n) (drop (m + 4) tape))) offset)

  pub draws_good : f ≡ None → noise_then (per_pulse s.setting) tape s n ≡ draws_then (per_pulse s.setting) tape s (Some n)
  unfolding fault_then
  draws_good h = ap (fault_then (per_pulse s.setting) tape s n) (sym h) ∙ by_fault

  pub draw_refused : (m field : ℕ) → f ≡ Some (m, field) → Err (Draw m field) ≡ draws_then (per_pulse s.setting) tape s (Some n)
  unfolding fault_then
  draw_refused m field h = ap (fault_then (per_pulse s.setting) tape s n) (sym h) ∙ by_fault

-- ---- the taps
values_read : (m : ℕ) (tape : List ℕ) (z : List Float) {t : List Float} {r : ℕ} → 132 + 4 * m ≤ length tape → length z ≡ m → r ≡ min (length (take (length tape - 132) (drop 132 tape)) / 4) (length z)
    → t ≡ floats_of r (take (length tape - 132) (drop 132 tape)) ++ drop r z → t ≡ floats_of m (drop 132 tape)
values_read m tape z {t} {r} h l e p =
    let q : take (length tape - 132) (drop 132 tape) ≡ drop 132 tape = take_all (length tape - 132) (drop 132 tape) (simp length-drop (omega arith)) in
    let bytes : length (take (length tape - 132) (drop 132 tape)) ≡ length tape - 132 = ap length q ∙ length-drop 132 tape in
    let k : r ≡ m = omega arith in
    p
    ∙ (λ i. floats_of (k i) (q i) ++ drop (k i) z)
    ∙ ap (λ (x : List Float). floats_of m (drop 132 tape) ++ x) (ap (λ (x : ℕ). drop x z) (sym l) ∙ drop-length z)
    ∙ append-nil (floats_of m (drop 132 tape))

module _ (sps : ℕ) (tape : List ℕ) where
  pub taps_read : (z : List Float) {t : List Float} {r : ℕ} → draws_offset sps ≤ length tape → length z ≡ taps_count sps → r ≡ min (length (take (length tape - 132) (drop 132 tape)) / 4) (length z)
      → t ≡ floats_of r (take (length tape - 132) (drop 132 tape)) ++ drop r z → t ≡ taps sps tape
  unfolding taps
  taps_read = values_read (taps_count sps) tape

  pub taps_length : length (taps sps tape) ≡ taps_count sps
  unfolding taps
  taps_length = length_floats (taps_count sps) (drop (taps_offset + 4) tape)

  -- both lowpasses, as the code takes them
  pub taps_before : {t : List Float} {k : ℕ} → k ≡ mode_s_taps sps → t ≡ taps sps tape → take k t ≡ taps_s sps tape
  unfolding taps_s
  taps_before o e = λ i. take (o i) (e i)

  pub taps_behind : {t : List Float} {k : ℕ} → k ≡ mode_s_taps sps → t ≡ taps sps tape → take (length t - k) (drop k t) ≡ taps_ac sps tape
  unfolding taps_ac
  taps_behind {t} {k} o e = take_all (length t - k) (drop k t) (simp length-drop (omega arith)) ∙ λ i. drop (o i) (e i)

  -- ---- what stands before the taps' values: where nothing is refused, they lie on the tape
  taps_long : (q : Option ℕ) → q ≡ section_at tape taps_offset (taps_count sps) (taps_count sps) 4 → taps_then q ≡ Ok tt → draws_offset sps ≤ length tape
  unfolding taps_then
  taps_long (Some n) e h = let t = counted tape taps_offset (taps_count sps) (taps_count sps) 4 n e refl in long (taps_count sps) n t.0 t.2
    where
      long : (m k : ℕ) → m ≤ k → 128 + 4 + 4 * k ≤ length tape → 132 + 4 * m ≤ length tape
      long m k g h = omega arith
  taps_long None e h = absurd (false≢true (ap is_ok h))

  checked_long : (x : Result (ℕ × Distributions) Refusal) → checked_then sps tape x ≡ Ok tt → draws_offset sps ≤ length tape
  unfolding checked_then
  checked_long (Ok (samples, all)) h = taps_long (section_at tape taps_offset (taps_count sps) (taps_count sps) 4) refl h
  checked_long (Err refusal) h = absurd (false≢true (ap is_ok h))

  pub passed_long : {e : Result (Unit {0}) Refusal} → e ≡ early_of sps tape → e ≡ Ok tt → draws_offset sps ≤ length tape
  unfolding early_of
  passed_long e f = checked_long (accepted_of sps (settings_of (settings_bytes tape))) (sym e ∙ f)

-- and where the samples per pulse are read, the settings do
pub settings_long : (tape : List ℕ) {x : Result SamplesPerPulse Refusal} {z : SamplesPerPulse} → x ≡ setting_then tape (section_at tape 0 1 1 settings_length) → x ≡ Ok z → 4 + settings_length ≤ length tape
unfolding setting_then
settings_long tape {x} {z} e f = go (section_at tape 0 1 1 settings_length) refl (sym e ∙ f)
  where
    go : (q : Option ℕ) → q ≡ section_at tape 0 1 1 settings_length → setting_then tape q ≡ Ok z → 4 + settings_length ≤ length tape
    go (Some n) h g = let t = counted tape 0 1 1 settings_length n h refl in omega (arith, t.0, t.2)
    go None h g = absurd (false≢true (ap is_ok g))

-- ---- the whole
abbrev state_or : State → Result State Refusal → State
state_or s (Ok t) = t
state_or s (Err q) = s

module _ (tape : List ℕ) (lent : OpenBuffers) where
  refused_by : {q : Refusal} → beginning_of tape lent ≡ Err q → record { head = Err q; left = lent } ≡ head_of tape lent
  unfolding head_of left_then
  refused_by e = sym (ap (λ (b : Result Beginning Refusal). record { head = b; left = left_then tape lent b }) e)

  module _ {x : Result SamplesPerPulse Refusal} (said : x ≡ setting_then tape (section_at tape 0 1 1 settings_length)) where
    by_setting : at_setting (at_rate tape lent) x ≡ beginning_of tape lent
    unfolding beginning_of
    by_setting = ap (at_setting (at_rate tape lent)) said

    -- no settings, or refusal 15
    pub setting_refused : {q : Refusal} → x ≡ Err q → record { head = Err q; left = lent } ≡ head_of tape lent
    unfolding at_setting
    setting_refused f = refused_by (sym by_setting ∙ ap (at_setting (at_rate tape lent)) f)

    module _ {z : SamplesPerPulse} (is : x ≡ Ok z) {e : Result (Unit {0}) Refusal} (early : e ≡ early_of (per_pulse z) tape) where
      by_early : early_then tape lent (per_pulse z) e ≡ beginning_of tape lent
      unfolding at_setting at_rate
      by_early = ap (early_then tape lent (per_pulse z)) early ∙ sym (ap (at_setting (at_rate tape lent)) is) ∙ by_setting

      -- refusals 1 to 4 and 14, or no taps
      pub early_refused : {q : Refusal} → e ≡ Err q → record { head = Err q; left = lent } ≡ head_of tape lent
      unfolding early_then
      early_refused f = refused_by (sym by_early ∙ ap (early_then tape lent (per_pulse z)) f)

      by_opening : e ≡ Ok tt → opened_then (per_pulse z) tape (opened_from (per_pulse z) tape lent) ≡ beginning_of tape lent
      unfolding early_then
      by_opening passed = sym (ap (early_then tape lent (per_pulse z)) passed) ∙ by_early

      module _ (passed : e ≡ Ok tt) {P : Result Prepared Refusal}
          (prepared : prepared_read P ≡ with_prototypes (taps_s (per_pulse z) tape) (taps_ac (per_pulse z) tape)
          (opened_for (taps_s (per_pulse z) tape) (taps_ac (per_pulse z) tape) (settings_bytes tape) (length lent.mode_s) (length lent.mode_ac) (length lent.memory))) where
        -- refusals 9, 5 and 6
        pub opening_refused : {q : Refusal} → P ≡ Err q → record { head = Err q; left = lent } ≡ head_of tape lent
        unfolding opened_then opened_from opened_of
        opening_refused {q} f =
            refused_by (sym (by_opening passed) ∙ ap (opened_then (per_pulse z) tape) (refused_as (taps_s (per_pulse z) tape) (taps_ac (per_pulse z) tape) (opened_from (per_pulse z) tape lent) q (sym (ap prepared_read f) ∙ prepared)))

        module _ {p : Prepared} (ready : P ≡ Ok p) {r : Result Beginning Refusal} (drawn : r ≡ draws_then (per_pulse p.state.setting) tape p.state (section_at tape (draws_offset (per_pulse p.state.setting)) 0 400 65)) where
          opens : OpenedAs (taps_s (per_pulse z) tape) (taps_ac (per_pulse z) tape) (opened_of (taps_s (per_pulse z) tape) (taps_ac (per_pulse z) tape) (settings_bytes tape) lent) p
          unfolding opened_of
          opens = opened_as (taps_s (per_pulse z) tape) (taps_ac (per_pulse z) tape) _ p (sym (ap prepared_read ready) ∙ prepared)

          opened : opened_from (per_pulse z) tape lent ≡ Ok p.state
          unfolding opened_from
          opened = opens.opens

          -- the run is opened at the samples per pulse that are read
          same : p.state.setting ≡ z
          same = setting_opens tape lent (per_pulse z) p.state opened ∙ sym (setting_read tape (section_at tape 0 1 1 settings_length) z (sym said ∙ is))

          by_draws : r ≡ beginning_of tape lent
          unfolding opened_then
          by_draws =
              drawn
              ∙ ap (λ (w : SamplesPerPulse). opened_then (per_pulse w) tape (Ok p.state)) same
              ∙ ap (opened_then (per_pulse z) tape) (sym opened)
              ∙ by_opening passed

          -- refusal 7, or no draws or noise
          pub draws_refused : {q : Refusal} → r ≡ Err q → record { head = Err q; left = lent } ≡ head_of tape lent
          draws_refused f = refused_by (sym by_draws ∙ f)

          -- a tape that begins a run leaves what opening does
          pub head_given : {b : Beginning} {from_s from_ac mode_s mode_ac memory : List Float} → r ≡ Ok b
              → (from_s ≡ take (prototype_length (per_pulse p.state.setting)) p.mode_s) × (from_ac ≡ take (prototype_length (per_pulse p.state.setting)) p.mode_ac)
              → (mode_s ≡ over from_s lent.mode_s) × (mode_ac ≡ over from_ac lent.mode_ac) × (memory ≡ zeros (length lent.memory))
              → record { head = Ok b; left = record { mode_s = mode_s; mode_ac = mode_ac; memory = memory } } ≡ head_of tape lent
          unfolding head_of left_then opened_then
          head_given {b} begins from to =
              let begun : p.state ≡ b.state = ap (state_or p.state) (opened_shown (per_pulse p.state.setting) tape (Ok p.state) b (sym drawn ∙ begins)).opens in
              let at : z ≡ b.state.setting = sym same ∙ ap (λ (s : State). s.setting) begun in
              (λ i. record { head = Ok b; left = filled (taps_s (per_pulse z) tape) (taps_ac (per_pulse z) tape) (settings_bytes tape) lent p opens from to i })
              ∙ (λ i. record { head = Ok b; left = left_by (taps_s (per_pulse (at i)) tape) (taps_ac (per_pulse (at i)) tape) (Ok (begun i)) lent })
              ∙ ap (λ (x : Result Beginning Refusal). record { head = x; left = left_then tape lent x }) (sym begins ∙ by_draws)
