-- What an opened run gives, beside that no refusal has a cause (`FirstCause`): its delays and distributions are in range and it has at most 2^52 samples (`opened_run_in_range`), at every trigger level that is accepted; and it stands where the theory of lists of calls begins (`opened_first`).
use Rattle.std.specs.Prelude.{Some, Result, Ok, Err}
use Rattle.refusals.specs.declared.Refusal.{Refusal}
use Prim.Native.Nat.{ℕ, ◌^◌, ◌≤◌}
use mathlib.Core.Path.{◌≡◌, refl, sym, subst}
use mathlib.Core.Bool.{true}
use mathlib.Core.List.{List}
use lib.Dec.{T}
use lib.Ieee.{Float, nan}
use Rattle.constants.specs.Setting.{per_pulse}
use Rattle.run_call_model.specs.Machine as Machine
use Rattle.pulse_shape.specs.Prototype.{mode_s_prototype, mode_ac_prototype}
use Rattle.pulse_shape.specs.Accepted.{all_within16}
use Rattle.pulse_shape.specs.GroupDelay.{group_delay, mode_ac_group_delay}
use Rattle.run_generator.proofs.FiltersInRange as Range
use Rattle.run_call.specs.declared.State.{State}
use Rattle.run_call.specs.StateGenerator.{filters_of, gen_of}
use Rattle.settings.specs.declared.Distributions.{Distributions}
use Rattle.settings.specs.Settings.{settings_of}
use Rattle.settings.specs.Accepted.{accepted_of}
use Rattle.settings.proofs.FirstCause as Settings
use Rattle.settings.proofs.InRange.{read_held, accepted_level}
use Rattle.run_open.specs.Opening.{OpenBuffers, first_state, opened_of, left_by}
use Rattle.run_open.specs.FirstCause.{level_of, Answered, refused_settings_length, refused_15, refused_9, refused_settings, refused_5, refused_6, accepted}
use Rattle.run_open.proofs.FirstCause.{answered, within_16}

module _ (taps_s taps_ac : List Float) (bytes : List ℕ) (l : OpenBuffers) where
  -- what a run's range depends on, and that its state is the first one
  pub record Accepts (state : State) : Type 0 where
    pub total : ℕ
    pub all : Distributions
    pub mode_s : Float
    pub mode_ac : Float
    pub settings : accepted_of (per_pulse state.setting) (settings_of bytes) ≡ Ok (total, all)
    pub delay_s : (all_within16 (mode_s_prototype (per_pulse state.setting) taps_s) ≡ true) × (group_delay (level_of bytes) (mode_s_prototype (per_pulse state.setting) taps_s) ≡ Some mode_s)
    pub delay_ac : (all_within16 (mode_ac_prototype (per_pulse state.setting) taps_ac) ≡ true) × (mode_ac_group_delay (level_of bytes) (mode_ac_prototype (per_pulse state.setting) taps_ac) ≡ Some mode_ac)
    pub is : state ≡ first_state state.setting (settings_of bytes).rates total all mode_s mode_ac

  abbrev Told : Result State Refusal → Type 0
  Told (Ok state) = Accepts state
  Told (Err refusal) = T true

  told : (c : Result State Refusal) → Answered taps_s taps_ac bytes l c → Told c
  unfolding first_state
  told c (refused_settings_length f) = tt
  told c (refused_15 h f) = tt
  told c (refused_9 h f) = tt
  told c (refused_settings h f s) = tt
  told c (refused_5 P t) = tt
  told c (refused_6 P t p) = tt
  told c (accepted {s} {n} {d} {a} {b} P t p f g) =
      record {
        total = n;
        all = d;
        mode_s = a;
        mode_ac = b;
        settings = Settings.only (per_pulse s) (settings_of bytes) _ P.settings;
        delay_s = (within_16 _ _ p.0, f);
        delay_ac = (within_16 _ _ p.1, g);
        is = refl;
      }

  module _ (state : State) (opens : opened_of taps_s taps_ac bytes l ≡ Ok state) where
    pub what_is_opened : Accepts state
    what_is_opened = subst Told opens (told _ (answered taps_s taps_ac bytes l))

    -- the prototypes that it is opened with
    abbrev prototype_s : List Float
    prototype_s = mode_s_prototype (per_pulse state.setting) taps_s

    abbrev prototype_ac : List Float
    prototype_ac = mode_ac_prototype (per_pulse state.setting) taps_ac

    pub opened_run_in_range : Range.FiltersInRange (filters_of state prototype_s prototype_ac) × (state.total ≤ 2 ^ 52)
    unfolding first_state
    opened_run_in_range =
        let w = what_is_opened in
        let held = read_held bytes in
        subst (λ (s : State). Range.FiltersInRange (filters_of s prototype_s prototype_ac) × (s.total ≤ 2 ^ 52)) (sym w.is)
        (Range.opened_in_range state.setting (settings_of bytes) held (level_of bytes) held.level (accepted_level (per_pulse state.setting) (settings_of bytes) w.total w.all w.settings) taps_s taps_ac w.total w.all w.mode_s w.mode_ac w.settings w.delay_s.0 w.delay_ac.0 w.delay_s.1 w.delay_ac.1)

    -- with what opening leaves in working memory it is the theory's opened state
    pub opened_first :
        ◌≡◌ {A = Machine.State (gen_of state prototype_s prototype_ac) nan}
        (record { memory = (left_by taps_s taps_ac (Ok state) l).memory; written = state.written; time = state.time; over = state.ended; mark = state.latest })
        (Machine.opened (gen_of state prototype_s prototype_ac) nan)
    unfolding first_state left_by
    opened_first =
        subst (λ (s : State). ◌≡◌ {A = Machine.State (gen_of s prototype_s prototype_ac) nan}
        (record { memory = (left_by taps_s taps_ac (Ok s) l).memory; written = s.written; time = s.time; over = s.ended; mark = s.latest })
        (Machine.opened (gen_of s prototype_s prototype_ac) nan)) (sym what_is_opened.is) refl
