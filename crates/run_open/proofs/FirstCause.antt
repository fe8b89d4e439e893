-- Refusals 15, 9, 1 to 4, 14, 5 and 6 of opening are each given for their cause only, and for the first cause in the order of SPECIFICATION 3.2: opening's answer is one that `Answered` of specs/ allows (`answered`), and no other (`only`).
-- So a run is opened exactly where none has a cause (`opens`).
use Rattle.std.specs.Prelude.{Option, Some, None, Result, Ok, Err}
use Rattle.refusals.specs.declared.Refusal.{Refusal}
use Prim.Native.Nat.{ℕ, zero, suc, ◌+◌}
use mathlib.Core.Path.{◌≡◌, refl, sym, ap, ◌∙◌}
use mathlib.Core.Bool.{Bool, true, false, ◌&&◌, cond, false≢true}
use mathlib.Core.List.{List, [], ◌∷◌}
use native.Mathlib.Omega.{arith}
use lib.Dec.{eqb}
use lib.ListN.{length}
use lib.Ieee.{Float}
use borrow.Author.Tests.{eqb-true, eq-eqb}
use Rattle.constants.specs.Rate.{mode_s_taps, mode_ac_taps}
use Rattle.constants.specs.Setting.{per_pulse}
use Rattle.constants.specs.declared.SamplesPerPulse.{SamplesPerPulse}
use Rattle.pulse_shape.specs.Prototype.{mode_s_prototype, mode_ac_prototype}
use Rattle.pulse_shape.specs.Accepted.{within16, all_within16, mode_s_taps_accepted, mode_ac_taps_accepted}
use Rattle.pulse_shape.specs.GroupDelay.{crosses, delay_at, choose, delay_from, group_delay, mode_ac_ratio, over, mode_ac_group_delay, crossing_answer}
use Rattle.refusals.specs.declared.Refusal.TheVariants as Cause
use Rattle.run_call.specs.declared.State.{State}
use Rattle.settings.specs.declared.Distributions.{Distributions}
use Rattle.settings.specs.Settings.{settings_of}
use Rattle.settings.specs.Accepted.{at_setting, accepted_of}
use Rattle.settings.specs.FirstCause as Settings
use Rattle.settings.proofs.FirstCause as SettingsCause
use Rattle.settings.proofs.Decided.{length_refused, setting_refused, setting_passes, by_setting}
use Rattle.run_open.specs.Opening.{OpenBuffers, first_state, buffers_fit, mode_s_delay, mode_ac_delay, delays_given, delays_then, delays_of, taps_of, settings_then, opened_at, lengths_then, opened_for, opened_of}
use Rattle.run_open.specs.FirstCause.{SettingIs, Fits, AllWithin16, GoodTaps, Crosses, GoodPrototype, BuffersFit, NoEarlierCause, BothTaps, BothPrototypes, level_of, Answered, refused_settings_length, refused_15, refused_9, refused_settings, refused_5, refused_6, accepted}
use Rattle.run_open.proofs.Decided.{fits_if, fits_for, mode_s_delay_of, mode_ac_delay_of, no_mode_s, no_mode_ac, both_found, mode_s_taps_refused, mode_ac_taps_refused, taps_pass, settings_refused, settings_pass, by_lengths}

-- ---- the tests decide these facts
abbrev Decides : Bool → Type 0 → Type 0
Decides true P = P
Decides false P = P → ⊥

holds : {P : Type 0} (b : Bool) → Decides b P → P → b ≡ true
holds true h p = refl
holds false h p = absurd (h p)

fails : {P : Type 0} (b : Bool) → Decides b P → (P → ⊥) → b ≡ false
fails true h never = absurd (never h)
fails false h never = refl

buffers_decide : (s : SamplesPerPulse) (mode_s mode_ac memory : ℕ) → Decides (buffers_fit (per_pulse s) mode_s mode_ac memory) (Fits s mode_s mode_ac memory)
buffers_decide s mode_s mode_ac memory = go (buffers_fit (per_pulse s) mode_s mode_ac memory) refl
  where
    go : (b : Bool) → buffers_fit (per_pulse s) mode_s mode_ac memory ≡ b → Decides b (Fits s mode_s mode_ac memory)
    go true e = fits_for s mode_s mode_ac memory e
    go false e = λ f. false≢true (sym e ∙ fits_if s mode_s mode_ac memory f)

all_decides : (l : List Float) → Decides (all_within16 l) (AllWithin16 l)
unfolding all_within16
all_decides [] = λ i h. absurd (omega arith)
all_decides (x ∷ l) = go (within16 x) refl (all_within16 l) (all_decides l)
  where
    go : (a : Bool) → within16 x ≡ a → (b : Bool) → Decides b (AllWithin16 l) → Decides (a && b) (AllWithin16 (x ∷ l))
    go true e true h = each
      where
        each : AllWithin16 (x ∷ l)
        each zero k = e
        each (suc i) k = h i (omega arith)
    go true e false h = λ all. h (λ i k. all (suc i) (omega arith))
    go false e b h = λ all. false≢true (sym e ∙ all 0 (omega arith))

pub within_16 : (level : Float) (p : List Float) → GoodPrototype level p → all_within16 p ≡ true
within_16 level p g = holds _ (all_decides p) g.within

taps_decide : (count : ℕ) (taps : List Float) → Decides (eqb (length taps) count && all_within16 taps) (GoodTaps count taps)
taps_decide count taps = go (eqb (length taps) count) refl (all_within16 taps) (all_decides taps)
  where
    go : (a : Bool) → eqb (length taps) count ≡ a → (b : Bool) → Decides b (AllWithin16 taps) → Decides (a && b) (GoodTaps count taps)
    go true e true h = record { count_is = eqb-true (length taps) count e; within = h }
    go true e false h = λ g. h g.within
    go false e b h = λ g. false≢true (sym e ∙ eq-eqb (length taps) count g.count_is)

-- a delay is found where the level crosses
abbrev CrossingSays : Float → List Float → Option Float → Type 0
CrossingSays level l (Some d) = Crosses level l
CrossingSays level l None = Crosses level l → ⊥

crossing_says : (level : Float) (j : ℕ) (l : List Float) → CrossingSays level l (delay_from level j l)
unfolding delay_from
crossing_says level j [] = λ c. absurd (omega (arith, c.1))
crossing_says level j (a ∷ []) = λ c. absurd (omega (arith, c.1))
crossing_says level j (a ∷ b ∷ l) = go (crosses level a b) refl (delay_from level (j + 1) (b ∷ l)) (crossing_says level (j + 1) (b ∷ l))
  where
    go : (t : Bool) → crosses level a b ≡ t → (x : Option Float) → CrossingSays level (b ∷ l) x → CrossingSays level (a ∷ b ∷ l) (choose t (Some (delay_at level j a b)) x)
    go true e x h = (0, omega arith, e)
    go false e (Some d) h = (suc h.0, omega (arith, h.1), h.2)
    go false e None h = not_here
      where
        not_here : Crosses level (a ∷ b ∷ l) → ⊥
        not_here (zero, k, c) = false≢true (sym e ∙ c)
        not_here (suc i, k, c) = h (i, omega arith, c)

-- a prototype's delay is found where the prototype is good
abbrev DelaySays : Float → List Float → Option Float → Option Float → Type 0
DelaySays level p found (Some d) = GoodPrototype level p × (found ≡ Some d)
DelaySays level p found None = GoodPrototype level p → ⊥

delay_says : (level : Float) (p : List Float) (found : Option Float) → CrossingSays level p found → DelaySays level p found (cond (all_within16 p) found None)
delay_says level p found h = go (all_within16 p) (all_decides p) found h
  where
    go : (b : Bool) → Decides b (AllWithin16 p) → (x : Option Float) → CrossingSays level p x → DelaySays level p x (cond b x None)
    go true w (Some d) c = (record { within = w; crossing = c }, refl)
    go true w None c = λ g. c g.crossing
    go false w x c = λ g. w g.within

over_says : (level ratio : Float) (p : List Float) (x : Option Float) → CrossingSays level p x → CrossingSays level p (over ratio x)
over_says level ratio p (Some d) c = c
over_says level ratio p None c = c

mode_s_says : (level : Float) (p : List Float) → DelaySays level p (group_delay level p) (mode_s_delay level p)
unfolding mode_s_delay group_delay
mode_s_says level p = delay_says level p _ (crossing_says level 0 p)

mode_ac_says : (level : Float) (p : List Float) → DelaySays level p (mode_ac_group_delay level p) (mode_ac_delay level p)
unfolding mode_ac_delay mode_ac_group_delay group_delay
mode_ac_says level p = delay_says level p _ (over_says level mode_ac_ratio p (delay_from level 0 p) (crossing_says level 0 p))

module _ (taps_s taps_ac : List Float) (bytes : List ℕ) (l : OpenBuffers) where
  abbrev level : Float
  level = level_of bytes

  abbrev Right : Result State Refusal → Type 0
  Right = Answered taps_s taps_ac bytes l

  -- what is answered at the setting of the settings' bytes
  abbrev next : SamplesPerPulse → Result State Refusal
  next = lengths_then taps_s taps_ac bytes (length l.mode_s) (length l.mode_ac) (length l.memory)

  module _ (z : SamplesPerPulse) where
    abbrev sps : ℕ
    sps = per_pulse z

    abbrev prototype_s : List Float
    prototype_s = mode_s_prototype sps taps_s

    abbrev prototype_ac : List Float
    prototype_ac = mode_ac_prototype sps taps_ac

    abbrev taps_give : ℕ → Distributions → Result State Refusal
    taps_give = taps_of z level taps_s taps_ac (settings_of bytes).rates

    abbrev delays_give : ℕ → Distributions → Result State Refusal
    delays_give = delays_of z level taps_s taps_ac (settings_of bytes).rates

    -- ---- for its cause only
    by_delays : (n : ℕ) (d : Distributions) → NoEarlierCause bytes l z n d → BothTaps z taps_s taps_ac
        → (x : Option Float) → DelaySays level prototype_s (group_delay level prototype_s) x
        → (y : Option Float) → DelaySays level prototype_ac (mode_ac_group_delay level prototype_ac) y
        → Right (delays_then z (settings_of bytes).rates n d x y)
    unfolding delays_then delays_given crossing_answer
    by_delays n d P t (Some a) f (Some b) g = accepted P t (f.0, g.0) f.1 g.1
    by_delays n d P t (Some a) f None g = refused_6 P t (λ both. g both.1)
    by_delays n d P t None f y g = refused_6 P t (λ both. f both.0)

    by_taps : (n : ℕ) (d : Distributions) → NoEarlierCause bytes l z n d
        → (s : Bool) → Decides s (GoodTaps (mode_s_taps sps) taps_s) → (ac : Bool) → Decides ac (GoodTaps (mode_ac_taps sps) taps_ac)
        → Right (cond (s && ac) (delays_give n d) (Err Cause.Taps))
    unfolding delays_of
    by_taps n d P true f true g = by_delays n d P (f, g) _ (mode_s_says level prototype_s) _ (mode_ac_says level prototype_ac)
    by_taps n d P true f false g = refused_5 P (λ both. g both.1)
    by_taps n d P false f ac g = refused_5 P (λ both. f both.0)

    by_settings : SettingIs bytes z → BuffersFit z l → (c : Result (ℕ × Distributions) Refusal) → Settings.Answered sps (settings_of bytes) c
        → Right (settings_then taps_s taps_ac z (settings_of bytes) c)
    unfolding settings_then taps_of mode_s_taps_accepted mode_ac_taps_accepted
    by_settings h f (Ok (n, d)) s =
        by_taps n d (record { setting = h; lent = f; settings = s }) (mode_s_taps_accepted sps taps_s) (taps_decide (mode_s_taps sps) taps_s) (mode_ac_taps_accepted sps taps_ac) (taps_decide (mode_ac_taps sps) taps_ac)
    by_settings h f (Err q) s = refused_settings h f s

    by_buffers : SettingIs bytes z → (b : Bool) → Decides b (BuffersFit z l) → Right (cond b (opened_at taps_s taps_ac bytes z) (Err Cause.Length))
    unfolding opened_at
    by_buffers h true f = by_settings h f (accepted_of sps (settings_of bytes)) (SettingsCause.answered sps (settings_of bytes))
    by_buffers h false f = refused_9 h f

    at_its_setting : SettingIs bytes z → Right (next z)
    unfolding lengths_then
    at_its_setting h = by_buffers h _ (buffers_decide z (length l.mode_s) (length l.mode_ac) (length l.memory))

    -- ---- and the first
    goes_on : SettingIs bytes z → opened_of taps_s taps_ac bytes l ≡ next z
    unfolding opened_of opened_for at_setting
    goes_on h = ap (at_setting next) (setting_passes bytes z h.long h.byte)

    fitting : SettingIs bytes z → BuffersFit z l → opened_of taps_s taps_ac bytes l ≡ opened_at taps_s taps_ac bytes z
    fitting h f = goes_on h ∙ by_lengths taps_s taps_ac bytes z _ _ _ true (fits_if z _ _ _ f)

    passes : (n : ℕ) (d : Distributions) → NoEarlierCause bytes l z n d → opened_of taps_s taps_ac bytes l ≡ taps_give n d
    passes n d P = fitting P.setting P.lent ∙ settings_pass taps_s taps_ac bytes z n d (SettingsCause.only sps (settings_of bytes) _ P.settings)

    good_taps : BothTaps z taps_s taps_ac → (mode_s_taps_accepted sps taps_s ≡ true) × (mode_ac_taps_accepted sps taps_ac ≡ true)
    unfolding mode_s_taps_accepted mode_ac_taps_accepted
    good_taps t = (holds _ (taps_decide (mode_s_taps sps) taps_s) t.0, holds _ (taps_decide (mode_ac_taps sps) taps_ac) t.1)

    module _ (n : ℕ) (d : Distributions) where
      taps_refused : (BothTaps z taps_s taps_ac → ⊥) → Err Cause.Taps ≡ taps_give n d
      unfolding mode_s_taps_accepted mode_ac_taps_accepted
      taps_refused t = go _ refl (taps_decide (mode_s_taps sps) taps_s)
        where
          go : (b : Bool) → mode_s_taps_accepted sps taps_s ≡ b → Decides b (GoodTaps (mode_s_taps sps) taps_s) → Err Cause.Taps ≡ taps_give n d
          go true e g = mode_ac_taps_refused z level taps_s taps_ac _ n d e (fails _ (taps_decide (mode_ac_taps sps) taps_ac) (λ h. t (g, h)))
          go false e g = mode_s_taps_refused z level taps_s taps_ac _ n d e

      taps_go_on : BothTaps z taps_s taps_ac → delays_give n d ≡ taps_give n d
      taps_go_on t = taps_pass z level taps_s taps_ac _ n d (good_taps t).0 (good_taps t).1

      prototype_refused : (BothPrototypes z level taps_s taps_ac → ⊥) → Err Cause.Prototype ≡ delays_give n d
      unfolding delays_of
      prototype_refused p = go _ refl (mode_s_says level prototype_s) _ refl (mode_ac_says level prototype_ac)
        where
          go : (x : Option Float) → mode_s_delay level prototype_s ≡ x → DelaySays level prototype_s (group_delay level prototype_s) x
              → (y : Option Float) → mode_ac_delay level prototype_ac ≡ y → DelaySays level prototype_ac (mode_ac_group_delay level prototype_ac) y → Err Cause.Prototype ≡ delays_give n d
          go (Some a) e f (Some b) h g = absurd (p (f.0, g.0))
          go (Some a) e f None h g = no_mode_ac z _ n d _ _ a e h
          go None e f y h g = no_mode_s z _ n d _ _ e

      prototypes_go_on : (a b : Float) → BothPrototypes z level taps_s taps_ac → group_delay level prototype_s ≡ Some a → mode_ac_group_delay level prototype_ac ≡ Some b
          → Ok (first_state z (settings_of bytes).rates n d a b) ≡ delays_give n d
      unfolding delays_of
      prototypes_go_on a b p f g = both_found z _ n d _ _ a b (mode_s_delay_of level _ (within_16 level _ p.0) ∙ f) (mode_ac_delay_of level _ (within_16 level _ p.1) ∙ g)

  pub answered : Right (opened_of taps_s taps_ac bytes l)
  unfolding opened_of opened_for at_setting
  answered = by_setting bytes (λ x. Right (at_setting next x)) refused_settings_length refused_15 (λ z h e. at_its_setting z (record { long = h; byte = e }))

  pub only : (c : Result State Refusal) → Right c → opened_of taps_s taps_ac bytes l ≡ c
  unfolding opened_of opened_for at_setting
  only c (refused_settings_length f) = ap (at_setting next) (length_refused bytes f)
  only c (refused_15 h f) = ap (at_setting next) (setting_refused bytes h f)
  only c (refused_9 {s} h f) = goes_on s h ∙ by_lengths taps_s taps_ac bytes s _ _ _ false (fails _ (buffers_decide s (length l.mode_s) (length l.mode_ac) (length l.memory)) f)
  only c (refused_settings {s} {q} h f e) = fitting s h f ∙ settings_refused taps_s taps_ac bytes s q (SettingsCause.only (per_pulse s) (settings_of bytes) _ e)
  only c (refused_5 {s} {n} {d} P t) = passes s n d P ∙ sym (taps_refused s n d t)
  only c (refused_6 {s} {n} {d} P t p) = passes s n d P ∙ sym (prototype_refused s n d p ∙ taps_go_on s n d t)
  only c (accepted {s} {n} {d} {a} {b} P t p f g) = passes s n d P ∙ sym (prototypes_go_on s n d a b p f g ∙ taps_go_on s n d t)

  -- a run is opened where no refusal has a cause
  pub opens : (z : SamplesPerPulse) (n : ℕ) (d : Distributions) → NoEarlierCause bytes l z n d → BothTaps z taps_s taps_ac → BothPrototypes z level taps_s taps_ac
      → (s : State) × (opened_of taps_s taps_ac bytes l ≡ Ok s)
  opens z n d P t p = go _ (mode_s_says level (prototype_s z)) _ (mode_ac_says level (prototype_ac z))
    where
      go : (x : Option Float) → DelaySays level (prototype_s z) (group_delay level (prototype_s z)) x
          → (y : Option Float) → DelaySays level (prototype_ac z) (mode_ac_group_delay level (prototype_ac z)) y
          → (s : State) × (opened_of taps_s taps_ac bytes l ≡ Ok s)
      go (Some a) f (Some b) g = (_, only _ (accepted P t p f.1 g.1))
      go (Some a) f None g = absurd (g p.1)
      go None f y g = absurd (f p.0)
