-- The figures of parts added are those of the whole: `parts`, at the end.
use Rattle.std.specs.Prelude.{option_map, Option, Some, None}
use Rattle.std.specs.Prelude.{Result, Ok, Err}
use Prim.Native.Nat.{ℕ, suc, ◌+◌, ◌*◌, ◌/◌, ◌%◌}
use mathlib.Core.Bool.{Bool, true, false, cond}
use mathlib.Core.List.{List, [], ◌∷◌, ◌++◌, append-nil}
use mathlib.Core.Path.{◌≡◌, refl, sym, ap, ◌∙◌, subst}
use native.Mathlib.Omega.{arith}
use lib.Dec.{eqb}
use lib.ListN.{length}
use lib.Ieee.{Float}
use Rattle.constants.specs.Setting.{per_pulse}
use Rattle.constants.specs.declared.SamplesPerPulse.{SamplesPerPulse}
use Rattle.pulse_shape.specs.Prototype.{mode_s_prototype, mode_ac_prototype}
use Rattle.refusals.specs.declared.Refusal as Refusal
use Rattle.refusals.specs.Answer.{unless}
use Rattle.run_theory.specs.Each.{Each}
use Rattle.run_theory.specs.Generator.{Generator}
use Rattle.run_theory.specs.PlainRun.{Kind, ignored, ends, reply, kind, time_of, ended, replies}
use Rattle.run_theory.specs.PlainBench as Bench
use Rattle.run_theory.specs.PlainBench.{join}
use Rattle.run_theory.specs.Laws.{AllInRange}
use Rattle.run_theory.proofs.Refusals.{accepted_draws}
use Rattle.run_generator.specs.Instance.{RepresentableDraw}
use Rattle.settings.specs.Accepted.{setting_at}
use Rattle.run_call.specs.declared.State.{State}
use Rattle.run_call.specs.Given.{refusal_given}
use Rattle.run_call.specs.StateGenerator.{filters_of, gen_of}
use Rattle.run_open.specs.Opening.{opened_at}
use Rattle.run_open.proofs.OpenedSetting.{at_setting_ok}
use Rattle.run_booking.specs.Walk.{Walk, End, at_draw, by_kind, walk_from, walk_of}
use Rattle.run_booking.specs.Booking.{Figures, figures_of, draws_then, opened_then, booking_at, booking_of}
use Rattle.run_booking_theorem.specs.Parts.{behind, added_to, go_on, and_then, in_parts, WholeDraws, Parts}
use Rattle.run_booking_theorem.proofs.Walked.{walk_on, walk_out, walk_ends}
use Rattle.run_booking_theorem.proofs.OpenedBooking.{booked}
use Rattle.run_booking_theorem.proofs.DrawsJoined.{draws_joined}

-- ---- a walk counted from other numbers
module _ (G : Generator) where
  open G use {Draw, Time, after}

  abbrev moved : ℕ → ℕ → Walk Time → Walk Time
  moved a b w = record { records = b + w.records; taken = a + w.taken; end = behind a w.end }

  pub walk_moved : (a b k n : ℕ) (t : Time) (ds : List Draw) → walk_from G (a + k) (b + n) t ds ≡ moved a b (walk_from G k n t ds)
  walk_moved a b k n t [] = refl
  walk_moved a b k n t (d ∷ ds) = go (kind G (after t d) d) (λ m. walk_moved a b (suc k) m (after t d) ds)
    where
      up : (x y : ℕ) → suc (x + y) ≡ x + suc y
      up x y = omega arith

      go : (x : Kind) → ((m : ℕ) → walk_from G (a + suc k) (b + m) (after t d) ds ≡ moved a b (walk_from G (suc k) m (after t d) ds))
          → by_kind x (walk_from G (suc (a + k)) (b + n) (after t d) ds) (record { records = b + n; taken = suc (a + k); end = at_draw (a + k) }) (walk_from G (suc (a + k)) (suc (b + n)) (after t d) ds)
          ≡ moved a b (by_kind x (walk_from G (suc k) n (after t d) ds) (record { records = n; taken = suc k; end = at_draw k }) (walk_from G (suc k) (suc n) (after t d) ds))
      go ignored ih = ap (λ (m : ℕ). walk_from G m (b + n) (after t d) ds) (up a k) ∙ ih n
      go ends ih = λ i. record { records = b + n; taken = up a k i; end = at_draw (a + k) }
      go (reply s) ih = (λ i. walk_from G (up a k i) (up b n i) (after t d) ds) ∙ ih (suc n)

  -- ---- two parts of draws
  module _ (t : Time) (ds es : List Draw) where
    pub one_part : ended G t ds ≡ true → walk_of G t (ds ++ es) ≡ walk_of G t ds
    one_part e =
        let f = walk_ends G 0 0 t ds e in
        f.1 es ∙ sym (ap (walk_from G 0 0 t) (sym (append-nil ds)) ∙ f.1 [])

    pub two_parts : ended G t ds ≡ false → walk_of G t (ds ++ es) ≡ moved (walk_of G t ds).taken (walk_of G t ds).records (walk_of G (time_of G t ds) es)
    two_parts e =
        walk_on G 0 0 t ds es e
        ∙ (λ i. walk_from G (same (0 + length ds) i) (same (0 + length (replies G t ds)) i) (time_of G t ds) es)
        ∙ walk_moved (0 + length ds) (0 + length (replies G t ds)) 0 0 (time_of G t ds) es
        ∙ (λ i. moved (sym (walk_out G 0 0 t ds e) i).taken (sym (walk_out G 0 0 t ds e) i).records (walk_of G (time_of G t ds) es))
      where
        same : (m : ℕ) → m ≡ m + 0
        same m = omega arith

-- ---- an accepted booking
not_accepted : {X Y : Type 0} (q : Refusal.Refusal) (y : Y) → ◌≡◌ {A = Result Y Refusal.Refusal} (Err q) (Ok y) → X
not_accepted q y e = let z : ◌≡◌ {A = ℕ} 0 1 = cc in absurd (omega arith)

module _ (taps_s taps_ac : List Float) (settings : List ℕ) where
  abbrev H : State → Generator
  H s = gen_of s (mode_s_prototype (per_pulse s.setting) taps_s) (mode_ac_prototype (per_pulse s.setting) taps_ac)

  in_range : (s : State) (t : Float) (ds : List RepresentableDraw) → Bench.first_fault (H s) 0 ds ≡ None → AllInRange (H s) ds
  in_range s t [] e = tt
  in_range s t (d ∷ ds) e = (accepted_draws (H s) t None (d ∷ ds) e).in_range

  record Accepts (t : Float) (bytes : List ℕ) (f : Figures Float) : Type 0 where
    setting : SamplesPerPulse
    is_said : setting_at settings ≡ Ok setting
    state : State
    is_opened : opened_at taps_s taps_ac settings setting ≡ Ok state
    all_in_range : AllInRange (gen_of state (mode_s_prototype (per_pulse state.setting) taps_s) (mode_ac_prototype (per_pulse state.setting) taps_ac)) (Bench.draws_of (gen_of state (mode_s_prototype (per_pulse state.setting) taps_s) (mode_ac_prototype (per_pulse state.setting) taps_ac)) bytes)
    figures : figures_of (gen_of state (mode_s_prototype (per_pulse state.setting) taps_s) (mode_ac_prototype (per_pulse state.setting) taps_ac)) t (Bench.draws_of (gen_of state (mode_s_prototype (per_pulse state.setting) taps_s) (mode_ac_prototype (per_pulse state.setting) taps_ac)) bytes) ≡ f

  what_is_accepted : (t : Float) (bytes : List ℕ) (f : Figures Float) → booking_of taps_s taps_ac t settings bytes ≡ Ok f → Accepts t bytes f
  unfolding booking_of booking_at opened_then draws_then unless
  what_is_accepted t bytes f e =
      let w = at_setting_ok (booking_at taps_s taps_ac t settings bytes) (setting_at settings) f e in
      by_setting w.0 w.1 w.2
    where
      by_setting : (z : SamplesPerPulse) → setting_at settings ≡ Ok z → booking_at taps_s taps_ac t settings bytes z ≡ Ok f → Accepts t bytes f
      by_setting z b e' = by_length (eqb (length bytes % 65) 0) e'
        where
          by_fault_lem : (s : State) → opened_at taps_s taps_ac settings z ≡ Ok s → (x : Option Bench.Refusal) → Bench.first_fault (H s) 0 (Bench.draws_of (H s) bytes) ≡ x
              → unless (option_map refusal_given x) (figures_of (H s) t (Bench.draws_of (H s) bytes)) ≡ Ok f → Accepts t bytes f
          by_fault_lem s o None k q =
              let same : figures_of (H s) t (Bench.draws_of (H s) bytes) ≡ f = cc in
              record { setting = z; is_said = b; state = s; is_opened = o; all_in_range = in_range s t (Bench.draws_of (H s) bytes) k; figures = same }
          by_fault_lem s o (Some r) k q = not_accepted _ f q

          by_opened : (x : (Result State Refusal.Refusal)) → opened_at taps_s taps_ac settings z ≡ x → opened_then taps_s taps_ac t bytes x ≡ Ok f → Accepts t bytes f
          by_opened (Ok s) o q = by_fault_lem s o (Bench.first_fault (H s) 0 (Bench.draws_of (H s) bytes)) refl q
          by_opened (Err r) o q = not_accepted r f q

          by_length : (whole : Bool) → cond whole (opened_then taps_s taps_ac t bytes (opened_at taps_s taps_ac settings z)) (Err Refusal.TheVariants.Length) ≡ Ok f → Accepts t bytes f
          by_length true q = by_opened (opened_at taps_s taps_ac settings z) refl q
          by_length false q = not_accepted _ f q

  -- ---- part after part
  module _ (z : SamplesPerPulse) (s : State) (b : setting_at settings ≡ Ok z) (o : opened_at taps_s taps_ac settings z ≡ Ok s) where
    abbrev draws_in : List ℕ → List RepresentableDraw
    draws_in bytes = Bench.draws_of (gen_of s (mode_s_prototype (per_pulse s.setting) taps_s) (mode_ac_prototype (per_pulse s.setting) taps_ac)) bytes

    first_in_range : (ds es : List RepresentableDraw) → AllInRange (H s) (ds ++ es) → AllInRange (H s) ds
    first_in_range [] es h = tt
    first_in_range (d ∷ ds) es h = (h.0, first_in_range ds es h.1)

    rest_in_range : (ds es : List RepresentableDraw) → AllInRange (H s) (ds ++ es) → AllInRange (H s) es
    rest_in_range [] es h = h
    rest_in_range (d ∷ ds) es h = rest_in_range ds es h.1

    -- the figures of two parts of draws
    went : (t : Float) (ds es : List RepresentableDraw) (next : Float → Result (Figures Float) Refusal.Refusal) → ((t' : Float) → next t' ≡ Ok (figures_of (H s) t' es))
        → go_on (figures_of (H s) t ds) next (walk_of (H s) t ds).end ≡ Ok (figures_of (H s) t (ds ++ es))
    went t ds es next ih = go (ended (H s) t ds) refl
      where
        figured : Walk Float → Figures Float
        figured w = record { samples = (H s).total; noise = 2 * (H s).total; records = w.records; taken = w.taken; end = w.end }

        go : (b : Bool) → ended (H s) t ds ≡ b → go_on (figures_of (H s) t ds) next (walk_of (H s) t ds).end ≡ Ok (figures_of (H s) t (ds ++ es))
        go true e =
            let f = walk_ends (H s) 0 0 t ds e in
            ap (λ (x : End Float). go_on (figures_of (H s) t ds) next x) (ap (λ (w : Walk Float). w.end) (ap (walk_from (H s) 0 0 t) (sym (append-nil ds)) ∙ f.1 []))
            ∙ ap (λ (w : Walk Float). Ok (figured w)) (sym (one_part (H s) t ds es e))
        go false e =
            ap (λ (x : End Float). go_on (figures_of (H s) t ds) next x) (ap (λ (w : Walk Float). w.end) (walk_out (H s) 0 0 t ds e))
            ∙ ap (added_to (figures_of (H s) t ds)) (ih (time_of (H s) t ds))
            ∙ ap (λ (w : Walk Float). Ok (figured w)) (sym (two_parts (H s) t ds es e))

    in_parts_lem : (t : Float) (ps : List (List ℕ)) → Each WholeDraws ps → AllInRange (H s) (draws_in (join ps)) → in_parts taps_s taps_ac settings t ps ≡ Ok (figures_of (H s) t (draws_in (join ps)))
    in_parts_lem t [] w h = booked taps_s taps_ac settings z s t [] b o refl h
    in_parts_lem t (p ∷ ps) w h =
        let joined = draws_joined (filters_of s (mode_s_prototype (per_pulse s.setting) taps_s) (mode_ac_prototype (per_pulse s.setting) taps_ac)) s.total (length p / 65) p (join ps) (omega (arith, w.0)) in
        let both = subst (AllInRange (H s)) joined h in
        ap (λ (x : Result (Figures Float) Refusal.Refusal). and_then x (λ t'. in_parts taps_s taps_ac settings t' ps)) (booked taps_s taps_ac settings z s t p b o w.0 (first_in_range (draws_in p) (draws_in (join ps)) both))
        ∙ went t (draws_in p) (draws_in (join ps)) (λ t'. in_parts taps_s taps_ac settings t' ps) (λ t'. in_parts_lem t' ps w.1 (rest_in_range (draws_in p) (draws_in (join ps)) both))
        ∙ ap (λ (l : List RepresentableDraw). Ok (figures_of (H s) t l)) (sym joined)

pub parts : Parts
parts taps_s taps_ac settings t ps w f e =
    let a = what_is_accepted taps_s taps_ac settings t (join ps) f e in
    in_parts_lem taps_s taps_ac settings a.setting a.state a.is_said a.is_opened t ps w a.all_in_range ∙ ap Ok a.figures
