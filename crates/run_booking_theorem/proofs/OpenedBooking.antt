-- A booking of draws in range, on an opened run, gives its figures.
use Rattle.std.specs.Prelude.{option_map, Option, None}
use Rattle.std.specs.Prelude.{Ok}
use Prim.Native.Nat.{ℕ, suc, ◌%◌}
use mathlib.Core.List.{List, [], ◌∷◌, ◌++◌}
use mathlib.Core.Path.{◌≡◌, refl, ap, ◌∙◌}
use lib.ListN.{length}
use lib.Ieee.{Float}
use borrow.Author.Tests.{eq-eqb}
use Rattle.constants.specs.Setting.{per_pulse}
use Rattle.constants.specs.declared.SamplesPerPulse.{SamplesPerPulse}
use Rattle.pulse_shape.specs.Prototype.{mode_s_prototype, mode_ac_prototype}
use Rattle.refusals.specs.Answer.{unless}
use Rattle.run_theory.specs.Generator.{Generator}
use Rattle.run_theory.specs.PlainBench as Bench
use Rattle.run_theory.specs.Laws.{AllInRange}
use Rattle.settings.specs.Accepted.{setting_at, at_setting}
use Rattle.run_call.specs.declared.State.{State}
use Rattle.run_call.specs.Given.{refusal_given}
use Rattle.run_call.specs.StateGenerator.{gen_of}
use Rattle.run_open.specs.Opening.{opened_at}
use Rattle.run_booking.specs.Booking.{figures_of, draws_then, opened_then, booking_at, booking_of}

-- ---- draws in range
module _ (G : Generator) where
  open G use {Draw, fault}

  pub no_fault : (k : ℕ) (ds : List Draw) → AllInRange G ds → Bench.first_fault G k ds ≡ None
  no_fault k [] h = refl
  no_fault k (d ∷ ds) h = ap (λ (f : Option ℕ). Bench.or_else G (Bench.at_draw G k f) (Bench.first_fault G (suc k) ds)) h.0 ∙ no_fault (suc k) ds h.1

  pub both_in_range : (ds es : List Draw) → AllInRange G ds → AllInRange G es → AllInRange G (ds ++ es)
  both_in_range [] es h g = g
  both_in_range (d ∷ ds) es h g = (h.0, both_in_range ds es h.1 g)

-- ---- an opened run
module _ (taps_s taps_ac : List Float) (settings : List ℕ) where
  -- a booking of draws in range, on a run that opens at the samples per pulse of its settings
  pub booked : (z : SamplesPerPulse) (s : State) (time : Float) (bytes : List ℕ) → setting_at settings ≡ Ok z → opened_at taps_s taps_ac settings z ≡ Ok s → length bytes % 65 ≡ 0
      → AllInRange (gen_of s (mode_s_prototype (per_pulse s.setting) taps_s) (mode_ac_prototype (per_pulse s.setting) taps_ac)) (Bench.draws_of (gen_of s (mode_s_prototype (per_pulse s.setting) taps_s) (mode_ac_prototype (per_pulse s.setting) taps_ac)) bytes)
      → booking_of taps_s taps_ac time settings bytes ≡ Ok (figures_of (gen_of s (mode_s_prototype (per_pulse s.setting) taps_s) (mode_ac_prototype (per_pulse s.setting) taps_ac)) time (Bench.draws_of (gen_of s (mode_s_prototype (per_pulse s.setting) taps_s) (mode_ac_prototype (per_pulse s.setting) taps_ac)) bytes))
  unfolding booking_of booking_at at_setting opened_then draws_then unless
  booked z s time bytes b o whole h =
      ap (at_setting (booking_at taps_s taps_ac time settings bytes)) b
      ∙ rw (eq-eqb (length bytes % 65) 0 whole)
      (ap (opened_then taps_s taps_ac time bytes) o
      ∙ ap (λ (x : Option Bench.Refusal). unless (option_map refusal_given x) (figures_of H time (Bench.draws_of H bytes))) (no_fault H 0 (Bench.draws_of H bytes) h))
    where
      H : Generator
      H = gen_of s (mode_s_prototype (per_pulse s.setting) taps_s) (mode_ac_prototype (per_pulse s.setting) taps_ac)
