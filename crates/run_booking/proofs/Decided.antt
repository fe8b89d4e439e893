-- Each answer of a run's draws is what the definition gives.
use Rattle.std.specs.Prelude.{Option, Some, None, Result, Ok, Err, option_map}
use Prim.Native.Nat.{ℕ, ◌*◌, ◌/◌, ◌%◌}
use mathlib.Core.Path.{◌≡◌, refl, sym, ap, ◌∙◌}
use mathlib.Core.List.{List, []}
use lib.ListN.{length}
use lib.Ieee.{Float}
use borrow.Author.Tests.{eq-eqb}
use Rattle.constants.specs.declared.SamplesPerPulse.{SamplesPerPulse}
use Rattle.refusals.specs.declared.Refusal as Refusal
use Rattle.refusals.specs.Answer.{unless}
use Rattle.draw.specs.Fault.{first_fault}
use Rattle.run_theory.specs.Generator.{Generator}
use Rattle.run_theory.specs.PlainBench as Bench
use Rattle.run_call.specs.ChecksModel.{fault_read}
use Rattle.run_call.proofs.Draws.{fault_same}
use Rattle.settings.specs.Accepted.{setting_at, at_setting}
use Rattle.run_call.specs.declared.State.{State}
use Rattle.run_call.specs.StateGenerator.{gen_of}
use Rattle.run_call.specs.Given.{refusal_given}
use Rattle.run_booking.specs.declared.Walked.{Walked}
use Rattle.run_booking.specs.Walk as Walk
use Rattle.run_booking.specs.Answered.{walk_generator, walked_read}
use Rattle.run_open.specs.declared.Prepared.{Prepared}
use Rattle.run_open.specs.Opening.{opened_at, with_prototypes, prepared_read}
use Rattle.run_open.proofs.OpenedAs.{opened_as, refused_as}
use Rattle.run_booking.specs.Booking.{figures_of, draws_then, opened_then, booking_at, booking_of}
use Rattle.run_booking.specs.Booked.{figures_read, booked_read}

module _ (s : State) (mode_s mode_ac : List Float) (time : Float) (draws : List ℕ) where
  abbrev G : Generator
  G = gen_of s mode_s mode_ac

  -- the first fault of all draws
  module _ (f : (Option (ℕ × ℕ))) (e : f ≡ first_fault s.rates s.distributions draws) where
    fault_is : fault_read f ≡ Bench.first_fault (gen_of s mode_s mode_ac) 0 (Bench.draws_of (gen_of s mode_s mode_ac) draws)
    unfolding first_fault
    fault_is =
        ap fault_read e
        ∙ fault_same s.rates s.distributions (length draws / 65) 0 draws

    answer : (o : Option Bench.Refusal) → fault_read f ≡ o → unless (option_map refusal_given o) (figures_of G time (Bench.draws_of G draws)) ≡ draws_then s mode_s mode_ac time draws
    unfolding draws_then
    answer o q = ap (λ (x : Option Bench.Refusal). unless (option_map refusal_given x) (figures_of G time (Bench.draws_of G draws))) (sym q ∙ fault_is)

    pub draw_refused : (k field : ℕ) → f ≡ Some (k, field) → booked_read (Err (Refusal.TheVariants.Draw k field)) ≡ draws_then s mode_s mode_ac time draws
    unfolding booked_read unless fault_read refusal_given
    draw_refused k field q = answer (Some (Bench.wrong_draw k field)) (ap fault_read q)

    pub figures_given : f ≡ None → (w : Walked) → walked_read w ≡ Walk.walk_of (walk_generator s.setting s.distributions s.delays s.total) time (Bench.draws_of (walk_generator s.setting s.distributions s.delays s.total) draws)
        → booked_read (Ok (record { samples = s.total; noise = 2 * s.total; records = w.records; taken = w.taken; end = w.end })) ≡ draws_then s mode_s mode_ac time draws
    unfolding booked_read figures_read walked_read unless fault_read
    figures_given q w p =
        (λ i. Ok (record { samples = s.total; noise = 2 * s.total; records = (p i).records; taken = (p i).taken; end = (p i).end }))
        ∙ answer None (ap fault_read q)

-- prototypes do not matter
any_prototypes : (s : State) (mode_s mode_ac : List Float) (time : Float) (draws : List ℕ) → draws_then s mode_s mode_ac time draws ≡ draws_then s [] [] time draws
unfolding draws_then
any_prototypes s mode_s mode_ac time draws = refl

-- ---- what opening answers, read from what is prepared
module _ (taps_s taps_ac : List Float) (r : Result Prepared Refusal.Refusal) (time : Float) (draws : List ℕ) where
  pub prepared_then : (x : Result State Refusal.Refusal) (p : Prepared) → r ≡ Ok p → prepared_read r ≡ with_prototypes taps_s taps_ac x → opened_then taps_s taps_ac time draws x ≡ draws_then p.state [] [] time draws
  unfolding opened_then
  prepared_then x p k e = ap (opened_then taps_s taps_ac time draws) (opened_as taps_s taps_ac x p (sym (ap prepared_read k) ∙ e)).opens ∙ any_prototypes p.state _ _ time draws

  -- a refusal of opening is the booking's
  pub refused_then : (settings : List ℕ) (setting : SamplesPerPulse) → setting_at settings ≡ Ok setting → length draws % 65 ≡ 0 → prepared_read r ≡ with_prototypes taps_s taps_ac (opened_at taps_s taps_ac settings setting) → (q : Refusal.Refusal) → r ≡ Err q
      → booking_of taps_s taps_ac time settings draws ≡ Err q
  unfolding booking_of booking_at at_setting opened_then
  refused_then settings setting b whole e q k =
      ap (at_setting (booking_at taps_s taps_ac time settings draws)) b
      ∙ rw (eq-eqb (length draws % 65) 0 whole) (ap (opened_then taps_s taps_ac time draws) (refused_as taps_s taps_ac _ q (sym (ap prepared_read k) ∙ e)))
