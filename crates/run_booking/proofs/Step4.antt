-- What step 4 makes of a draw, by its start, test by test as the code meets it.
use mathlib.Core.Path.{◌≡◌, sym, ap, ◌∙◌}
use Prim.Native.Nat.{ℕ, ◌+◌, ◌≤◌, ◌<◌}
use native.Mathlib.Omega.{arith}
use lib.IntN.{ℤ, pos}
use Rattle.constants.specs.Rate.{reply_limit}
use Rattle.constants.specs.Setting.{per_pulse}
use Rattle.constants.specs.declared.SamplesPerPulse.{SamplesPerPulse}
use Rattle.run_theory.specs.Generator.{Start, negative, from, start_from}
use Rattle.run_theory.specs.PlainRun as Plain
use Rattle.run_call_model.proofs.Plan as Laws
use Rattle.run_steps.specs.PlanModel.{counted}
use Rattle.run_booking.specs.declared.Kind as Kind
use Rattle.run_booking.specs.WalkModel.{kind_seen}

module _ (setting : SamplesPerPulse) (total : ℕ) (start : ℤ) where
  abbrev Seen : Kind.Kind → Type 0
  Seen k = k ≡ kind_seen (Plain.kind_of (counted setting total) (start_from start))

  pub ignored : start_from start ≡ negative → Seen Kind.TheVariants.Ignored
  unfolding kind_seen
  ignored e = sym (ap (λ (s : Start). kind_seen (Plain.kind_of (counted setting total) s)) e)

  at_start : (first : ℕ) → start ≡ pos first → Plain.kind_of (counted setting total) (from first) ≡ Plain.kind_of (counted setting total) (start_from start)
  unfolding start_from
  at_start first e = sym (ap (λ (z : ℤ). Plain.kind_of (counted setting total) (start_from z)) e)

  pub ends : (first n : ℕ) → start ≡ pos first → n ≡ reply_limit (per_pulse setting) → total ≤ first + n → Seen Kind.TheVariants.Ends
  unfolding kind_seen
  ends first n e q h = ap kind_seen (sym (Laws.start_ends (counted setting total) first (omega (arith, q, h))) ∙ at_start first e)

  pub replies : (first n : ℕ) → start ≡ pos first → n ≡ reply_limit (per_pulse setting) → first + n < total → Seen Kind.TheVariants.Reply
  unfolding kind_seen
  replies first n e q h = ap kind_seen (sym (Laws.start_replies (counted setting total) first (omega (arith, q, h))) ∙ at_start first e)
