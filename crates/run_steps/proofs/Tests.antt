-- The plan, test by test, as the code meets it.
use Rattle.std.proofs.Common.{◌≡◌, ℕ, ◌+◌, ◌-◌, ◌<◌, ◌≤◌, Bool, true, false, ℤ, pos, negsuc, sym, refl, ap, ◌∙◌, subst, arith, w64, SFits, to_z, of_z, to_z-of_z}
use Rattle.std.specs.Int.{FitsUnsignedBits}
use lib.Ieee.{Float}
use Rattle.run_theory.specs.Generator.{Start, negative, from, start_from}
use Rattle.run_theory.specs.PlainRun.{Kind, kind_of}
use Rattle.run_call_model.specs.Plan as Theory
use Rattle.run_call_model.proofs.Plan as Laws
use Rattle.message_config.specs.declared.Delays.{Delays}
use Rattle.message_config.specs.declared.MessageConfig.{MessageConfig}
use Rattle.message_config.specs.Config.{config_start}
use Rattle.run_steps.specs.declared.Stop as Stop
use Rattle.run_steps.specs.declared.Plan as Plan
use Rattle.run_steps.specs.declared.Room.{Room}
use Rattle.constants.specs.Rate.{reply_limit, hold_back}
use Rattle.constants.specs.Setting.{per_pulse}
use Rattle.constants.specs.declared.SamplesPerPulse.{SamplesPerPulse}
use Rattle.run_steps.specs.PlanModel.{counted, stop_read, plan_read, chosen}

-- a start that a u64 does not hold is negative; the code's start has been through 64 bits
below : (start y : ℤ) → SFits w64 start → y ≡ start → (FitsUnsignedBits 64 y → ⊥) → start_from start ≡ negative
unfolding start_from
below (pos n) y f e q = absurd (q (subst (FitsUnsignedBits 64) (sym e) (omega (arith, f.sfits))))
below (negsuc n) y f e q = refl

pub negative_start : (start : ℤ) → SFits w64 start → (FitsUnsignedBits 64 (to_z w64 (of_z w64 start)) → ⊥) → start_from start ≡ negative
negative_start start f q = below start _ f (to_z-of_z f) q

-- a draw, by its start
module _ (s : SamplesPerPulse) (total written : ℕ) (time : Float) (start : ℤ) (room : Room) where
  abbrev by : Kind → Theory.Plan Float
  by k = Theory.plan_draw (counted s total) written time k room.output room.noise room.records

  pub skips : start_from start ≡ negative → plan_read (Plan.TheVariants.Skip time) ≡ by (kind_of (counted s total) (start_from start))
  unfolding plan_read
  skips e = sym (ap (λ (x : Start). by (kind_of (counted s total) x)) e)

  at_start : (first : ℕ) → start ≡ pos first → kind_of (counted s total) (from first) ≡ kind_of (counted s total) (start_from start)
  unfolding start_from
  at_start first e = sym (ap (λ (z : ℤ). kind_of (counted s total) (start_from z)) e)

  pub ends_run : (first : ℕ) → start ≡ pos first → total ≤ first + reply_limit (per_pulse s) → plan_read (Plan.TheVariants.End time) ≡ by (kind_of (counted s total) (start_from start))
  unfolding plan_read
  ends_run first e h = ap by (sym (Laws.start_ends (counted s total) first h) ∙ at_start first e)

  pub replies : (first : ℕ) (p : Plan.Plan) → start ≡ pos first → first + reply_limit (per_pulse s) < total → plan_read p ≡ Theory.plan_reply (counted s 0) (first - hold_back (per_pulse s) - written) time first room.output room.noise room.records → plan_read p ≡ by (kind_of (counted s total) (start_from start))
  replies first p e h k = k ∙ ap by (sym (Laws.start_replies (counted s total) first h) ∙ at_start first e)

-- the choice
module _ (s : SamplesPerPulse) (written total : ℕ) (delays : Delays) (last : MessageConfig) (rest : ℕ) (room : Room) where
  abbrev at : Bool → ℤ → Theory.Plan Float
  at b start = Theory.plan (counted s total) b written rest last.time (kind_of (counted s total) (start_from start)) room.output room.noise room.records

  abbrev here : Bool → Theory.Plan Float
  here b = at b (config_start delays last)

  abbrev Chosen : Bool → Theory.Plan Float
  Chosen ended = chosen s ended written total delays last rest room.output room.noise room.records

  pub chose_ended : (ended : Bool) → ended ≡ true → Theory.plan_ended (counted s total) written room.output room.noise ≡ Chosen ended
  unfolding chosen
  chose_ended ended e = sym (ap here e)

  pub chose_none : (ended : Bool) → ended ≡ false → rest < 65 → plan_read (Plan.TheVariants.Halt Stop.TheVariants.WantsDraws) ≡ Chosen ended
  unfolding chosen plan_read stop_read
  chose_none ended e h = sym (ap here e ∙ Laws.wants_draws_lem (counted s total) written rest last.time (kind_of (counted s total) (start_from (config_start delays last))) room.output room.noise room.records h)

  pub chose_draw : (ended : Bool) → ended ≡ false → 65 ≤ rest → (start : ℤ) → start ≡ config_start delays last
      → Theory.plan_draw (counted s total) written last.time (kind_of (counted s total) (start_from start)) room.output room.noise room.records ≡ Chosen ended
  unfolding chosen
  chose_draw ended e h start q =
      sym (Laws.has_draw (counted s total) written rest last.time (kind_of (counted s total) (start_from start)) room.output room.noise room.records h) ∙ ap (at false) q ∙ sym (ap here e)
