-- The walk is the plain run's (SPECIFICATION 10.4, 10.1): its records are the plain run's, it ends at a draw where an end draw is among the draws, and draws run out at their time.
use Rattle.std.specs.Prelude.{ℕ, suc, true, false, List, ◌≡◌, length}
use Rattle.run_theory.specs.Generator.{Generator}
use Rattle.run_theory.specs.PlainRun.{time_of, ended, plain_records}
use Rattle.run_booking.specs.Walk.{End, at_draw, ran_out, walk_of}

module _ (G : Generator) where
  open G use {Draw, Time, t0}

  -- where a walk ends
  abbrev pub EndIs : List Draw → ℕ → End Time → Type 0
  EndIs ds taken (at_draw k) = (ended G t0 ds ≡ true) × (taken ≡ suc k)
  EndIs ds taken (ran_out t) = (ended G t0 ds ≡ false) × (taken ≡ length ds) × (t ≡ time_of G t0 ds)

  pub record PlainWalk (ds : List Draw) : Type 0 where
    pub records : (walk_of G t0 ds).records ≡ length (plain_records G ds)
    pub end : EndIs ds (walk_of G t0 ds).taken (walk_of G t0 ds).end
