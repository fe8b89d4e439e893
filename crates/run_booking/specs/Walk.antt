-- One walk over draws (SPECIFICATION 10.4): time, start, and what step 4 makes of each draw, as the plain run has them; the records, and the draw that ends the run.
use Rattle.std.specs.Prelude.{ℕ, suc, List, [], ◌∷◌}
use Rattle.run_theory.specs.Generator.{Generator}
use Rattle.run_theory.specs.PlainRun.{Kind, ignored, ends, reply, kind}

-- where a walk ends: at the draw that ends the run, by its index; or draws ran out, at the time of the last one
pub data End (Time : Type 0) : Type 0 where
  at_draw : ℕ → End Time
  ran_out : Time → End Time

-- the records, the draws taken, up to and with the one that ends the run, and where the walk ends
pub record Walk (Time : Type 0) : Type 0 where
  pub records : ℕ
  pub taken : ℕ
  pub end : End Time

-- by what step 4 makes of a draw: it is taken and ignored, it ends the run, or it is a reply
abbrev pub by_kind : {X : Type 0} → Kind → X → X → X → X
by_kind ignored passed ended replied = passed
by_kind ends passed ended replied = ended
by_kind (reply s) passed ended replied = replied

module _ (G : Generator) where
  open G use {Draw, Time, after}

  -- from time t on, draw k being the next one, with n records before it; each reply is a record
  abbrev pub walk_from : ℕ → ℕ → Time → List Draw → Walk Time
  walk_from k n t [] = record { records = n; taken = k; end = ran_out t }
  walk_from k n t (d ∷ ds) =
      by_kind (kind G (after t d) d)
      (walk_from (suc k) n (after t d) ds)
      (record { records = n; taken = suc k; end = at_draw k })
      (walk_from (suc k) (suc n) (after t d) ds)

  -- all of them, from time t on
  abbrev pub walk_of : Time → List Draw → Walk Time
  walk_of t ds = walk_from 0 0 t ds
