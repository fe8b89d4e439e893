-- No reply of a run on draws in range adds before its first sample, nor to more than `limit`.
use mathlib.Core.List.{List, [], ◌∷◌}
use mathlib.Core.Path.{◌≡◌, refl}
use Prim.Native.Nat.{ℕ, ◌≤◌}
use native.Mathlib.Omega.{arith}
use lib.ListN.{length}
use Rattle.run_theory.specs.Generator.{Generator}
use Rattle.run_theory.specs.Each.{Each}
use Rattle.run_theory.specs.PlainRun.{Kind, ignored, ends, reply, Reply, kind, reply_of, push, replies}
use Rattle.run_theory.specs.Laws.{Laws, InRange, AllInRange}
use Rattle.run_theory.specs.Demand3.{Reach}
use Rattle.run_theory.proofs.PlainFacts.{hit_before, hit_behind}
use Rattle.run_theory.proofs.Reached.{good_on}
use Rattle.run_theory.proofs.ListClaim.{Recorded}

module _ (G : Generator) (L : Laws G) where
  open G use {Draw, Time, after, adds, limit}

  -- what holds of no reply, and of one more reply of a draw in range, holds of the replies of draws in range
  pub all_replies :
      (A : List (Reply G) → Type 0) → A [] → ((t : Time) (d : Draw) (s : ℕ) → L.Good t → InRange G d → kind G t d ≡ reply s → (rs : List (Reply G)) → A rs → A (reply_of G t d s ∷ rs))
      → (t : Time) (ds : List Draw) → L.Good t → AllInRange G ds → A (replies G t ds)
  all_replies A none more t [] g h = none
  all_replies A none more t (d ∷ ds) g h = go (kind G (after t d) d) refl (all_replies A none more (after t d) ds good h.1)
    where
      good : L.Good (after t d)
      good = good_on G L t d g h.0

      go : (k : Kind) → kind G (after t d) d ≡ k → A (replies G (after t d) ds) → A (push G k (after t d) d (replies G (after t d) ds))
      go ignored e ih = ih
      go ends e ih = none
      go (reply s) e ih = more (after t d) d s good h.0 e (replies G (after t d) ds) ih

  -- each has its count in its record
  pub all_recorded : (t : Time) (ds : List Draw) → L.Good t → AllInRange G ds → Each (Recorded G) (replies G t ds)
  all_recorded = all_replies (Each (Recorded G)) tt (λ t d s g h e rs ih. (record { time = t; draw = d; line = refl; few = L.short t d s g h e }, ih))

  pub all_reach : (t : Time) (ds : List Draw) → L.Good t → AllInRange G ds → Each (Reach G) (replies G t ds)
  all_reach = all_replies (Each (Reach G)) tt (λ t d s g h e rs ih. (reach t d s (L.short t d s g h e), ih))
    where
      reach : (t : Time) (d : Draw) (s : ℕ) → length (adds t d s) ≤ limit → Reach G (reply_of G t d s)
      reach t d s few = record {
        few = few;
        none_before = λ a n lt. hit_before G a (reply_of G t d s) n lt;
        none_behind = λ a n le. hit_behind G a (reply_of G t d s) n (omega (arith, few));
      }
