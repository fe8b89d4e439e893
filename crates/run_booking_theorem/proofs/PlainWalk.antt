-- The walk is the plain run's.
use Prim.Native.Nat.{◌+◌}
use mathlib.Core.Bool.{Bool, true, false}
use mathlib.Core.List.{List, [], append-nil}
use mathlib.Core.Path.{◌≡◌, refl, sym, ap, ◌∙◌, subst}
use native.Mathlib.Nat.{zero-add}
use lib.ListN.{length, length-map}
use Rattle.run_theory.specs.Generator.{Generator}
use Rattle.run_theory.specs.PlainRun.{ended, replies, plain_records}
use Rattle.run_booking.specs.Walk.{Walk, walk_of, walk_from}
use Rattle.run_booking_theorem.specs.PlainWalk.{EndIs, PlainWalk}
use Rattle.run_booking_theorem.proofs.Walked.{walk_out, walk_ends}

module _ (G : Generator) where
  open G use {Draw, Time, t0}

  pub plain_walk : (ds : List Draw) → PlainWalk G ds
  plain_walk ds = go (ended G t0 ds) refl
    where
      lines : 0 + length (replies G t0 ds) ≡ length (plain_records G ds)
      lines = zero-add (length (replies G t0 ds)) ∙ sym (length-map (replies G t0 ds) (λ r. r.line))

      go : (e : Bool) → ended G t0 ds ≡ e → PlainWalk G ds
      go false e =
          let w = walk_out G 0 0 t0 ds e in
          record {
            records = ap (λ (x : Walk Time). x.records) w ∙ lines;
            end = subst (λ (x : Walk Time). EndIs G ds x.taken x.end) (sym w) (e, zero-add (length ds), refl);
          }
      go true e =
          let f = walk_ends G 0 0 t0 ds e in
          let w : walk_of G t0 ds ≡ _ = ap (walk_from G 0 0 t0) (sym (append-nil ds)) ∙ f.1 [] in
          record {
            records = ap (λ (x : Walk Time). x.records) w ∙ lines;
            end = subst (λ (x : Walk Time). EndIs G ds x.taken x.end) (sym w) (e, refl);
          }
