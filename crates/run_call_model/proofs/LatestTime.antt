-- The machine's latest time is the bench's, with the first time for none: no time is before it, and no other is as early. So both refuse alike and move alike.
use Rattle.std.specs.Prelude.{Option, Some, None}
use mathlib.Core.Bool.{Bool, true, false, cond}
use mathlib.Core.List.{List, [], ◌∷◌}
use mathlib.Core.Path.{◌≡◌, refl, sym, ap, ◌∙◌}
use Prim.Native.Nat.{ℕ, zero, suc}
use native.Mathlib.Omega.{arith}
use Rattle.run_theory.specs.Generator.{Generator}
use Rattle.run_theory.specs.PlainBench.{Refusal, wrong_length, wrong_draw, Call, draws_of, wrong_lengths, or_else, at_draw, first_fault, first_out_of_range, jumps_back, draw_refusal, refusal_of, latest, latest_or_first}
use Rattle.run_theory.specs.Laws.{Laws}
use Rattle.run_call_model.specs.Machine.{later}

module _ (G : Generator) (L : Laws G) where
  open G use {Draw, Time, t0, after, before, fault}

  abbrev pub StandsFor : Option Time → Time → Type 0
  StandsFor p m = m ≡ latest_or_first G p

  -- both say alike whether a time jumps back
  test_alike : (p : Option Time) (t : Time) → L.Good t → jumps_back G (Some (latest_or_first G p)) t ≡ jumps_back G p t
  test_alike None t g = L.first_time t g
  test_alike (Some m) t g = refl

  -- both move alike
  pub stands_later : (p : Option Time) (m t : Time) → StandsFor p m → L.Good t → StandsFor (latest G p t) (later G m t)
  stands_later p m t h g = ap (λ (x : Time). later G x t) h ∙ moved p
    where
      from_none : (x : Bool) → before t0 t ≡ x → cond x t t0 ≡ t
      from_none true e = refl
      from_none false e = sym (L.first_alone t g e)

      moved : (p : Option Time) → later G (latest_or_first G p) t ≡ latest_or_first G (latest G p t)
      moved None = from_none (before t0 t) refl
      moved (Some n) = refl

  -- both refuse alike: where the gap itself is out of range, the first draw is refused at its gap either way
  pub refusal_alike : (t : Time) (p : Option Time) (m : Time) (c : Call G) → L.Good t → StandsFor p m → refusal_of G t (Some m) c ≡ refusal_of G t p c
  refusal_alike t p m c g h =
      ap (λ (x : Time). refusal_of G t (Some x) c) h
      ∙ ap (λ (x : Option Refusal). cond (wrong_lengths G c) (Some wrong_length) (or_else G x (first_out_of_range G 0 c.noise))) (draws (draws_of G c.draws))
    where
      either : (x y : Bool) (q r : Option Refusal) → r ≡ q → cond x q r ≡ cond y q r
      either true true q r e = refl
      either false false q r e = refl
      either true false q r e = sym e
      either false true q r e = e

      by_fault_lem : (d : Draw) (ds : List Draw) (f : Option ℕ) → fault d ≡ f → draw_refusal G t (Some (latest_or_first G p)) (d ∷ ds) ≡ draw_refusal G t p (d ∷ ds)
      by_fault_lem d ds None e =
          ap (λ (x : Bool). cond x (Some (wrong_draw 0 0)) (first_fault G 0 (d ∷ ds)))
          (test_alike p (after t d) (L.good_after t d g (λ f. let z : ◌≡◌ {A = ℕ} 0 1 = cc in omega arith)))
      by_fault_lem d ds (Some zero) e =
          either (before (after t d) (latest_or_first G p)) (jumps_back G p (after t d)) (Some (wrong_draw 0 0)) (first_fault G 0 (d ∷ ds)) (ap (λ (f : Option ℕ). or_else G (at_draw G 0 f) (first_fault G 1 ds)) e)
      by_fault_lem d ds (Some (suc k)) e =
          ap (λ (x : Bool). cond x (Some (wrong_draw 0 0)) (first_fault G 0 (d ∷ ds)))
          (test_alike p (after t d) (L.good_after t d g (λ f. let z : suc k ≡ 0 = cc in omega arith)))

      draws : (ds : List Draw) → draw_refusal G t (Some (latest_or_first G p)) ds ≡ draw_refusal G t p ds
      draws [] = refl
      draws (d ∷ ds) = by_fault_lem d ds (fault d) refl
