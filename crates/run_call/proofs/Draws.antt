-- Refusal 7 is the plain bench's: a first draw that jumps back, or the first draw and field at fault.
use Rattle.std.specs.Prelude.{Option, Some, None}
use mathlib.Core.Path.{◌≡◌, refl, sym, ap, ◌∙◌}
use mathlib.Core.Bool.{Bool, true, false, cond, false≢true}
use mathlib.Core.List.{List, ◌∷◌}
use Prim.Native.Nat.{ℕ, zero, suc, ◌/◌, ◌≤◌}
use lib.Dec.{ltb, lit<}
use lib.ListN.{length, drop}
use lib.Ieee.{Float, lt}
use borrow.Author.Tests.{ltb-true, ltb-false}
use Rattle.run_theory.specs.Generator.{Generator}
use Rattle.run_theory.specs.PlainBench as Bench
use Rattle.run_call_model.proofs.FlatLists.{draws_none, draws_cons}
use Rattle.settings.specs.declared.Distributions.{Distributions}
use Rattle.settings.specs.declared.MessagesPerSecond.{MessagesPerSecond}
use Rattle.draw.specs.Draw.{draw_at}
use Rattle.draw.specs.Config.{time_after}
use Rattle.draw.specs.Fault.{draw_fault, fault_at, fault_from, first_fault}
use Rattle.run_call.specs.ChecksModel.{jump_of, fault_read, check_generator}

module _ (rates : MessagesPerSecond) (all : Distributions) where
  abbrev G : Generator
  G = check_generator rates all

  pub fault_same : (n k : ℕ) (bytes : List ℕ) → fault_read (fault_from rates all n k bytes) ≡ Bench.first_fault (check_generator rates all) k (Bench.cut (check_generator rates all) n bytes)
  unfolding fault_from fault_read
  fault_same zero k bytes = refl
  fault_same (suc n) k bytes =
      by (draw_fault rates all (draw_at bytes))
      ∙ ap (λ (o : Option Bench.Refusal). Bench.or_else (check_generator rates all) (Bench.at_draw (check_generator rates all) k (draw_fault rates all (draw_at bytes))) o) (fault_same n (suc k) (drop 65 bytes))
    where
      by : (f : Option ℕ) → fault_read (fault_at k f (fault_from rates all n (suc k) (drop 65 bytes)))
          ≡ Bench.or_else (check_generator rates all) (Bench.at_draw (check_generator rates all) k f) (fault_read (fault_from rates all n (suc k) (drop 65 bytes)))
      by None = unfold fault_at in refl
      by (Some field) = unfold fault_at fault_read in refl

  module _ (time latest : Float) (draws : List ℕ) where
    abbrev refusal : Option Bench.Refusal
    refusal = Bench.draw_refusal (check_generator rates all) time (Some latest) (Bench.draws_of (check_generator rates all) draws)

    abbrev all_faults : Option Bench.Refusal
    all_faults = Bench.first_fault (check_generator rates all) 0 (Bench.draws_of (check_generator rates all) draws)

    by_jump : (b : Bool) → 65 ≤ length draws → lt (time_after time (draw_at draws)) latest ≡ b → refusal ≡ cond b (Some (Bench.wrong_draw 0 0)) all_faults
    unfolding time_after
    by_jump b h e =
        ap (Bench.draw_refusal G time (Some latest)) (draws_cons G draws (lit< tt) h)
        ∙ ap (λ (x : Bool). cond x (Some (Bench.wrong_draw 0 0)) (Bench.first_fault G 0 (G.draw_at draws ∷ Bench.draws_of G (drop 65 draws)))) e
        ∙ ap (λ (l : List G.Draw). cond b (Some (Bench.wrong_draw 0 0)) (Bench.first_fault G 0 l)) (sym (draws_cons G draws (lit< tt) h))

    pub jump_refused : jump_of time latest draws ≡ true → fault_read (Some (0, 0)) ≡ refusal
    unfolding jump_of fault_read
    jump_refused e = go (ltb (length draws) 65) refl e
      where
        go : (x : Bool) → ltb (length draws) 65 ≡ x → cond x false (lt (time_after time (draw_at draws)) latest) ≡ true → Some (Bench.wrong_draw 0 0) ≡ refusal
        go true p q = absurd (false≢true q)
        go false p q = sym (by_jump true (ltb-false (length draws) 65 p) q)

    pub no_jump : jump_of time latest draws ≡ false → fault_read (first_fault rates all draws) ≡ refusal
    unfolding jump_of first_fault
    no_jump e = fault_same (length draws / 65) 0 draws ∙ go (ltb (length draws) 65) refl e
      where
        go : (x : Bool) → ltb (length draws) 65 ≡ x → cond x false (lt (time_after time (draw_at draws)) latest) ≡ false → all_faults ≡ refusal
        go true p q =
            let none-buffers = draws_none G draws (ltb-true (length draws) 65 p) in
            ap (Bench.first_fault G 0) none-buffers ∙ sym (ap (Bench.draw_refusal G time (Some latest)) none-buffers)
        go false p q = sym (by_jump false (ltb-false (length draws) 65 p) q)
