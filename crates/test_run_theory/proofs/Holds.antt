-- The small generator meets the laws, so demand 3 holds of it.
use Rattle.std.specs.Prelude.{Option, Some, None}
use mathlib.Core.Bool.{Bool, true, false, cond}
use mathlib.Core.List.{[]}
use mathlib.Core.Path.{◌≡◌, refl}
use Prim.Native.Nat.{ℕ, ◌+◌, ◌-◌, ◌≤◌}
use native.Mathlib.Omega.{arith}
use lib.Dec.{leb, ltb}
use borrow.Author.Tests.{ltb-false, le-ltb}
use Rattle.run_theory.specs.Generator.{negative, from}
use Rattle.run_theory.specs.PlainRun.{ends, reply, kind_of}
use Rattle.run_theory.specs.Laws.{Laws}
use Rattle.run_call_model.specs.Machine.{runs}
use Rattle.run_theory.proofs.ListClaim.{Demand3}
use Rattle.run_call_model.proofs.Demand3.{demand3}
use Rattle.test_run_theory.specs.Small.{SmallDraw, fault_of, start_of, small_of}

-- the start of a reply
start_is : (total t d s : ℕ) → kind_of (small_of total) (start_of t d) ≡ reply s → s ≡ t - d
start_is total t d s e = go (leb d t) e
  where
    mid : (b : Bool) → cond b ends (reply (t - d)) ≡ reply s → s ≡ t - d
    mid true p = let z : ◌≡◌ {A = ℕ} 0 1 = cc in omega arith
    mid false p = cc

    go : (b : Bool) → kind_of (small_of total) (cond b (from (t - d)) negative) ≡ reply s → s ≡ t - d
    go true p = mid (leb total (t - d + 3)) p
    go false p = let z : ◌≡◌ {A = ℕ} 0 1 = cc in omega arith

-- a draw in range has a delay of at most 2
delay_le : (d : SmallDraw) → fault_of d ≡ None → d.delay ≤ 2
delay_le d e = go (ltb 50 d.gap) (ltb 2 d.delay) refl e
  where
    go : (x y : Bool) → ltb 2 d.delay ≡ y → cond {A = Option ℕ} x (Some 0) (cond y (Some 1) None) ≡ None → d.delay ≤ 2
    go true y p q = let z : ◌≡◌ {A = ℕ} 0 1 = cc in omega arith
    go false true p q = let z : ◌≡◌ {A = ℕ} 0 1 = cc in omega arith
    go false false p q = ltb-false 2 d.delay p

pub laws : (total : ℕ) → Laws (small_of total)
laws total = record {
  Good = λ t. Unit {0};
  good_first = tt;
  good_after = λ t d g o. tt;
  first_time = λ t g. le-ltb t 0 (omega arith);
  first_alone = λ t g p. omega (arith, ltb-false 0 t p);
  same_time = λ t g. le-ltb t t (omega arith);
  time_trans = λ a b c ga gb gc p q. le-ltb c a (omega (arith, ltb-false b a p, ltb-false c b q));
  time_on = λ t d g o. le-ltb (t + d.gap) t (omega arith);
  held = λ t t' d d' s s' g g' e e' p k k'.
      omega (arith, ltb-false t' t p, start_is total t d.delay s k, start_is total t' d'.delay s' k', delay_le d e, delay_le d' e');
  short = λ t d s g e k. omega arith;
  some_limit = omega arith;
  entry_length = λ t d s n. refl;
}

pub holds : (total : ℕ) → Demand3 (small_of total) (runs (small_of total) [])
holds total = demand3 (small_of total) (laws total) []
