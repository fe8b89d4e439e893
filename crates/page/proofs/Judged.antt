-- What is known of records whose pages are written (`may_write`), and the buffer by what is answered.
use Rattle.std.specs.Prelude.{Option, Some, None, Result, Ok, Err, is_ok}
use Rattle.refusals.specs.declared.Refusal.{Refusal}
use Rattle.refusals.specs.declared.Refusal.TheVariants.{Length}
use Prim.Native.Nat.{ℕ, ◌+◌, ◌*◌, ◌/◌, ◌%◌, ◌≤◌}
use mathlib.Core.Path.{◌≡◌, refl}
use mathlib.Core.Bool.{Bool, true, false, cond}
use mathlib.Core.List.{List}
use native.Mathlib.Omega.{arith}
use lib.Dec.{eqb, leb}
use lib.ListN.{length}
use borrow.Author.Tests.{leb-true}
use Rattle.record_check.specs.FirstFault.{first_fault}
use Rattle.page.specs.Pages.{page_count, by_fault, pages_answer}

pub pages_within : (n : ℕ) → (n ≤ 60 * page_count n) × (60 * page_count n ≤ n + 59)
unfolding page_count
pages_within n = (omega arith, omega arith)

module _ (records : List ℕ) (room : ℕ) where
  abbrev n : ℕ
  n = length records / 66

  -- what is known by the answer
  abbrev Known : Result ℕ Refusal → Type 0
  Known (Ok pages) = (first_fault records ≡ None) × (4380 * page_count n ≤ room)
  Known (Err q) = Unit {0}

  known : Known (pages_answer records room)
  unfolding pages_answer by_fault
  known = by_length (eqb (length records % 66) 0)
    where
      by_fault_lem : (f : Option ℕ) → first_fault records ≡ f → 4380 * page_count n ≤ room → Known (by_fault f (page_count n))
      by_fault_lem None e h = (e, h)
      by_fault_lem (Some k) e h = tt

      by_room : (b : Bool) → leb (4380 * page_count n) room ≡ b → Known (cond b (by_fault (first_fault records) (page_count n)) (Err Length))
      by_room true e = by_fault_lem (first_fault records) refl (leb-true (4380 * page_count n) room e)
      by_room false e = tt

      by_length : (b : Bool) → Known (cond b (cond (leb (4380 * page_count n) room) (by_fault (first_fault records) (page_count n)) (Err Length)) (Err Length))
      by_length true = by_room (leb (4380 * page_count n) room) refl
      by_length false = tt

  may_by : (a : Result ℕ Refusal) → Known a → is_ok a ≡ true → (first_fault records ≡ None) × (4380 * page_count n ≤ room)
  may_by (Ok pages) k e = k
  may_by (Err q) k e = cc

  pub may_write : is_ok (pages_answer records room) ≡ true → (first_fault records ≡ None) × (4380 * page_count n ≤ room)
  may_write e = may_by (pages_answer records room) known e
