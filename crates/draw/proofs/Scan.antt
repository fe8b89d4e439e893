-- The search for the first draw at fault: one step of the code's loop, and its ends.
use Rattle.std.specs.Prelude.{Option, Some, None}
use Prim.Native.Nat.{ℕ, suc, ◌+◌, ◌-◌, ◌*◌, ◌<◌, ◌≤◌}
use mathlib.Core.Path.{◌≡◌, sym, ap, ◌∙◌}
use mathlib.Core.List.{List}
use native.Mathlib.Numerals.{add-one}
use native.Mathlib.Omega.{arith}
use lib.ListN.{length, take, drop, length-drop}
use lib.Seq.{take_all, drop-drop}
use Rattle.settings.specs.declared.Distributions.{Distributions}
use Rattle.settings.specs.declared.MessagesPerSecond.{MessagesPerSecond}
use Rattle.draw.specs.Draw.{draw_at}
use Rattle.draw.specs.Fault.{draw_fault, fault_at, fault_from}

-- the part of a list from an offset to its end
pub part_is : (s : List ℕ) (at : ℕ) → take (length s - at) (drop at s) ≡ drop at s
part_is s at = take_all (length s - at) (drop at s) (rw length-drop (omega arith))

module _ (rates : MessagesPerSecond) (all : Distributions) (s : List ℕ) (m k : ℕ) where
  -- the first fault of those of m draws that are from the j-th on
  abbrev from : ℕ → Option (ℕ × ℕ)
  from j = fault_from rates all (m - j) j (drop (j * 65) s)

  module _ (h : k < m) where
    turn : (f : Option ℕ) → draw_fault rates all (draw_at (drop (k * 65) s)) ≡ f → from k ≡ fault_at k f (from (k + 1))
    unfolding fault_from
    turn f e =
        ap (λ (n : ℕ). fault_from rates all n k (drop (k * 65) s)) one_more
        ∙ (λ i. fault_at k (e i) (fault_from rates all (m - (k + 1)) (sym (add-one k) i) (next i)))
      where
        one_more : m - k ≡ suc (m - (k + 1))
        one_more = omega arith

        length_is : k * 65 + 65 ≡ (k + 1) * 65
        length_is = omega arith

        next : drop 65 (drop (k * 65) s) ≡ drop ((k + 1) * 65) s
        next = drop-drop 65 (k * 65) s ∙ ap (λ (n : ℕ). drop n s) length_is

    pub goes_on : draw_fault rates all (draw_at (drop (k * 65) s)) ≡ None → from k ≡ from (k + 1)
    unfolding fault_at
    goes_on e = turn None e

    pub stops : (f : ℕ) → draw_fault rates all (draw_at (drop (k * 65) s)) ≡ Some f → from k ≡ Some (k, f)
    unfolding fault_at
    stops f e = turn (Some f) e

  pub ends : m ≤ k → from k ≡ None
  unfolding fault_from
  ends h =
      let n : m - k ≡ 0 = omega arith in
      ap (λ (m : ℕ). fault_from rates all m k (drop (k * 65) s)) n
