-- What the first fault of draws says, and that nothing else is said (`found`, `only`): no draw has one; or draw j is the first that has one, and f is its first field at fault. Draws are counted from 0.
use Rattle.std.specs.Prelude.{Option, Some, None}
use Prim.Native.Nat.{ℕ, zero, suc, ◌+◌, ◌*◌, ◌/◌, ◌<◌}
use mathlib.Core.Path.{◌≡◌, refl, sym, ap, ◌∙◌}
use mathlib.Core.List.{List}
use native.Mathlib.Nat.{add-zero, add-suc, suc-add}
use native.Mathlib.Omega.{arith}
use lib.ListN.{length, drop}
use lib.Seq.{drop-drop}
use Rattle.settings.specs.declared.Distributions.{Distributions}
use Rattle.settings.specs.declared.MessagesPerSecond.{MessagesPerSecond}
use Rattle.draw.specs.declared.Draw.{Draw}
use Rattle.draw.specs.Draw.{draw_at}
use Rattle.draw.specs.Fault.{draw_fault, fault_at, fault_from, first_fault}

-- draw i of the bytes
abbrev pub draw_numbered : List ℕ → ℕ → Draw
draw_numbered s zero = draw_at s
draw_numbered s (suc i) = draw_numbered (drop 65 s) i

pub numbered_at : (i : ℕ) (s : List ℕ) → draw_numbered s i ≡ draw_at (drop (65 * i) s)
numbered_at zero s = refl
numbered_at (suc i) s =
    let n : 65 + 65 * i ≡ 65 * suc i = omega arith in
    numbered_at i (drop 65 s) ∙ ap draw_at (drop-drop (65 * i) 65 s ∙ ap (λ (k : ℕ). drop k s) n)

module _ (rates : MessagesPerSecond) (all : Distributions) where
  abbrev pub fault_of : List ℕ → ℕ → Option ℕ
  fault_of s i = draw_fault rates all (draw_numbered s i)

  -- what an answer says of n draws, the first of which is counted as k
  abbrev pub Says : ℕ → ℕ → List ℕ → Option (ℕ × ℕ) → Type 0
  Says n k s None = (i : ℕ) → i < n → fault_of s i ≡ None
  Says n k s (Some (j, f)) = (i : ℕ) × (j ≡ k + i) × (i < n) × ((m : ℕ) → m < i → fault_of s m ≡ None) × (fault_of s i ≡ Some f)

  one_more : (n : ℕ) (s : List ℕ) → fault_of s 0 ≡ None → ((i : ℕ) → i < n → fault_of (drop 65 s) i ≡ None) → (i : ℕ) → i < suc n → fault_of s i ≡ None
  one_more n s e F zero h = e
  one_more n s e F (suc i) h = F i (omega arith)

  later : (n k : ℕ) (s : List ℕ) (b : Option (ℕ × ℕ)) → fault_of s 0 ≡ None → Says n (suc k) (drop 65 s) b → Says (suc n) k s b
  later n k s None e F = one_more n s e F
  later n k s (Some (j, f)) e (i, p, h, F, w) = (suc i, p ∙ suc-add k i ∙ sym (add-suc k i), omega arith, one_more i s e F, w)

  pub found_from : (n k : ℕ) (s : List ℕ) → Says n k s (fault_from rates all n k s)
  unfolding fault_from fault_at
  found_from zero k s = λ i h. absurd (omega arith)
  found_from (suc n) k s = go (found_from n (suc k) (drop 65 s)) (fault_of s 0) refl
    where
      go : Says n (suc k) (drop 65 s) (fault_from rates all n (suc k) (drop 65 s)) → (f : Option ℕ) → fault_of s 0 ≡ f → Says (suc n) k s (fault_at k f (fault_from rates all n (suc k) (drop 65 s)))
      go F None e = later n k s (fault_from rates all n (suc k) (drop 65 s)) e F
      go F (Some f) e = (0, sym (add-zero k), omega arith, (λ m h. absurd (omega arith)), e)

  pub only_from : (n k : ℕ) (s : List ℕ) (b : Option (ℕ × ℕ)) → Says n k s b → fault_from rates all n k s ≡ b
  unfolding fault_from fault_at
  only_from zero k s None F = refl
  only_from zero k s (Some (j, f)) (i, p, h, F, w) = absurd (omega arith)
  only_from (suc n) k s None F =
      ap (λ (x : Option ℕ). fault_at k x (fault_from rates all n (suc k) (drop 65 s))) (F 0 (omega arith)) ∙ only_from n (suc k) (drop 65 s) None (λ i h. F (suc i) (omega arith))
  only_from (suc n) k s (Some (j, f)) (zero, p, h, F, w) =
      ap (λ (x : Option ℕ). fault_at k x (fault_from rates all n (suc k) (drop 65 s))) w ∙ ap (λ (x : ℕ). Some (x, f)) (sym (p ∙ add-zero k))
  only_from (suc n) k s (Some (j, f)) (suc i, p, h, F, w) =
      ap (λ (x : Option ℕ). fault_at k x (fault_from rates all n (suc k) (drop 65 s))) (F 0 (omega arith))
      ∙ only_from n (suc k) (drop 65 s) (Some (j, f)) (i, p ∙ add-suc k i ∙ sym (suc-add k i), omega arith, (λ m g. F (suc m) (omega arith)), w)

  -- of all draws in the bytes
  pub found : (s : List ℕ) → Says (length s / 65) 0 s (first_fault rates all s)
  unfolding first_fault
  found s = found_from (length s / 65) 0 s

  pub only : (s : List ℕ) (b : Option (ℕ × ℕ)) → Says (length s / 65) 0 s b → first_fault rates all s ≡ b
  unfolding first_fault
  only s b = only_from (length s / 65) 0 s b
