-- What the tests of a section decide, and what a section's answer says.
use Rattle.std.specs.Prelude.{Option, Some, None}
use Prim.Native.Nat.{ℕ, ◌+◌, ◌-◌, ◌*◌, ◌≤◌}
use mathlib.Core.Path.{◌≡◌, refl, sym, ap, ◌∙◌, subst}
use mathlib.Core.Bool.{Bool, true, false, cond, ◌&&◌}
use mathlib.Core.List.{List}
use native.Mathlib.Omega.{arith}
use lib.Dec.{leb}
use lib.ListN.{length}
use borrow.Author.Tests.{le-leb, leb-true}
use Rattle.le_read.specs.LeBytes.{le_at, number_at, read_at, inside}
use Rattle.le_read.proofs.Decided.{no_sum, read_there}
use Rattle.settings.proofs.Inside.{number_there}
use Rattle.tape_sections.specs.Sections.{count_then, section_at}

-- ---- the test of a count
pub between : (n least most size room : ℕ) → least ≤ n → n ≤ most → (leb least n && leb n most && leb (size * n) room) ≡ leb (size * n) room
between n least most size room h g = simp (le-leb least n h, le-leb n most g)

module _ (tape : List ℕ) (at least most size : ℕ) where
  section_counted : (n : ℕ) (b : Bool) → at + 4 ≤ length tape → n ≡ number_at 4 tape at → b ≡ (leb least n && leb n most && leb (size * n) (length tape - (at + 4)))
      → section_at tape at least most size ≡ cond b (Some n) None
  unfolding section_at count_then
  section_counted n b h e t =
      read_there 4 tape at (sym (le-leb (at + 4) (length tape) h)) (count_then tape at least most size) None refl
      ∙ ap (count_then tape at least most size) (sym (e ∙ number_there 4 tape at h))
      ∙ ap (λ (x : Bool). cond (leb least n && leb n most && x) (Some n) None)
      (ap (λ (k : ℕ). leb k (length tape)) {x = at + 4 + size * n} {y = size * n + (at + 4)} (omega arith) ∙ sym (no_sum (size * n) (at + 4) (length tape) h))
      ∙ ap (λ (x : Bool). cond x (Some n) None) (sym t)

  pub section_of : (n : ℕ) {b : Bool} → at + 4 ≤ length tape → n ≡ number_at 4 tape at → b ≡ (leb least n && leb n most && leb (size * n) (length tape - (at + 4))) → b ≡ true
      → Some n ≡ section_at tape at least most size
  section_of n {b} h e t y = sym (section_counted n b h e t ∙ ap (λ (x : Bool). cond x (Some n) None) y)

-- ---- what a section's answer says
InSection : List ℕ → ℕ → ℕ → ℕ → ℕ → (Option ℕ) → Type 0
InSection tape at least most size (Some n) = (least ≤ n) × (n ≤ most) × (at + 4 + size * n ≤ length tape)
InSection tape at least most size None = Unit {0}

count_in : (tape : List ℕ) (at least most size n : ℕ) (a b c : Bool) → leb least n ≡ a → leb n most ≡ b → leb (at + 4 + size * n) (length tape) ≡ c
    → InSection tape at least most size (cond (a && b && c) (Some n) None)
unfolding InSection
count_in tape at least most size n true true true d e f = (leb-true least n d, leb-true n most e, leb-true (at + 4 + size * n) (length tape) f)
count_in tape at least most size n true true false d e f = tt
count_in tape at least most size n true false c d e f = tt
count_in tape at least most size n false b c d e f = tt

section_in : (tape : List ℕ) (at least most size : ℕ) → InSection tape at least most size (section_at tape at least most size)
unfolding section_at count_then read_at InSection
section_in tape at least most size = go (inside 4 tape at)
  where
    go : (b : Bool) → InSection tape at least most size (cond b (count_then tape at least most size (le_at 4 tape at)) None)
    go true = count_in tape at least most size (le_at 4 tape at) (leb least (le_at 4 tape at)) (leb (le_at 4 tape at) most) (leb (at + 4 + size * le_at 4 tape at) (length tape)) refl refl refl
    go false = tt

-- a section's count n is allowed, and its values lie on the tape
pub counted : (tape : List ℕ) (at least most size n : ℕ) {q : (Option ℕ)} → q ≡ section_at tape at least most size → q ≡ Some n → (least ≤ n) × (n ≤ most) × (at + 4 + size * n ≤ length tape)
unfolding InSection
counted tape at least most size n e f = subst (InSection tape at least most size) (sym e ∙ f) (section_in tape at least most size)

-- a count is at most the most
pub at_most : (tape : List ℕ) (at least most size n : ℕ) → section_at tape at least most size ≡ Some n → n ≤ most
at_most tape at least most size n f = (counted tape at least most size n refl f).1
