-- The search for the place of a change: one step of the code's loop, its end, and what it finds (`finds`, `found-only`).
use Rattle.std.specs.Prelude.{Option, Some, None}
use Prim.Native.Nat.{ℕ, zero, suc, ◌+◌, ◌-◌, ◌<◌, ◌≤◌}
use mathlib.Core.Path.{◌≡◌, refl, sym, ap, ◌∙◌, subst}
use mathlib.Core.Bool.{Bool, true, false, cond}
use native.Mathlib.Numerals.{add-one}
use native.Mathlib.Omega.{arith}
use borrow.Author.Tests.{eqb-true, eqb-false, eq-eqb, ne_eqb}
use lib.Dec.{eqb}
use Rattle.mode_s.specs.Change.{change_at, place_from, place_of}
use Rattle.mode_s.proofs.Table.{changes_differ}

-- ---- the loop

one_more : (place change : ℕ) → place < 112 → place_from (112 - place) place change ≡ place_from (suc (111 - place)) place change
one_more place change h =
    let e : 112 - place ≡ suc (111 - place) = omega arith in
    ap (λ (n : ℕ). place_from n place change) e

pub stops : (place change : ℕ) → place < 112 → change_at place ≡ change → place_from (112 - place) place change ≡ Some place
unfolding place_from
stops place change h e = one_more place change h ∙ rw (eq-eqb (change_at place) change e)

pub goes_on : (place change : ℕ) → place < 112 → (change_at place ≡ change → ⊥) → place_from (112 - place) place change ≡ place_from (112 - (place + 1)) (place + 1) change
unfolding place_from
goes_on place change h e =
    let n : 111 - place ≡ 112 - (place + 1) = omega arith in
    one_more place change h
    ∙ ap (λ (b : Bool). cond b (Some place) (place_from (111 - place) (suc place) change)) (ne_eqb (change_at place) change e)
    ∙ ap (λ (m : ℕ). place_from m (suc place) change) n
    ∙ ap (λ (m : ℕ). place_from (112 - (place + 1)) m change) (sym (add-one place))

pub ends : (place change : ℕ) → 112 ≤ place → place_from (112 - place) place change ≡ None
unfolding place_from
ends place change h =
    let e : 112 - place ≡ 0 = omega arith in
    ap (λ (n : ℕ). place_from n place change) e

-- ---- what it finds

from : (n k place : ℕ) → k ≤ place → place < k + n → k + n ≤ 112 → place_from n k (change_at place) ≡ Some place
unfolding place_from
from zero k place h l m = absurd (omega arith)
from (suc n) k place h l m = go (eqb (change_at k) (change_at place)) refl (λ g. from n (suc k) place g (omega arith) (omega arith))
  where
    go : (b : Bool) → eqb (change_at k) (change_at place) ≡ b → (suc k ≤ place → place_from n (suc k) (change_at place) ≡ Some place)
        → cond b (Some k) (place_from n (suc k) (change_at place)) ≡ Some place
    go true e later = ap Some (changes_differ k place (omega arith) (omega arith) (eqb-true (change_at k) (change_at place) e))
    go false e later =
        let apart : k ≡ place → ⊥ = λ (p : k ≡ place). eqb-false (change_at k) (change_at place) e (ap change_at p) in
        later (omega (arith, apart))

pub finds : (place : ℕ) → place < 112 → place_of (change_at place) ≡ Some place
unfolding place_of
finds place h = from 112 0 place (omega arith) (omega arith) (omega arith)

-- what a search answers: nothing, or a place with its change
abbrev Says : ℕ → ℕ → Option ℕ → Type 0
Says end change None = 0 < 1
Says end change (Some place) = (place < end) × (change_at place ≡ change)

says : (n k change : ℕ) → Says (k + n) change (place_from n k change)
unfolding place_from
says zero k change = omega arith
says (suc n) k change = go (eqb (change_at k) change) refl (says n (suc k) change)
  where
    later : (o : Option ℕ) → Says (suc k + n) change o → Says (k + suc n) change o
    later None s = s
    later (Some place) s = (omega (arith, s.0), s.1)

    go : (b : Bool) → eqb (change_at k) change ≡ b → Says (suc k + n) change (place_from n (suc k) change)
        → Says (k + suc n) change (cond b (Some k) (place_from n (suc k) change))
    go true e rest = (omega arith, eqb-true (change_at k) change e)
    go false e rest = later (place_from n (suc k) change) rest

pub found_only : (change place : ℕ) → place_of change ≡ Some place → (place < 112) × (change_at place ≡ change)
unfolding place_of
found_only change place e = subst (Says 112 change) e (says 112 0 change)
