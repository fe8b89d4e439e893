-- The table of overlays and the reading of a message, case by case.
use Rattle.std.specs.Prelude.{Option, Some, None}
use mathlib.Core.Path.{◌≡◌, refl, sym, ap, ◌∙◌}
use mathlib.Core.Bool.{Bool, true, false, cond}
use mathlib.Core.List.{List}
use Prim.Native.Nat.{ℕ, ◌-◌, ◌/◌, ◌≤◌, ◌<◌}
use borrow.Author.Tests.{le-leb, lt-leb, eq-eqb, ne_eqb}
use lib.Dec.{eqb}
use lib.ListN.{length, get_or}
use Rattle.message.specs.declared.Interrogator.{Interrogator}
use Rattle.message.specs.declared.Interrogator.TheVariants.{Ii, Si, Unassigned}
use Rattle.message.specs.Interrogators.{within, code_of, overlay_of, interrogator_of}

-- ---- a stretch of overlays

pub inside : (first last o : ℕ) → first ≤ o → o ≤ last → within first last o ≡ true
unfolding within
inside first last o a b = rw (le-leb first o a) (le-leb o last b)

pub before : (first last o : ℕ) → o < first → within first last o ≡ false
unfolding within
before first last o a = rw (lt-leb first o a)

pub behind : (first last o : ℕ) → first ≤ o → last < o → within first last o ≡ false
unfolding within
behind first last o a b = rw (le-leb first o a) (lt-leb o last b)

-- ---- the table's three answers

pub ii_code : (o code : ℕ) (r : Interrogator) → within 0 15 o ≡ true → code ≡ o → r ≡ Ii code → r ≡ code_of o
unfolding code_of
ii_code o code r t e q = rw t (q ∙ ap Ii e)

pub si_code : (o code : ℕ) (r : Interrogator) → within 0 15 o ≡ false → within 17 79 o ≡ true → code ≡ o - 16 → r ≡ Si code → r ≡ code_of o
unfolding code_of
si_code o code r f t e q = rw (f, t) (q ∙ ap Si e)

pub no_code : (o : ℕ) → within 0 15 o ≡ false → within 17 79 o ≡ false → Unassigned ≡ code_of o
unfolding code_of
no_code o f g = rw (f, g)

-- ---- the reading

pub reading : (m : List ℕ) (r : Interrogator) → length m ≡ 7 → get_or m 0 0 / 8 ≡ 11 → r ≡ code_of (overlay_of m) → Some r ≡ interrogator_of m
unfolding interrogator_of
reading m r h f e = rw (eq-eqb (length m) 7 h, eq-eqb (get_or m 0 0 / 8) 11 f) (ap Some e)

same : (t : Bool) (x y : Option Interrogator) → x ≡ y → cond t x y ≡ y
same true x y e = e
same false x y e = refl

pub another_format : (m : List ℕ) → (get_or m 0 0 / 8 ≡ 11 → ⊥) → None ≡ interrogator_of m
unfolding interrogator_of
another_format m n =
    sym (same (eqb (length m) 7) (cond (eqb (get_or m 0 0 / 8) 11) (Some (code_of (overlay_of m))) None) None (rw (ne_eqb (get_or m 0 0 / 8) 11 n)))

pub another_length : (m : List ℕ) → (length m ≡ 7 → ⊥) → None ≡ interrogator_of m
unfolding interrogator_of
another_length m n = rw (ne_eqb (length m) 7 n)
