-- The changes as a table: its rule, that its entries all differ, and that none is 0, each by one computed test.
use Prim.Native.Nat.{ℕ, zero, suc, ◌<◌}
use mathlib.Core.Path.{◌≡◌, refl, sym, ap, ◌∙◌, subst}
use mathlib.Core.Bool.{Bool, true, not, ◌&&◌}
use mathlib.Core.List.{List, [], ◌∷◌}
use native.Mathlib.Omega.{arith}
use borrow.Author.Tests.{lt-ltb, eq-eqb}
use lib.Dec.{T, eqb, eqb→eq}
use lib.Ieee.Fits.{and_l, and_r}
use lib.ListN.{length, get_or}
use Rattle.mode_s.specs.Parity.{reduced, brought}
use Rattle.mode_s.proofs.Below.{every, below}
use Rattle.mode_s.specs.Change.{power_remainder, change_at}

unfoldable pub changes : List ℕ
changes =
    0xfff409 ∷ 0x001c1b ∷ 0x003836 ∷ 0x00706c ∷ 0x00e0d8 ∷ 0x01c1b0 ∷ 0x038360 ∷ 0x0706c0 ∷
    0x0e0d80 ∷ 0x1c1b00 ∷ 0x383600 ∷ 0x706c00 ∷ 0xe0d800 ∷ 0x3e4409 ∷ 0x7c8812 ∷ 0xf91024 ∷
    0x0dd441 ∷ 0x1ba882 ∷ 0x375104 ∷ 0x6ea208 ∷ 0xdd4410 ∷ 0x457c29 ∷ 0x8af852 ∷ 0xea04ad ∷
    0x2bfd53 ∷ 0x57faa6 ∷ 0xaff54c ∷ 0xa01e91 ∷ 0xbfc92b ∷ 0x80665f ∷ 0xff38b7 ∷ 0x018567 ∷
    0x030ace ∷ 0x06159c ∷ 0x0c2b38 ∷ 0x185670 ∷ 0x30ace0 ∷ 0x6159c0 ∷ 0xc2b380 ∷ 0x7a9309 ∷
    0xf52612 ∷ 0x15b82d ∷ 0x2b705a ∷ 0x56e0b4 ∷ 0xadc168 ∷ 0xa476d9 ∷ 0xb719bb ∷ 0x91c77f ∷
    0xdc7af7 ∷ 0x4701e7 ∷ 0x8e03ce ∷ 0xe3f395 ∷ 0x381323 ∷ 0x702646 ∷ 0xe04c8c ∷ 0x3f6d11 ∷
    0x7eda22 ∷ 0xfdb444 ∷ 0x049c81 ∷ 0x093902 ∷ 0x127204 ∷ 0x24e408 ∷ 0x49c810 ∷ 0x939020 ∷
    0xd8d449 ∷ 0x4e5c9b ∷ 0x9cb936 ∷ 0xc68665 ∷ 0x72f8c3 ∷ 0xe5f186 ∷ 0x341705 ∷ 0x682e0a ∷
    0xd05c14 ∷ 0x5f4c21 ∷ 0xbe9842 ∷ 0x82c48d ∷ 0xfa7d13 ∷ 0x0b0e2f ∷ 0x161c5e ∷ 0x2c38bc ∷
    0x587178 ∷ 0xb0e2f0 ∷ 0x9e31e9 ∷ 0xc397db ∷ 0x78dbbf ∷ 0xf1b77e ∷ 0x1c9af5 ∷ 0x3935ea ∷
    0x726bd4 ∷ 0xe4d7a8 ∷ 0x365b59 ∷ 0x6cb6b2 ∷ 0xd96d64 ∷ 0x4d2ec1 ∷ 0x9a5d82 ∷ 0xcb4f0d ∷
    0x696a13 ∷ 0xd2d426 ∷ 0x5a5c45 ∷ 0xb4b88a ∷ 0x96851d ∷ 0xd2fe33 ∷ 0x5a086f ∷ 0xb410de ∷
    0x97d5b5 ∷ 0xd05f63 ∷ 0x5f4acf ∷ 0xbe959e ∷ 0x82df35 ∷ 0xfa4a63 ∷ 0x0b60cf ∷ 0x16c19e ∷ []

-- ---- the rule

right : ℕ → Bool
right k = eqb (get_or changes k 0) (power_remainder k)

passes : T (every right 112)
unfolding right changes power_remainder brought reduced
passes = tt

-- each entry is the change of its place
pub changes_at : (k : ℕ) → k < 112 → get_or changes k 0 ≡ change_at k
unfolding right change_at
changes_at k h = eqb→eq (get_or changes k 0) (power_remainder k) (below right 112 passes k h) ∙ sym (rw (lt-ltb k 112 h))

-- ---- all differ

absent : ℕ → List ℕ → Bool
absent x [] = true
absent x (y ∷ ys) = ((not (eqb x y)) && (absent x ys))

distinct : List ℕ → Bool
distinct [] = true
distinct (x ∷ xs) = ((absent x xs) && (distinct xs))

unlike : (x y : ℕ) → T (not (eqb x y)) → x ≡ y → ⊥
unlike x y t e = subst (λ (b : Bool). T (not b)) (eq-eqb x y e) t

not_there : (x : ℕ) (ys : List ℕ) → T (absent x ys) → (i : ℕ) → i < length ys → x ≡ get_or ys i 0 → ⊥
unfolding absent
not_there x [] t i h e = omega arith
not_there x (y ∷ ys) t zero h e = unlike x y (and_l (not (eqb x y)) (absent x ys) t) e
not_there x (y ∷ ys) t (suc i) h e = not_there x ys (and_r (not (eqb x y)) (absent x ys) t) i (omega arith) e

places_differ : (l : List ℕ) → T (distinct l) → (a b : ℕ) → a < length l → b < length l → get_or l a 0 ≡ get_or l b 0 → a ≡ b
unfolding distinct
places_differ [] t a b ha hb e = absurd (omega arith)
places_differ (x ∷ xs) t zero zero ha hb e = refl
places_differ (x ∷ xs) t zero (suc b) ha hb e = absurd (not_there x xs (and_l (absent x xs) (distinct xs) t) b (omega arith) e)
places_differ (x ∷ xs) t (suc a) zero ha hb e = absurd (not_there x xs (and_l (absent x xs) (distinct xs) t) a (omega arith) (sym e))
places_differ (x ∷ xs) t (suc a) (suc b) ha hb e = ap suc (places_differ xs (and_r (absent x xs) (distinct xs) t) a b (omega arith) (omega arith) e)

all_distinct : T (distinct changes)
unfolding distinct absent changes
all_distinct = tt

changes_length : length changes ≡ 112
unfolding changes
changes_length = refl

within : (k : ℕ) → k < 112 → k < length changes
within k h = subst (λ (n : ℕ). k < n) (sym changes_length) h

pub changes_differ : (a b : ℕ) → a < 112 → b < 112 → change_at a ≡ change_at b → a ≡ b
changes_differ a b ha hb e = places_differ changes all_distinct a b (within a ha) (within b hb) (changes_at a ha ∙ e ∙ sym (changes_at b hb))

-- ---- none is 0

no_zero : T (absent 0 changes)
unfolding absent changes
no_zero = tt

pub changes_seen : (k : ℕ) → k < 112 → change_at k ≡ 0 → ⊥
changes_seen k h e = not_there 0 changes no_zero k (within k h) (sym e ∙ sym (changes_at k h))
