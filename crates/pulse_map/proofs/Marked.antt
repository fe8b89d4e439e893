-- A map in which the positions of a list are marked one after the other is the map of that list, position by position and whole.
use mathlib.Core.Path.{◌≡◌, refl, sym, ap, subst, ◌∙◌}
use mathlib.Core.Bool.{Bool, true, false, ◌||◌, or-true, or-false}
use mathlib.Core.List.{List, [], ◌∷◌, ◌++◌}
use Prim.Native.Nat.{ℕ, zero, suc, ◌+◌, ◌-◌, ◌<◌}
use native.Mathlib.Nat.{add-zero, zero-add, le_of_suc-le-suc, not-suc-le-zero}
use native.Mathlib.Omega.{arith}
use borrow.Author.Tests.{eqb-true, eqb-false}
use lib.Dec.{eqb}
use lib.ListN.{length, get_or, set, replicate, length-set, length-replicate, get_or-replicate}
use lib.Seq.{get_or-set_same, get_or-set_other, ext_get_or}
use Rattle.pulse_map.specs.Map.{pulse_at, map_from, map_of}

unfoldable pub mark : List ℕ → List Bool → List Bool
mark [] l = l
mark (p ∷ ps) l = mark ps (set l p true)

pub mark_append : (ps qs : List ℕ) (l : List Bool) → mark (ps ++ qs) l ≡ mark qs (mark ps l)
unfolding mark
mark_append [] qs l = refl
mark_append (p ∷ ps) qs l = mark_append ps qs (set l p true)

mark_length : (ps : List ℕ) (l : List Bool) → length (mark ps l) ≡ length l
unfolding mark
mark_length [] l = refl
mark_length (p ∷ ps) l = mark_length ps (set l p true) ∙ length-set l p true

-- the position just marked
hit : (l : List Bool) (p k : ℕ) → k < length l → eqb p k ≡ true → get_or (set l p true) k false ≡ true
hit l p k h e =
    let q : p ≡ k = eqb-true p k e in subst (λ (x : ℕ). get_or (set l x true) k false ≡ true) (sym q) (get_or-set_same l k true false h)

-- and any other
missed : (l : List Bool) (p k : ℕ) → eqb p k ≡ false → get_or (set l p true) k false ≡ get_or l k false
missed l p k e = get_or-set_other l p k true false (λ q. eqb-false p k e (sym q))

one_more : (t a : Bool) (l : List Bool) (p k : ℕ) → k < length l → eqb p k ≡ t
    → (a || get_or (set l p true) k false) ≡ (t || a || get_or l k false)
one_more true a l p k h e = ap (λ (x : Bool). a || x) (hit l p k h e) ∙ or-true a
one_more false a l p k h e = ap (λ (x : Bool). a || x) (missed l p k e)

mark_at : (ps : List ℕ) (l : List Bool) (k : ℕ) → k < length l
    → get_or (mark ps l) k false ≡ (pulse_at ps k || get_or l k false)
unfolding mark pulse_at
mark_at [] l k h = refl
mark_at (p ∷ ps) l k h =
    mark_at ps (set l p true) k (simp length-set h) ∙ one_more (eqb p k) (pulse_at ps k) l p k h refl

pub map_length : (ps : List ℕ) (k n : ℕ) → length (map_from ps k n) ≡ n
unfolding map_from
map_length ps k zero = refl
map_length ps k (suc n) = ap suc (map_length ps (suc k) n)

map_from_at : (ps : List ℕ) (k n j : ℕ) → j < n → get_or (map_from ps k n) j false ≡ pulse_at ps (k + j)
unfolding map_from
map_from_at ps k zero j h = absurd (not-suc-le-zero h)
map_from_at ps k (suc n) zero h = ap (pulse_at ps) (sym (add-zero k))
map_from_at ps k (suc n) (suc j) h =
    map_from_at ps (suc k) n j (le_of_suc-le-suc h) ∙ ap (pulse_at ps) (omega arith)

-- in the map of a list a pulse stands at a position exactly where the list has it
pub position_by_position : (ps : List ℕ) (len k : ℕ) → k < 240 → get_or (map_of ps len).on k false ≡ pulse_at ps k
unfolding map_of
position_by_position ps len k h = map_from_at ps 0 240 k h ∙ ap (pulse_at ps) (zero-add k)

marked_at : (ps : List ℕ) (k : ℕ) → k < 240 → get_or (mark ps (replicate 240 false)) k false ≡ get_or (map_from ps 0 240) k false
marked_at ps k h =
    mark_at ps (replicate 240 false) k (simp length-replicate h)
    ∙ ap (λ (x : Bool). pulse_at ps k || x) (get_or-replicate 240 k false false h)
    ∙ or-false (pulse_at ps k)
    ∙ sym (map_from_at ps 0 240 k h ∙ ap (pulse_at ps) (zero-add k))

pub marked : (ps : List ℕ) → mark ps (replicate 240 false) ≡ map_from ps 0 240
marked ps =
    let e : length (mark ps (replicate 240 false)) ≡ 240 = mark_length ps (replicate 240 false) ∙ length-replicate 240 false in
    ext_get_or false (mark ps (replicate 240 false)) (map_from ps 0 240) (e ∙ sym (map_length ps 0 240))
    (λ k h. marked_at ps k (omega arith))

-- one step of a loop that marks: of n steps left, one and the rest
pub left_suc : (e k : ℕ) → k < e → e - k ≡ suc (e - (k + 1))
left_suc e k h = omega arith
