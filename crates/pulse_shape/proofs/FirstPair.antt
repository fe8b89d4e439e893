-- The finder finds the first pair (`finds`): by induction over what is left of the list.
use Rattle.std.specs.Prelude.{Option, Some, None}
use Rattle.std.proofs.Common.{◌≡◌, ℕ, zero, suc, ◌+◌, ◌<◌, Bool, true, false, ◌&&◌, T, List, [], ◌∷◌, get_or, sym, refl, ap, ◌∙◌, subst, add-zero, zero-add, arith}
use lib.Ieee.{Float, nan, lt, le}
use lib.Ieee.Fits.{and_i, and_l, and_r}
use Rattle.pulse_shape.specs.GroupDelay.{crosses, delay_at, choose, delay_from, group_delay}
use Rattle.pulse_shape.specs.FirstPair.{PairAt, FirstPair, Finds, first, nowhere}

module _ (level : Float) where
  -- the same of a list whose first value stands at index j
  abbrev Says : ℕ → List Float → Option Float → Type 0
  Says j l (Some d) = (i : ℕ) × FirstPair level l i × (delay_at level (j + i) (get_or l i nan) (get_or l (suc i) nan) ≡ d)
  Says j l None = (i : ℕ) → PairAt level l i → ⊥

  pair : (a b : Float) → crosses level a b ≡ true → T (le a level) × T (lt level b)
  unfolding crosses
  pair a b e = let t : T (le a level && lt level b) = subst T (sym e) tt in (and_l (le a level) (lt level b) t, and_r (le a level) (lt level b) t)

  no_pair : (a b : Float) → crosses level a b ≡ false → T (le a level) → T (lt level b) → ⊥
  unfolding crosses
  no_pair a b e s t = subst T e (and_i (le a level) (lt level b) s t)

  says : (j : ℕ) (l : List Float) → Says j l (delay_from level j l)
  unfolding delay_from
  says j [] = λ i h. absurd (omega (arith, h.0))
  says j (a ∷ []) = λ i h. absurd (omega (arith, h.0))
  says j (a ∷ b ∷ l) = go (crosses level a b) refl (delay_from level (j + 1) (b ∷ l)) (says (j + 1) (b ∷ l))
    where
      later : crosses level a b ≡ false → (i : ℕ) → ((k : ℕ) → k < i → PairAt level (b ∷ l) k → ⊥) → (k : ℕ) → k < suc i → PairAt level (a ∷ b ∷ l) k → ⊥
      later e i f zero h p = no_pair a b e p.1 p.2
      later e i f (suc k) h p = f k (omega arith) (omega (arith, p.0), p.1, p.2)

      go : (t : Bool) → crosses level a b ≡ t → (x : Option Float) → Says (j + 1) (b ∷ l) x → Says j (a ∷ b ∷ l) (choose t (Some (delay_at level j a b)) x)
      go true e x h =
          (0, record { here = (omega arith, (pair a b e).0, (pair a b e).1); none_before = λ k h. absurd (omega arith) }, ap (λ (n : ℕ). delay_at level n a b) (add-zero j))
      go false e (Some d) (i, p, f) = (
        suc i,
        record { here = (omega (arith, p.here.0), p.here.1, p.here.2); none_before = later e i p.none_before },
        ap (λ (n : ℕ). delay_at level n (get_or (b ∷ l) i nan) (get_or (b ∷ l) (suc i) nan)) (next j i) ∙ f,
      )
        where
          next : (j i : ℕ) → j + suc i ≡ j + 1 + i
          next j i = omega arith
      go false e None h = not_here
        where
          not_here : (i : ℕ) → PairAt level (a ∷ b ∷ l) i → ⊥
          not_here zero p = no_pair a b e p.1 p.2
          not_here (suc i) p = h i (omega (arith, p.0), p.1, p.2)

  pub finds : (p : List Float) → Finds level p (group_delay level p)
  unfolding group_delay
  finds p = go (delay_from level 0 p) (says 0 p)
    where
      go : (x : Option Float) → Says 0 p x → Finds level p x
      go (Some d) (i, f, e) = subst (λ (x : Float). Finds level p (Some x)) (ap (λ (n : ℕ). delay_at level n (get_or p i nan) (get_or p (suc i) nan)) (sym (zero-add i)) ∙ e) (first i f)
      go None h = nowhere h
