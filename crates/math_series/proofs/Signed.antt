-- Laws of signed fractions: when two are the same number, order, and how a distance is carried over.
use mathlib.Core.Path.{◌≡◌, refl, sym, ap, ◌∙◌, subst}
use Prim.Native.Nat.{ℕ, ◌+◌, ◌*◌, ◌≤◌, ◌<◌}
use native.Mathlib.Nat.{le_refl, le_trans, le_of_eq, le_antisymm, mul-one, one-mul, zero-mul, mul-zero, zero-add, add-zero, mul_comm, mul_assoc, mul_left_comm, mul-le-mul_right, le_of_mul-le-mul_right, add-mul, mul-add, add_comm, add_assoc, add_left_comm}
use native.Mathlib.Omega.{arith}
use mathlib.Core.Bool.{true}
use lib.Dec.{T, leb, leb→le}
use Rattle.math_series.specs.Fraction.{Fraction, nought, one, opposite, ◌⊕◌, ◌⊗◌, ◌⊑◌, Within}

ruleset ring = (add-mul, mul-add, mul_assoc, mul_comm, mul_left_comm, add_assoc, add_comm, add_left_comm)

ruleset ring0 = (mul-zero, zero-mul, add-zero, zero-add, mul-one, one-mul, add-mul, mul-add, mul_assoc, mul_comm, mul_left_comm, add_assoc, add_comm, add_left_comm)

-- ---- order
pub ⊑_trans : {x y z : Fraction} → x ⊑ y → y ⊑ z → x ⊑ z
⊑_trans {x} {y} {z} h k = record { le = go x.plus x.minus x.den y.plus y.minus y.den z.plus z.minus z.den y.above h.le k.le }
  where
    sums : (A B C D E F : ℕ) → A + B ≤ C + D → C + E ≤ F + B → A + E ≤ F + D
    sums A B C D E F p q = omega arith

    go : (a b c d e f g h i : ℕ) → 0 < f → a * f + e * c ≤ d * c + b * f → d * i + h * f ≤ g * f + e * i → a * i + h * c ≤ g * c + b * i
    go a b c d e f g h i F p q =
        le_of_mul-le-mul_right
        (le_trans (le_of_eq (l a c f h i))
        (le_trans
        (sums (a * f * i) (e * c * i) (d * c * i) (b * f * i) (h * f * c) (g * f * c)
        (le_trans (le_of_eq (sym (add-mul (a * f) (e * c) i))) (le_trans (mul-le-mul_right i p) (le_of_eq (add-mul (d * c) (b * f) i))))
        (le_trans (le_of_eq (m d i h f c)) (le_trans (mul-le-mul_right c q) (le_of_eq (o g f e i c)))))
        (le_of_eq (r b c f g i))))
        F
      where
        l : (a c f h i : ℕ) → (a * i + h * c) * f ≡ a * f * i + h * f * c
        l a c f h i = simp ring

        m : (d i h f c : ℕ) → d * c * i + h * f * c ≡ (d * i + h * f) * c
        m d i h f c = simp ring

        o : (g f e i c : ℕ) → (g * f + e * i) * c ≡ g * f * c + e * c * i
        o g f e i c = simp ring

        r : (b c f g i : ℕ) → g * f * c + b * f * i ≡ (g * c + b * i) * f
        r b c f g i = simp ring

pub ⊑_refl : (x : Fraction) → x ⊑ x
⊑_refl x = record { le = le_refl (x.plus * x.den + x.minus * x.den) }

-- closed fractions are compared by computing
pub computed : (x y : Fraction) → leb (x.plus * y.den + y.minus * x.den) (y.plus * x.den + x.minus * y.den) ≡ true → x ⊑ y
computed x y e = record { le = leb→le (x.plus * y.den + y.minus * x.den) (y.plus * x.den + x.minus * y.den) (subst T (sym e) tt) }

both : (a b c d : ℕ) → a ≤ b → c ≤ d → a + c ≤ b + d
both a b c d h k = omega arith

pub ⊕-mono : {x x' y y' : Fraction} → x ⊑ x' → y ⊑ y' → (x ⊕ y) ⊑ (x' ⊕ y')
⊕-mono {x} {x'} {y} {y'} h k = record {
  le =
      le_trans (le_of_eq (l x.plus x.den y.plus y.den x'.minus x'.den y'.minus y'.den))
      (le_trans (both ((x.plus * x'.den + x'.minus * x.den) * (y.den * y'.den)) ((x'.plus * x.den + x.minus * x'.den) * (y.den * y'.den)) ((y.plus * y'.den + y'.minus * y.den) * (x.den * x'.den)) ((y'.plus * y.den + y.minus * y'.den) * (x.den * x'.den)) (mul-le-mul_right (y.den * y'.den) h.le) (mul-le-mul_right (x.den * x'.den) k.le))
      (le_of_eq (r x'.plus x'.den y'.plus y'.den x.minus x.den y.minus y.den)));
}
  where
    l : (a c e g b' c' f' g' : ℕ) → (a * g + e * c) * (c' * g') + (b' * g' + f' * c') * (c * g) ≡ (a * c' + b' * c) * (g * g') + (e * g' + f' * g) * (c * c')
    l a c e g b' c' f' g' = simp ring

    r : (a c e g b' c' f' g' : ℕ) → (a * c' + b' * c) * (g' * g) + (e * g' + f' * g) * (c' * c) ≡ (a * g + e * c) * (c' * g') + (b' * g' + f' * c') * (c * g)
    r a c e g b' c' f' g' = simp ring

-- ---- x and y are the same number
infix 40 ◌≈◌
pub record ◌≈◌ (x y : Fraction) : Type 0 where
  pub same : x.plus * y.den + y.minus * x.den ≡ y.plus * x.den + x.minus * y.den

pub up_to_lem : {x y : Fraction} → x ≈ y → x ⊑ y
up_to_lem e = record { le = le_of_eq e.same }

pub ≈-refl : (x : Fraction) → x ≈ x
≈-refl x = record { same = refl }

pub ≈-sym : {x y : Fraction} → x ≈ y → y ≈ x
≈-sym e = record { same = sym e.same }

of_both : {x y : Fraction} → x ⊑ y → y ⊑ x → x ≈ y
of_both h k = record { same = le_antisymm h.le k.le }

pub ≈-trans : {x y z : Fraction} → x ≈ y → y ≈ z → x ≈ z
≈-trans e f = of_both (⊑_trans (up_to_lem e) (up_to_lem f)) (⊑_trans (up_to_lem (≈-sym f)) (up_to_lem (≈-sym e)))

pub ⊕-cong : {x x' y y' : Fraction} → x ≈ x' → y ≈ y' → (x ⊕ y) ≈ (x' ⊕ y')
⊕-cong e f = of_both (⊕-mono (up_to_lem e) (up_to_lem f)) (⊕-mono (up_to_lem (≈-sym e)) (up_to_lem (≈-sym f)))

pub opposite_cong : {x y : Fraction} → x ≈ y → opposite x ≈ opposite y
opposite_cong {x} {y} e = record { same = turn (x.plus * y.den) (y.minus * x.den) (y.plus * x.den) (x.minus * y.den) e.same }
  where
    turn : (a b c d : ℕ) → a + b ≡ c + d → d + c ≡ b + a
    turn a b c d e = omega arith

pub ⊗-comm : (x y : Fraction) → (x ⊗ y) ≈ (y ⊗ x)
⊗-comm x y = record { same = go x.plus x.minus x.den y.plus y.minus y.den }
  where
    go : (a b c d e f : ℕ) → (a * d + b * e) * (f * c) + (d * b + e * a) * (c * f) ≡ (d * a + e * b) * (c * f) + (a * e + b * d) * (f * c)
    go a b c d e f = simp ring

⊗-first : {x x' : Fraction} (y : Fraction) → x ≈ x' → (x ⊗ y) ≈ (x' ⊗ y)
⊗-first {x} {x'} y e = record {
  same =
      l x.plus x.minus x.den x'.plus x'.minus x'.den y.plus y.minus y.den
      ∙ ap (λ (t : ℕ). (t * y.plus + (x'.plus * x.den + x.minus * x'.den) * y.minus) * y.den) e.same
      ∙ ap (λ (t : ℕ). ((x'.plus * x.den + x.minus * x'.den) * y.plus + t * y.minus) * y.den) (sym e.same)
      ∙ sym (r x.plus x.minus x.den x'.plus x'.minus x'.den y.plus y.minus y.den);
}
  where
    l : (a b c d e f g h i : ℕ) → (a * g + b * h) * (f * i) + (d * h + e * g) * (c * i) ≡ ((a * f + e * c) * g + (d * c + b * f) * h) * i
    l a b c d e f g h i = simp ring

    r : (a b c d e f g h i : ℕ) → (d * g + e * h) * (c * i) + (a * h + b * g) * (f * i) ≡ ((d * c + b * f) * g + (a * f + e * c) * h) * i
    r a b c d e f g h i = simp ring

pub ⊗-cong : {x x' y y' : Fraction} → x ≈ x' → y ≈ y' → (x ⊗ y) ≈ (x' ⊗ y')
⊗-cong {x} {x'} {y} {y'} e f = ≈-trans (⊗-first y e) (≈-trans (⊗-comm x' y) (≈-trans (⊗-first x' f) (⊗-comm y' x')))

pub ⊗-assoc : (x y z : Fraction) → (x ⊗ y ⊗ z) ≈ (x ⊗ (y ⊗ z))
⊗-assoc x y z = record { same = go x.plus x.minus x.den y.plus y.minus y.den z.plus z.minus z.den }
  where
    go : (a b c d e f g h i : ℕ) → ((a * d + b * e) * g + (a * e + b * d) * h) * (c * (f * i)) + (a * (d * h + e * g) + b * (d * g + e * h)) * (c * f * i)
        ≡ (a * (d * g + e * h) + b * (d * h + e * g)) * (c * f * i) + ((a * d + b * e) * h + (a * e + b * d) * g) * (c * (f * i))
    go a b c d e f g h i = simp ring

pub ⊗-nought : (x : Fraction) → (x ⊗ nought) ≈ nought
⊗-nought x = record { same = go x.plus x.minus x.den }
  where
    go : (a b c : ℕ) → (a * 0 + b * 0) * 1 + 0 * (c * 1) ≡ 0 * (c * 1) + (a * 0 + b * 0) * 1
    go a b c = simp ring0

pub ⊗-opposite : (x y : Fraction) → (x ⊗ opposite y) ≈ opposite (x ⊗ y)
⊗-opposite x y = record { same = go x.plus x.minus x.den y.plus y.minus y.den }
  where
    go : (a b c d e f : ℕ) → (a * e + b * d) * (c * f) + (a * d + b * e) * (c * f) ≡ (a * e + b * d) * (c * f) + (a * d + b * e) * (c * f)
    go a b c d e f = refl

pub ⊗-over-⊕ : (x y z : Fraction) → (x ⊗ (y ⊕ z)) ≈ ((x ⊗ y) ⊕ (x ⊗ z))
⊗-over-⊕ x y z = record { same = go x.plus x.minus x.den y.plus y.minus y.den z.plus z.minus z.den }
  where
    go : (a b c d e f g h i : ℕ) → (a * (d * i + g * f) + b * (e * i + h * f)) * (c * f * (c * i)) + ((a * e + b * d) * (c * i) + (a * h + b * g) * (c * f)) * (c * (f * i))
        ≡ ((a * d + b * e) * (c * i) + (a * g + b * h) * (c * f)) * (c * (f * i)) + (a * (e * i + h * f) + b * (d * i + g * f)) * (c * f * (c * i))
    go a b c d e f g h i = simp ring

-- a - n * w, for an n of nothing, and for a sum
pub first_term_lem : (a w : Fraction) → (a ⊕ opposite (nought ⊗ w)) ≈ (nought ⊕ (a ⊗ one))
first_term_lem a w = record { same = go a.plus a.minus a.den w.plus w.minus w.den }
  where
    go : (a b c d e f : ℕ) → (a * (1 * f) + (0 * e + 0 * d) * c) * (1 * (c * 1)) + (0 * (c * 1) + (a * 0 + b * 1) * 1) * (c * (1 * f)) ≡ (0 * (c * 1) + (a * 1 + b * 0) * 1) * (c * (1 * f)) + (b * (1 * f) + (0 * d + 0 * e) * c) * (1 * (c * 1))
    go a b c d e f = simp ring0

pub next_term : (a n t w : Fraction) → (a ⊕ opposite ((n ⊕ t) ⊗ w)) ≈ ((a ⊕ opposite (n ⊗ w)) ⊕ opposite (t ⊗ w))
next_term a n t w = ≈-trans (⊕-cong (≈-refl a) (opposite_cong (≈-trans (⊗-comm (n ⊕ t) w) (≈-trans (⊗-over-⊕ w n t) (⊕-cong (⊗-comm w n) (⊗-comm w t)))))) (regroup a (n ⊗ w) (t ⊗ w))
  where
    regroup : (a x y : Fraction) → (a ⊕ opposite (x ⊕ y)) ≈ ((a ⊕ opposite x) ⊕ opposite y)
    regroup a x y = record { same = go a.plus a.minus a.den x.plus x.minus x.den y.plus y.minus y.den }
      where
        go : (a b c d e f g h i : ℕ) → (a * (f * i) + (e * i + h * f) * c) * (c * f * i) + ((b * f + d * c) * i + g * (c * f)) * (c * (f * i)) ≡ ((a * f + e * c) * i + h * (c * f)) * (c * (f * i)) + (b * (f * i) + (d * i + g * f) * c) * (c * f * i)
        go a b c d e f g h i = simp ring

-- ---- a distance
pub within_same : {d x x' y y' : Fraction} → x ≈ x' → y ≈ y' → Within d x y → Within d x' y'
within_same {d} {x} {x'} {y} {y'} e f h = record {
  no_more = ⊑_trans (up_to_lem (≈-sym e)) (⊑_trans h.no_more (⊕-mono (up_to_lem f) (⊑_refl d)));
  no_less = ⊑_trans (up_to_lem (≈-sym f)) (⊑_trans h.no_less (⊕-mono (up_to_lem e) (⊑_refl d)));
}

pub within_wider : {d e x y : Fraction} → d ⊑ e → Within d x y → Within e x y
within_wider {d} {e} {x} {y} k h = record { no_more = ⊑_trans h.no_more (⊕-mono (⊑_refl y) k); no_less = ⊑_trans h.no_less (⊕-mono (⊑_refl x) k) }

pub within_trans : {d e x y z : Fraction} → Within d x y → Within e y z → Within (d ⊕ e) x z
within_trans {d} {e} {x} {y} {z} h k = record {
  no_more = ⊑_trans h.no_more (⊑_trans (⊕-mono k.no_more (⊑_refl d)) (up_to_lem (turned z e d)));
  no_less = ⊑_trans k.no_less (⊑_trans (⊕-mono h.no_less (⊑_refl e)) (up_to_lem (grouped x d e)));
}
  where
    grouped : (x d e : Fraction) → (x ⊕ d ⊕ e) ≈ (x ⊕ (d ⊕ e))
    grouped x d e = record { same = go x.plus x.minus x.den d.plus d.minus d.den e.plus e.minus e.den }
      where
        go : (a b c d e f g h i : ℕ) → ((a * f + d * c) * i + g * (c * f)) * (c * (f * i)) + (b * (f * i) + (e * i + h * f) * c) * (c * f * i) ≡ (a * (f * i) + (d * i + g * f) * c) * (c * f * i) + ((b * f + e * c) * i + h * (c * f)) * (c * (f * i))
        go a b c d e f g h i = simp ring

    turned : (x d e : Fraction) → (x ⊕ d ⊕ e) ≈ (x ⊕ (e ⊕ d))
    turned x d e = record { same = go x.plus x.minus x.den d.plus d.minus d.den e.plus e.minus e.den }
      where
        go : (a b c d e f g h i : ℕ) → ((a * f + d * c) * i + g * (c * f)) * (c * (i * f)) + (b * (i * f) + (h * f + e * i) * c) * (c * f * i) ≡ (a * (i * f) + (g * f + d * i) * c) * (c * f * i) + ((b * f + e * c) * i + h * (c * f)) * (c * (i * f))
        go a b c d e f g h i = simp ring

-- the signs of both changed
pub within_opposite : {d x y : Fraction} → Within d x y → Within d (opposite x) (opposite y)
within_opposite {d} {x} {y} h = record { no_more = changed y x d h.no_less; no_less = changed x y d h.no_more }
  where
    changed : (x y d : Fraction) → x ⊑ y ⊕ d → opposite y ⊑ opposite x ⊕ d
    changed x y d h = record { le = go x.plus x.minus x.den y.plus y.minus y.den d.plus d.minus d.den h.le }
      where
        go : (a b c d e f g h i : ℕ) → a * (f * i) + (e * i + h * f) * c ≤ (d * i + g * f) * c + b * (f * i) → e * (c * i) + (a * i + h * c) * f ≤ (b * i + g * c) * f + d * (c * i)
        go a b c d e f g h i k = le_trans (le_of_eq (l a c e f h i)) (le_trans k (le_of_eq (r b c d f g i)))
          where
            l : (a c e f h i : ℕ) → e * (c * i) + (a * i + h * c) * f ≡ a * (f * i) + (e * i + h * f) * c
            l a c e f h i = simp ring

            r : (b c d f g i : ℕ) → (d * i + g * f) * c + b * (f * i) ≡ (b * i + g * c) * f + d * (c * i)
            r b c d f g i = simp ring
