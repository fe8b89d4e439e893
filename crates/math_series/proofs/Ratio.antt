-- Fractions that are not negative, their order, and how a distance goes through a sum, a difference and a product. A difference below 0 is 0 here.
use mathlib.Core.Path.{◌≡◌, sym, ap, ◌∙◌}
use Prim.Native.Nat.{ℕ, ◌+◌, ◌-◌, ◌*◌, ◌≤◌, ◌<◌}
use native.Mathlib.Nat.{le_refl, le_trans, le_of_eq, one-mul, mul_comm, mul_assoc, mul_left_comm, mul-le-mul_right, mul-le-mul, mul-mul-mul_comm, mul-pos, mul-sub, add-mul, mul-add, add_comm, add_assoc, add_left_comm}
use native.Mathlib.Omega.{arith}
use lib.Ieee.Positive.{through}

pub record Ratio : Type 0 where
  pub num : ℕ
  pub den : ℕ
  pub pos : 0 < den

infix 40 ◌≤r◌
pub record ◌≤r◌ (x y : Ratio) : Type 0 where
  pub le : x.num * y.den ≤ y.num * x.den

infixl 60 ◌+r◌
abbrev pub ◌+r◌ : Ratio → Ratio → Ratio
x +r y = record { num = x.num * y.den + y.num * x.den; den = x.den * y.den; pos = mul-pos x.pos y.pos }

infixl 60 ◌-r◌
abbrev pub ◌-r◌ : Ratio → Ratio → Ratio
x -r y = record { num = x.num * y.den - y.num * x.den; den = x.den * y.den; pos = mul-pos x.pos y.pos }

infixl 70 ◌*r◌
abbrev pub ◌*r◌ : Ratio → Ratio → Ratio
x *r y = record { num = x.num * y.num; den = x.den * y.den; pos = mul-pos x.pos y.pos }

ruleset ring = (add-mul, mul-add, mul_assoc, mul_comm, mul_left_comm, add_assoc, add_comm, add_left_comm)

pub ≤r-refl : (x : Ratio) → x ≤r x
≤r-refl x = record { le = le_refl (x.num * x.den) }

pub ≤r-trans : {x y z : Ratio} → x ≤r y → y ≤r z → x ≤r z
≤r-trans {x} {y} {z} h k = record { le = through x.num y.num z.num x.den y.den z.den y.pos h.le k.le }

both : (a b c d : ℕ) → a ≤ b → c ≤ d → a + c ≤ b + d
both a b c d h k = omega arith

pub +r-mono : {x x' y y' : Ratio} → x ≤r x' → y ≤r y' → (x +r y) ≤r (x' +r y')
+r-mono {x} {x'} {y} {y'} h k = record {
  le =
      le_trans (le_of_eq (l x.num x.den y.num y.den x'.den y'.den))
      (le_trans (both (x.num * x'.den * (y.den * y'.den)) (x'.num * x.den * (y.den * y'.den)) (y.num * y'.den * (x.den * x'.den)) (y'.num * y.den * (x.den * x'.den)) (mul-le-mul_right (y.den * y'.den) h.le) (mul-le-mul_right (x.den * x'.den) k.le))
      (le_of_eq (sym (r x'.num x'.den y'.num y'.den x.den y.den))));
}
  where
    l : (a b c d b' d' : ℕ) → (a * d + c * b) * (b' * d') ≡ a * b' * (d * d') + c * d' * (b * b')
    l a b c d b' d' = simp ring

    r : (a b c d b' d' : ℕ) → (a * d + c * b) * (b' * d') ≡ a * b' * (d' * d) + c * d' * (b' * b)
    r a b c d b' d' = simp ring

pub *r-mono : {x x' y y' : Ratio} → x ≤r x' → y ≤r y' → (x *r y) ≤r (x' *r y')
*r-mono {x} {x'} {y} {y'} h k = record { le = le_trans (le_of_eq (mul-mul-mul_comm x.num y.num x'.den y'.den)) (le_trans (mul-le-mul h.le k.le) (le_of_eq (mul-mul-mul_comm x'.num x.den y'.num y.den))) }

-- (x + d) * z ≤ x * z + d * z, and z * (x + d) ≤ z * x + z * d
pub dist : (x d z : Ratio) → ((x +r d) *r z) ≤r ((x *r z) +r (d *r z))
dist x d z = record { le = le_of_eq (e x.num x.den d.num d.den z.num z.den) }
  where
    e : (a b c d m n : ℕ) → (a * d + c * b) * m * (b * n * (d * n)) ≡ (a * m * (d * n) + c * m * (b * n)) * (b * d * n)
    e a b c d m n = simp ring

pub dist_l : (z x d : Ratio) → (z *r (x +r d)) ≤r ((z *r x) +r (z *r d))
dist_l z x d = record { le = le_of_eq (e x.num x.den d.num d.den z.num z.den) }
  where
    e : (a b c d m n : ℕ) → m * (a * d + c * b) * (n * b * (n * d)) ≡ (m * a * (n * d) + m * c * (n * b)) * (n * (b * d))
    e a b c d m n = simp ring

pub assoc_r : (x y z : Ratio) → (x +r y +r z) ≤r (x +r (y +r z))
assoc_r x y z = record { le = le_of_eq (e x.num x.den y.num y.den z.num z.den) }
  where
    e : (a b c d m n : ℕ) → ((a * d + c * b) * n + m * (b * d)) * (b * (d * n)) ≡ (a * (d * n) + (c * n + m * d) * b) * (b * d * n)
    e a b c d m n = simp ring

pub swap : (x y : Ratio) → (x +r y) ≤r (y +r x)
swap x y = record { le = le_of_eq (e x.num x.den y.num y.den) }
  where
    e : (a b c d : ℕ) → (a * d + c * b) * (d * b) ≡ (c * b + a * d) * (b * d)
    e a b c d = simp ring

-- a difference: x ≤ y + z gives x - y ≤ z, and x ≤ (x - y) + y
pub minus_le : (x y z : Ratio) → x ≤r (y +r z) → (x -r y) ≤r z
minus_le x y z h = record { le = le_trans (le_of_eq (l x.num x.den y.num y.den z.den)) (le_trans (move (x.num * (y.den * z.den)) (y.num * (z.den * x.den)) (z.num * (y.den * x.den)) (le_trans h.le (le_of_eq (r x.den y.num y.den z.num z.den)))) (le_of_eq (t x.den y.den z.num))) }
  where
    move : (a b c : ℕ) → a ≤ b + c → a - b ≤ c
    move a b c h = omega arith

    l : (a b c d n : ℕ) → (a * d - c * b) * n ≡ a * (d * n) - c * (n * b)
    l a b c d n = mul_comm (a * d - c * b) n ∙ mul-sub n (a * d) (c * b) ∙ ap (λ (v : ℕ). v - n * (c * b)) (simp (mul_comm, mul_left_comm)) ∙ ap (λ (v : ℕ). a * (d * n) - v) (simp (mul_comm, mul_left_comm))

    r : (b c d m n : ℕ) → (c * n + m * d) * b ≡ c * (n * b) + m * (d * b)
    r b c d m n = simp ring

    t : (b d m : ℕ) → m * (d * b) ≡ m * (b * d)
    t b d m = ap (λ (v : ℕ). m * v) (mul_comm d b)

-- b ≤ y + (b - y)
pub minus_plus : (b y : Ratio) → b ≤r (y +r (b -r y))
minus_plus b y = record {
  le =
      le_trans (le_of_eq (l b.num b.den y.den))
      (le_trans (mul-le-mul_right (y.den * b.den) (back (b.num * y.den) (y.num * b.den)))
      (le_of_eq (r b.den y.num y.den (b.num * y.den - y.num * b.den))));
}
  where
    back : (p q : ℕ) → p ≤ q + (p - q)
    back p q = omega arith

    l : (a b d : ℕ) → a * (d * (b * d)) ≡ a * d * (d * b)
    l a b d = simp (mul_assoc, mul_comm, mul_left_comm)

    r : (b c d m : ℕ) → (c * b + m) * (d * b) ≡ (c * (b * d) + m * d) * b
    r b c d m = simp ring

-- ---- x and y differ by d at most
pub record Near (x y d : Ratio) : Type 0 where
  pub above : x ≤r (y +r d)
  pub below : y ≤r (x +r d)

-- x ≤ y + d and y ≤ z + e give x ≤ z + (e + d)
chain : (x y z d e : Ratio) → x ≤r (y +r d) → y ≤r (z +r e) → x ≤r (z +r (e +r d))
chain x y z d e h k = ≤r-trans h (≤r-trans (+r-mono k (≤r-refl d)) (assoc_r z e d))

pub near_trans : {x y z d e : Ratio} → Near x y d → Near y z e → Near x z (e +r d)
near_trans {x} {y} {z} {d} {e} n m = record { above = chain x y z d e n.above m.above; below = ≤r-trans (chain z y x e d m.below n.below) (+r-mono (≤r-refl x) (swap d e)) }

pub near_weaken : {x y d e : Ratio} → d ≤r e → Near x y d → Near x y e
near_weaken {x} {y} h n = record { above = ≤r-trans n.above (+r-mono (≤r-refl y) h); below = ≤r-trans n.below (+r-mono (≤r-refl x) h) }

abbrev pub one : Ratio
one = record { num = 1; den = 1; pos = le_refl 1 }

one_times : (x : Ratio) → (one *r x) ≤r x
one_times x = record { le = le_of_eq (ap (λ (v : ℕ). v * x.den) (one-mul x.num) ∙ ap (λ (v : ℕ). x.num * v) (sym (one-mul x.den))) }

-- x * z against y * w, where z is B at most and y is 1 at most
times_above : (x y z w d e B : Ratio) → x ≤r (y +r d) → z ≤r (w +r e) → z ≤r B → y ≤r one → (x *r z) ≤r ((y *r w) +r (e +r (d *r B)))
times_above x y z w d e B h k b u =
    ≤r-trans (*r-mono h (≤r-refl z))
    (≤r-trans (dist y d z)
    (chain ((y *r z) +r (d *r z)) (y *r z) (y *r w) (d *r B) e (+r-mono (≤r-refl (y *r z)) (*r-mono (≤r-refl d) b))
    (≤r-trans (*r-mono (≤r-refl y) k) (≤r-trans (dist_l y w e) (+r-mono (≤r-refl (y *r w)) (≤r-trans (*r-mono u (≤r-refl e)) (one_times e)))))))

times_below : (x y z w d e B : Ratio) → y ≤r (x +r d) → w ≤r (z +r e) → z ≤r B → y ≤r one → (y *r w) ≤r ((x *r z) +r (e +r (d *r B)))
times_below x y z w d e B h k b u =
    ≤r-trans
    (chain (y *r w) (y *r z) (x *r z) e (d *r B)
    (≤r-trans (*r-mono (≤r-refl y) k) (≤r-trans (dist_l y z e) (+r-mono (≤r-refl (y *r z)) (≤r-trans (*r-mono u (≤r-refl e)) (one_times e)))))
    (≤r-trans (*r-mono h (≤r-refl z)) (≤r-trans (dist x d z) (+r-mono (≤r-refl (x *r z)) (*r-mono (≤r-refl d) b)))))
    (+r-mono (≤r-refl (x *r z)) (swap (d *r B) e))

pub near_times : {x y z w d e B : Ratio} → Near x y d → Near z w e → z ≤r B → y ≤r one → Near (x *r z) (y *r w) (e +r (d *r B))
near_times {x} {y} {z} {w} {d} {e} {B} n m b u = record { above = times_above x y z w d e B n.above m.above b u; below = times_below x y z w d e B n.below m.below b u }

-- a - x against b - y
minus_above : (x y a b d e : Ratio) → y ≤r (x +r d) → a ≤r (b +r e) → (a -r x) ≤r ((b -r y) +r (e +r d))
minus_above x y a b d e h k = minus_le a x ((b -r y) +r (e +r d)) (≤r-trans k (≤r-trans (+r-mono (≤r-trans (minus_plus b y) (+r-mono h (≤r-refl (b -r y)))) (≤r-refl e)) (shuffle x d (b -r y) e)))
  where
    shuffle : (x d m e : Ratio) → (x +r d +r m +r e) ≤r (x +r (m +r (e +r d)))
    shuffle x d m e = record { le = le_of_eq (f x.num x.den d.num d.den m.num m.den e.num e.den) }
      where
        f : (a b c d m n p q : ℕ) → (((a * d + c * b) * n + m * (b * d)) * q + p * (b * d * n)) * (b * (n * (q * d))) ≡ (a * (n * (q * d)) + (m * (q * d) + (p * d + c * q) * n) * b) * (b * d * n * q)
        f a b c d m n p q = simp ring

pub near_minus : {x y a b d e : Ratio} → Near x y d → Near a b e → Near (a -r x) (b -r y) (e +r d)
near_minus {x} {y} {a} {b} {d} {e} n m = record { above = minus_above x y a b d e n.below m.above; below = minus_above y x b a d e n.above m.below }
