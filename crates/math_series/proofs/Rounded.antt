-- One rounding, and one step of a Horner sum whose coefficients alternate in sign, in units of 2 ^ -1074: how far each goes.
use mathlib.Core.Path.{◌≡◌, sym, ap, ◌∙◌}
use Prim.Native.Nat.{ℕ, ◌+◌, ◌-◌, ◌*◌, ◌^◌, ◌≤◌, ◌<◌}
use native.Mathlib.Nat.{le_trans, le_of_eq, lt_of_le_of_lt, mul_comm, mul_assoc, mul_left_comm, mul-le-mul_right, mul-le-mul, mul-lt-mul_of_pos_right, mul-pos, mul-sub, sub-le, add-mul}
use lib.Dec.{lit<}
use lib.Pow.{pow_pos}
use Rattle.float_rounding.proofs.Units.{G}
use Rattle.float_rounding.proofs.More.{G-error}
use Rattle.math_series.proofs.Ratio.{Ratio, ◌≤r◌, ◌+r◌, ◌-r◌, ◌*r◌, ≤r-refl, ≤r-trans, +r-mono, Near, near_trans, near_times, near_minus, one}

abbrev pub ratio : (a c : ℕ) → 0 < c → Ratio
ratio a c C = record { num = a; den = c; pos = C }

-- n units
abbrev pub in_units : ℕ → Ratio
in_units n = ratio n (2 ^ 1074) (pow_pos 1074)

-- half of 2 ^ t units
abbrev pub half : ℕ → Ratio
half t = ratio (2 ^ t) (2 * 2 ^ 1074) (pow_pos 1075)

-- ---- a rounding
pub round_above : (u g a c p : ℕ) → g * c * 2 ≤ a * u * 2 + c * p → g * (c * (2 * u)) ≤ (a * (2 * u) + p * c) * u
round_above u g a c p h = le_trans (le_of_eq (l u g c)) (le_trans (mul-le-mul_right u h) (le_of_eq (r u a c p)))
  where
    l : (u g c : ℕ) → g * (c * (2 * u)) ≡ g * c * 2 * u
    l u g c = simp (mul_assoc, mul_comm, mul_left_comm)

    r : (u a c p : ℕ) → (a * u * 2 + c * p) * u ≡ (a * (2 * u) + p * c) * u
    r u a c p = simp (add-mul, mul_assoc, mul_comm, mul_left_comm)

pub round_below : (u g a c p : ℕ) → a * u * 2 ≤ g * c * 2 + c * p → a * (u * (2 * u)) ≤ (g * (2 * u) + p * u) * c
round_below u g a c p h = le_trans (le_of_eq (l u a)) (le_trans (mul-le-mul_right u h) (le_of_eq (r u g c p)))
  where
    l : (u a : ℕ) → a * (u * (2 * u)) ≡ a * u * 2 * u
    l u a = simp (mul_assoc, mul_comm, mul_left_comm)

    r : (u g c p : ℕ) → (g * c * 2 + c * p) * u ≡ (g * (2 * u) + p * u) * c
    r u g c p = simp (add-mul, mul_assoc, mul_comm, mul_left_comm)

pub near_round : (a c t : ℕ) (C : 0 < c) → a * 2 ^ 1074 < 2 ^ (53 + t) * c → Near (in_units (G a c)) (ratio a c C) (half t)
near_round a c t C h =
    let e = G-error a c t C h in
    record { above = record { le = round_above (2 ^ 1074) (G a c) a c (2 ^ t) e.0 }; below = record { le = round_below (2 ^ 1074) (G a c) a c (2 ^ t) e.1 } }

-- the exact difference of two numbers of units
same_minus : (a p : ℕ) → (in_units (a - p) ≤r (in_units a -r in_units p)) × ((in_units a -r in_units p) ≤r in_units (a - p))
same_minus a p = (record { le = le_of_eq (e (2 ^ 1074) a p) }, record { le = le_of_eq (sym (e (2 ^ 1074) a p)) })
  where
    e : (u a p : ℕ) → (a - p) * (u * u) ≡ (a * u - p * u) * u
    e u a p = sym (mul_assoc (a - p) u u) ∙ ap (λ (x : ℕ). x * u) (mul_comm (a - p) u ∙ mul-sub u a p ∙ ap (λ (x : ℕ). x - u * p) (mul_comm u a) ∙ ap (λ (x : ℕ). a * u - x) (mul_comm u p))

pub near_of_both : {x y z d : Ratio} → x ≤r y → y ≤r x → Near y z d → Near x z d
near_of_both {x} {y} {z} {d} h k n = record { above = ≤r-trans h n.above; below = ≤r-trans n.below (+r-mono k (≤r-refl d)) }

-- a product of two that are at most 1
pub product_under : (m z : ℕ) → m ≤ 2 ^ 1074 → z ≤ 2 ^ 1074 → m * z * 2 ^ 1074 < 2 ^ 1075 * (2 ^ 1074 * 2 ^ 1074)
product_under m z M Z = lt_of_le_of_lt (mul-le-mul_right (2 ^ 1074) (mul-le-mul M Z)) (lit< {m = 2 ^ 1074 * 2 ^ 1074 * 2 ^ 1074} {n = 2 ^ 1075 * (2 ^ 1074 * 2 ^ 1074)} tt)

-- ---- the step: m is near e, z near w and a near b, all at most 1; then a - m * z, rounded twice, is near b - e * w
pub step : (m z a : ℕ) (e w b d d1 d2 B : Ratio) → m ≤ 2 ^ 1074 → z ≤ 2 ^ 1074 → a ≤ 2 ^ 1074 → in_units z ≤r B → e ≤r one
    → Near (in_units m) e d → Near (in_units z) w d1 → Near (in_units a) b d2
    → Near (in_units (G (a - G (m * z) (2 ^ 1074 * 2 ^ 1074)) (2 ^ 1074))) (b -r (e *r w)) ((d2 +r ((d1 +r (d *r B)) +r half 1022)) +r half 1022)
step m z a e w b d d1 d2 B M Z A zb e1 nm nz na =
    let p = G (m * z) (2 ^ 1074 * 2 ^ 1074) in
    let np : Near (in_units p) (in_units m *r in_units z) (half 1022) = near_round (m * z) (2 ^ 1074 * 2 ^ 1074) 1022 (mul-pos (pow_pos 1074) (pow_pos 1074)) (product_under m z M Z) in
    let nq : Near (in_units p) (e *r w) ((d1 +r (d *r B)) +r half 1022) = near_trans {x = in_units p} {y = in_units m *r in_units z} {z = e *r w} {d = half 1022} {e = d1 +r (d *r B)} np (near_times {x = in_units m} {y = e} {z = in_units z} {w = w} {d = d} {e = d1} {B = B} nm nz zb e1) in
    let nd : Near (in_units a -r in_units p) (b -r (e *r w)) (d2 +r ((d1 +r (d *r B)) +r half 1022)) = near_minus {x = in_units p} {y = e *r w} {a = in_units a} {b = b} {d = (d1 +r (d *r B)) +r half 1022} {e = d2} nq na in
    let nr : Near (in_units (G (a - p) (2 ^ 1074))) (in_units (a - p)) (half 1022) = near_round (a - p) (2 ^ 1074) 1022 (pow_pos 1074) (mul-lt-mul_of_pos_right (lt_of_le_of_lt (le_trans (sub-le a p) A) (lit< {m = 2 ^ 1074} {n = 2 ^ 1075} tt)) (pow_pos 1074)) in
    near_trans {x = in_units (G (a - p) (2 ^ 1074))} {y = in_units (a - p)} {z = b -r (e *r w)} {d = half 1022} {e = d2 +r ((d1 +r (d *r B)) +r half 1022)} nr (near_of_both (same_minus a p).0 (same_minus a p).1 nd)
