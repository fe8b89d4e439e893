-- `plain_by_square`: a value whose square lies from 2^-250 to 2^250, or that is zero, is zero or in the normal range of f32. Rounding keeps the order, so what is below 2^-126 has a square of at most 2^-252, and what is from 2^127 on one of at least 2^254.
use Rattle.std.proofs.Common.{◌≡◌, ℕ, zero, suc, ◌+◌, ◌*◌, ◌/◌, ◌%◌, ◌^◌, ◌<◌, ◌≤◌, ◌⊎◌, Bool, true, false, cond, ◌&&◌, ◌||◌, T, ℤ, eqb, leb, sym, ap, ◌∙◌, subst, inl, inr, le_trans, le_of_eq, le_of_lt, mul-le-mul, mul-le-mul_right, mul-pos, mul_assoc, mod-lt, zero-lt-suc, arith, eqb→eq, pow_pos, pow_mono, shl_lt}
use native.Mathlib.Nat.{le_of_mul-le-mul_right, mul_comm, mul-mul-mul_comm, mul-one, zero-mul, one-mul, mul_right_comm}
use mathlib.Core.Bool.{false≢true}
use lib.Ieee.{Float, nan, inf, fin, binary64, up, down, round, mul, le, eq, fits, is_nan, of_bits, of_fields, to_bits, odd}
use lib.Ieee.Bits.{of_bits-to_bits}
use lib.Ieee.Exact.{odd_sign}
use lib.Ieee.Fits.{down_pos, and_l}
use lib.Ieee.Order.{round_mono}
use lib.Ieee.Scale.{finite}
use Rattle.std.proofs.lemmas.Bool.{cases_lt}
use Rattle.std.proofs.lemmas.Float as Floats
use Rattle.float_rounding.proofs.Units.{mul_opened, first_zero}
use Rattle.float_rounding.proofs.Val.{Val}
use Rattle.floats.specs.BlockModel.{Plain}

-- ---- what a pattern says of the size, in units of 2^-1074: n is the pattern without its sign
abbrev Sized : Bool → Float → ℕ → Type 0
Sized s x n = (u : ℕ) × Val x s u × (n < 0x3810_0000_0000_0000 → u ≤ 2 ^ 948) × (0x47e0_0000_0000_0000 ≤ n → 2 ^ 1201 ≤ u) × (u ≡ 0 → n ≡ 0)

normal : (s : Bool) (k t n : ℕ) → n ≡ suc k * 4503599627370496 + t → t < 4503599627370496 → Sized s (odd 53 s (4503599627370496 + t) k 1074) n
normal s k t n e h = (
  (4503599627370496 + t) * 2 ^ k,
  odd_sign 53 s (4503599627370496 + t) k 1074,
  λ l. le_trans (le_of_lt (shl_lt 53 k (digits t h))) (pow_mono (few k t n e l)),
  λ l. mul-le-mul (leading t) (pow_mono (many k t n e h l)),
  λ z. absurd (some ((4503599627370496 + t) * 2 ^ k) (mul-pos (positive t) (pow_pos k)) z),
)
  where
    digits : (t : ℕ) → t < 4503599627370496 → 4503599627370496 + t < 9007199254740992
    digits t h = omega arith

    few : (k t n : ℕ) → n ≡ suc k * 4503599627370496 + t → n < 0x3810_0000_0000_0000 → 53 + k ≤ 948
    few k t n e l = omega arith

    leading : (t : ℕ) → 4503599627370496 ≤ 4503599627370496 + t
    leading t = omega arith

    many : (k t n : ℕ) → n ≡ suc k * 4503599627370496 + t → t < 4503599627370496 → 0x47e0_0000_0000_0000 ≤ n → 1149 ≤ k
    many k t n e h l = omega arith

    positive : (t : ℕ) → 0 < 4503599627370496 + t
    positive t = omega arith

    some : (u : ℕ) → 0 < u → u ≡ 0 → ⊥
    some u h z = omega arith

fields : (s : Bool) (f t n : ℕ) → n ≡ f * 4503599627370496 + t → t < 4503599627370496 → T (finite (of_fields binary64 s f t)) → Sized s (of_fields binary64 s f t) n
unfolding of_fields
fields s zero t n e h F = (
  t * 2 ^ 0,
  odd_sign 53 s t 0 1074,
  λ l. le_trans (le_of_eq (mul-one t)) (le_trans (le_of_lt h) (pow_mono (few 948))),
  λ l. absurd (below t n e h l),
  λ z. none t n e (sym (mul-one t) ∙ z),
)
  where
    few : (n : ℕ) → 52 ≤ 948
    few n = omega arith

    none : (t n : ℕ) → n ≡ 0 * 4503599627370496 + t → t ≡ 0 → n ≡ 0
    none t n e z = omega arith

    below : (t n : ℕ) → n ≡ 0 * 4503599627370496 + t → t < 4503599627370496 → 0x47e0_0000_0000_0000 ≤ n → ⊥
    below t n e h l = omega arith
fields s (suc k) t n e h F = go (eqb (suc k) 2047) (eqb t 0) F
  where
    go : (a b : Bool) → T (finite (cond a (cond b (inf s) nan) (odd 53 s (4503599627370496 + t) k 1074))) → Sized s (cond a (cond b (inf s) nan) (odd 53 s (4503599627370496 + t) k 1074)) n
    go true true F = absurd F
    go true false F = absurd F
    go false b F = normal s k t n e h

-- of any value of the format
sized : (x : Float) → T (fits binary64 x) → T (finite x) → (s : Bool) × Sized s x (to_bits binary64 x % 9223372036854775808)
unfolding of_bits
sized x F h =
    let b = to_bits binary64 x in
    let s = leb 9223372036854775808 b in
    let e : of_fields binary64 s (b % 9223372036854775808 / 4503599627370496) (b % 4503599627370496) ≡ x = of_bits-to_bits binary64 x F in
    (s, subst (λ y. Sized s y (b % 9223372036854775808)) e (fields s (b % 9223372036854775808 / 4503599627370496) (b % 4503599627370496) (b % 9223372036854775808) (parts b) (mod-lt b (pow_pos 52)) (subst (λ y. T (finite y)) (sym e) h)))
  where
    parts : (b : ℕ) → b % 9223372036854775808 ≡ b % 9223372036854775808 / 4503599627370496 * 4503599627370496 + b % 4503599627370496
    parts b = omega arith

-- ---- the square of ±m * 2^e: a small and a large value's, by the order that rounding keeps
square_is : (s : Bool) (m : ℕ) (e : ℤ) → mul binary64 (fin s m e) (fin s m e) ≡ round binary64 false (m * up e * (m * up e)) (down e * down e)
square_is true m e = mul_opened true m e true m e
square_is false m e = mul_opened false m e false m e

-- u units of 2^-1074 are a / d
square_small : (a d u : ℕ) → 0 < d → a * 2 ^ 1074 ≡ u * d → u ≤ 2 ^ 948 → T (le (round binary64 false (a * a) (d * d)) (round binary64 false 1 (2 ^ 252)))
square_small a d u D e h =
    round_mono binary64 (a * a) (d * d) 1 (2 ^ 252) (mul-pos D D) (pow_pos 252)
    (le_trans (le_of_eq (mul-mul-mul_comm a a (2 ^ 126) (2 ^ 126))) (le_trans (mul-le-mul least least) (le_of_eq (sym (one-mul (d * d))))))
  where
    least : a * 2 ^ 126 ≤ d
    least = le_of_mul-le-mul_right (le_trans (le_of_eq (mul_assoc a (2 ^ 126) (2 ^ 948) ∙ e)) (le_trans (mul-le-mul_right d h) (le_of_eq (mul_comm (2 ^ 948) d)))) (pow_pos 948)

square_large : (a d u : ℕ) → 0 < d → a * 2 ^ 1074 ≡ u * d → 2 ^ 1201 ≤ u → T (le (round binary64 false (2 ^ 254) 1) (round binary64 false (a * a) (d * d)))
square_large a d u D e h =
    round_mono binary64 (2 ^ 254) 1 (a * a) (d * d) (zero-lt-suc 0) (mul-pos D D)
    (le_trans (le_of_eq (mul-mul-mul_comm (2 ^ 127) (2 ^ 127) d d)) (le_trans (mul-le-mul most most) (le_of_eq (sym (mul-one (a * a))))))
  where
    most : 2 ^ 127 * d ≤ a
    most = le_of_mul-le-mul_right (le_trans (le_of_eq (mul_right_comm (2 ^ 127) d (2 ^ 1074))) (le_trans (mul-le-mul_right d h) (le_of_eq (sym e)))) (pow_pos 1074)

-- the two bounds lie between those
abbrev pub least_square : Float
least_square = of_bits binary64 0x3050_0000_0000_0000

abbrev pub greatest_square : Float
greatest_square = of_bits binary64 0x4f90_0000_0000_0000

too_small : (z : Float) → T (le z (round binary64 false 1 (2 ^ 252))) → T (le least_square z) → ⊥
too_small z h l = below (Floats.le_trans least_square z (round binary64 false 1 (2 ^ 252)) l h)
  where
    below : T (le (of_bits binary64 0x3050_0000_0000_0000) (round binary64 false 1 (2 ^ 252))) → ⊥
    below t = unfold le of_bits round in t

too_large : (z : Float) → T (le (round binary64 false (2 ^ 254) 1) z) → T (le z greatest_square) → ⊥
too_large z h l = above (Floats.le_trans (round binary64 false (2 ^ 254) 1) z greatest_square h l)
  where
    above : T (le (round binary64 false (2 ^ 254) 1) (of_bits binary64 0x4f90_0000_0000_0000)) → ⊥
    above t = unfold le of_bits round in t

-- ---- the test
zero_units : (s : Bool) (m : ℕ) (e : ℤ) (u : ℕ) → m * up e * 2 ^ 1074 ≡ u * down e → T (eq (fin s m e) (of_bits binary64 0)) → u ≡ 0
unfolding eq of_bits
zero_units s m e u v t =
    first_zero u (down e) (down_pos e)
    (sym v ∙ ap (λ a. a * 2 ^ 1074) (sym (mul-one (m * up e)) ∙ eqb→eq (m * up e * 1) (0 * 1 * down e) (and_l (eqb (m * up e * 1) (0 * 1 * down e)) _ t) ∙ zero-mul (down e)) ∙ zero-mul (2 ^ 1074))

-- the square lies between the bounds, or the value is zero
abbrev pub passes : Float → Bool
passes x = (le least_square (mul binary64 x x) || eq x (of_bits binary64 0)) && le (mul binary64 x x) greatest_square

parts : (a b c : Bool) → ((a || b) && c) ≡ true → (T a ⊎ T b) × T c
parts true b true t = (inl tt, tt)
parts true b false t = absurd (false≢true t)
parts false true true t = (inr tt, tt)
parts false true false t = absurd (false≢true t)
parts false false c t = absurd (false≢true t)

pub plain_by_square : (x : Float) → T (fits binary64 x) → passes x ≡ true → Plain x
unfolding is_nan
plain_by_square x F t = go x F (parts (le least_square (mul binary64 x x)) (eq x (of_bits binary64 0)) (le (mul binary64 x x) greatest_square) t)
  where
    infinite : (s : Bool) → T (le (mul binary64 (inf s) (inf s)) greatest_square) → ⊥
    infinite true l = unfold le mul of_bits in l
    infinite false l = unfold le mul of_bits in l

    go : (x : Float) → T (fits binary64 x) → (T (le least_square (mul binary64 x x)) ⊎ T (eq x (of_bits binary64 0))) × T (le (mul binary64 x x) greatest_square) → Plain x
    go nan F t = absurd (unfold le mul of_bits in t.1)
    go (inf s) F t = absurd (infinite s t.1)
    go (fin s m e) F t =
        let size = sized (fin s m e) F tt in
        let u = size.1.0 in
        let v : m * up e * 2 ^ 1074 ≡ u * down e = size.1.1.1 in
        let n = to_bits binary64 (fin s m e) % 9223372036854775808 in
        let z = mul binary64 (fin s m e) (fin s m e) in (
          tt,
          elim (cases_lt n 0x3810_0000_0000_0000) [
            | inl l ↦ inl (elim t.0 [
              | inl b ↦ absurd (too_small z (subst (λ y. T (le y (round binary64 false 1 (2 ^ 252)))) (sym (square_is s m e)) (square_small (m * up e) (down e) u (down_pos e) v (size.1.2 l))) b)
              | inr q ↦ size.1.4 (zero_units s m e u v q)
            ])
            | inr g ↦ inr (
              g,
              elim (cases_lt n 0x47e0_0000_0000_0000) [
                | inl l ↦ l
                | inr k ↦ absurd (too_large z (subst (λ y. T (le (round binary64 false (2 ^ 254) 1) y)) (sym (square_is s m e)) (square_large (m * up e) (down e) u (down_pos e) v (size.1.3 k))) t.1)
              ],
            )
          ],
        )
