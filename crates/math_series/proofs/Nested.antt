-- The Horner sums of `math`, in units of 2 ^ -1074, against the series as nested fractions: a n - w * (a (n + 1) - w * ( .. )).
use mathlib.Core.Path.{◌≡◌, refl, sym, ap, ◌∙◌}
use Prim.Native.Nat.{ℕ, zero, suc, ◌+◌, ◌-◌, ◌*◌, ◌^◌, ◌≤◌, ◌<◌, zero-le}
use native.Mathlib.Nat.{le_trans, le_of_eq, lt_of_lt_of_le, lt_of_le_of_lt, mul-one, one-mul, zero-mul, zero-add, add-zero, mul_comm, mul_assoc, mul-le-mul_right, mul-le-mul_left, mul-le-mul, mul-pos, sub-le, sub-zero, zero-lt-suc}
use native.Mathlib.Omega.{arith}
use lib.Dec.{lit<, lit≤}
use lib.Pow.{pow_pos}
use Rattle.float_rounding.proofs.Units.{G, G-le}
use Rattle.math.specs.Carrier.{factorial}
use Rattle.math.proofs.Sums.{unity, times, horner_units, sine_count, cosine_count, sine_units, cosine_units}
use Rattle.math.proofs.Constants.{quarter_units}
use Rattle.math_series.specs.Series.{factorial_pos}
use Rattle.math_series.proofs.Ratio.{Ratio, ◌≤r◌, ◌+r◌, ◌-r◌, ◌*r◌, ≤r-refl, ≤r-trans, *r-mono, Near, near_trans, near_weaken, near_times, near_minus, one}
use Rattle.math_series.proofs.Rounded.{ratio, in_units, half, near_round, near_of_both, product_under, step}

abbrev pub nothing : Ratio
nothing = ratio 0 1 (zero-lt-suc 0)

-- of j terms, from term n on
unfoldable pub nested : (ℕ → Ratio) → ℕ → ℕ → Ratio → Ratio
nested inverse zero n w = nothing
nested inverse (suc j) n w = inverse n -r (nested inverse j (suc n) w *r w)

-- 1 / (2 n + 1)! and 1 / (2 n)!
unfoldable pub sine_inverse : ℕ → Ratio
sine_inverse n = ratio 1 (factorial (2 * n + 1)) (factorial_pos (2 * n + 1))

unfoldable pub cosine_inverse : ℕ → Ratio
cosine_inverse n = ratio 1 (factorial (2 * n)) (factorial_pos (2 * n))

minus_self : (x y : Ratio) → (x -r y) ≤r x
minus_self x y = record { le = le_trans (mul-le-mul_right x.den (sub-le (x.num * y.den) (y.num * x.den))) (le_of_eq (e x.num x.den y.den)) }
  where
    e : (a b d : ℕ) → a * d * b ≡ a * (b * d)
    e a b d = mul_assoc a d b ∙ ap (λ (x : ℕ). a * x) (mul_comm d b)

nothing_le : (x : Ratio) → nothing ≤r x
nothing_le x = record { le = le_trans (le_of_eq (zero-mul x.den)) zero-le }

pub nested_le : (inverse : ℕ → Ratio) (j n : ℕ) (w : Ratio) → nested inverse j n w ≤r inverse n
unfolding nested
nested_le inverse zero n w = nothing_le (inverse n)
nested_le inverse (suc j) n w = minus_self (inverse n) (nested inverse j (suc n) w *r w)

times_one : (x w : Ratio) → w ≤r one → (x *r w) ≤r x
times_one x w W = ≤r-trans (*r-mono (≤r-refl x) W) (record { le = le_of_eq (e x.num x.den) })
  where
    e : (a b : ℕ) → a * 1 * b ≡ a * (b * 1)
    e a b = ap (λ (x : ℕ). x * b) (mul-one a) ∙ ap (λ (x : ℕ). a * x) (sym (mul-one b))

-- ---- no difference is cut short at 0, where each inverse is at least the next
pub no_cut : (inverse : ℕ → Ratio) → ((n : ℕ) → inverse (suc n) ≤r inverse n) → (j n : ℕ) (w : Ratio) → w ≤r one → (nested inverse j (suc n) w *r w) ≤r inverse n
no_cut inverse falls j n w W = ≤r-trans (times_one (nested inverse j (suc n) w) w W) (≤r-trans (nested_le inverse j (suc n) w) (falls n))

-- ---- the distance after each step, from that of the last coefficient and the terms above it
abbrev five_eighths : Ratio
five_eighths = ratio 5 8 (zero-lt-suc 7)

unfoldable pub bound : (ℕ → Ratio) → ℕ → ℕ → Ratio
bound inverse zero n = half 1022 +r inverse (suc n)
bound inverse (suc j) n = (half 1022 +r ((half 1021 +r (bound inverse j (suc n) *r five_eighths)) +r half 1022)) +r half 1022

-- j more
unfoldable pub more : ℕ → ℕ → ℕ
more zero i = i
more (suc j) i = suc (more j i)

near_nothing : (t : Ratio) → Near nothing t t
near_nothing t = record { above = nothing_le (t +r t); below = record { le = le_of_eq (e t.num t.den) } }
  where
    e : (a b : ℕ) → a * (1 * b) ≡ (0 * b + a * 1) * b
    e a b = ap (λ (x : ℕ). a * x) (one-mul b) ∙ ap (λ (x : ℕ). x * b) (sym (ap (λ (x : ℕ). x + a * 1) (zero-mul b) ∙ zero-add (a * 1) ∙ mul-one a))

minus_nothing : (a : Ratio) → (a ≤r (a -r nothing)) × ((a -r nothing) ≤r a)
minus_nothing a = (record { le = le_of_eq (sym (e a.num a.den)) }, record { le = le_of_eq (e a.num a.den) })
  where
    e : (a b : ℕ) → (a * 1 - 0 * b) * b ≡ a * (b * 1)
    e a b = ap (λ (x : ℕ). (a * 1 - x) * b) (zero-mul b) ∙ ap (λ (x : ℕ). x * b) (sub-zero (a * 1)) ∙ mul_assoc a 1 b ∙ ap (λ (x : ℕ). a * x) (mul_comm 1 b)

-- what is at most 1 is rounded to at most 1
unity_under : (a c : ℕ) → 0 < c → a ≤ c → G a c ≤ unity
unity_under a c C h = le_trans (G-le a c 1 1074 C (lit< tt) (le_trans (mul-le-mul_right (2 ^ 1074) h) (le_of_eq (mul_comm c (2 ^ 1074) ∙ ap (λ (x : ℕ). x * c) (sym (one-mul (2 ^ 1074))))))) (le_of_eq (one-mul (2 ^ 1074)))

-- ---- a Horner sum, for a z of k units that is near w; each coefficient is an inverse, rounded, and at most 1
module _ (count : ℕ → ℕ) (inverse : ℕ → Ratio) (near : (n : ℕ) → Near (in_units (count n)) (inverse n) (half 1022)) (inverse_one : (n : ℕ) → inverse n ≤r one) (count-one : (n : ℕ) → count n ≤ unity)
    (k : ℕ) (K : k ≤ 5 * 2 ^ 1071) (w : Ratio) (W : w ≤r one) (Z : Near (in_units k) w (half 1021)) (i : ℕ) where
  small : k ≤ unity
  small = le_trans K (lit≤ {m = 5 * 2 ^ 1071} {n = 2 ^ 1074} tt)

  sum_one : (j n : ℕ) → horner_units count j n k ≤ unity
  unfolding horner_units
  sum_one zero n = count-one n
  sum_one (suc j) n = unity_under (count n - times (horner_units count j (suc n) k) k) (2 ^ 1074) (pow_pos 1074) (le_trans (sub-le (count n) (times (horner_units count j (suc n) k) k)) (count-one n))

  k_bound : in_units k ≤r five_eighths
  k_bound = record { le = le_trans (mul-le-mul_right 8 K) (le_of_eq refl) }

  pub horner_near : (j n : ℕ) → Near (in_units (horner_units count j n k)) (nested inverse (suc (more j i)) n w) (bound inverse j n)
  unfolding horner_units nested more bound
  horner_near zero n =
      let t = nested inverse i (suc n) w *r w in
      let t_le : t ≤r inverse (suc n) = ≤r-trans (times_one (nested inverse i (suc n) w) w W) (nested_le inverse i (suc n) w) in
      let a = in_units (count n) in
      near_of_both {x = a} {y = a -r nothing} {z = inverse n -r t} {d = half 1022 +r inverse (suc n)} (minus_nothing a).0 (minus_nothing a).1
      (near_minus {x = nothing} {y = t} {a = a} {b = inverse n} {d = inverse (suc n)} {e = half 1022} (near_weaken t_le (near_nothing t)) (near n))
  horner_near (suc j) n =
      step (horner_units count j (suc n) k) k (count n) (nested inverse (suc (more j i)) (suc n) w) w (inverse n) (bound inverse j (suc n)) (half 1021) (half 1022) five_eighths (sum_one j (suc n)) small (count-one n) k_bound
      (≤r-trans (nested_le inverse (suc (more j i)) (suc n) w) (inverse_one (suc n))) (horner_near j (suc n)) Z (near n)

-- ---- the inverses of factorials
inverse_near : (f : ℕ) (F : 0 < f) → Near (in_units (G 1 f)) (ratio 1 f F) (half 1022)
inverse_near f F = near_round 1 f 1022 F (lt_of_le_of_lt (le_of_eq (one-mul (2 ^ 1074))) (lt_of_lt_of_le (lit< {m = 2 ^ 1074} {n = 2 ^ 1075} tt) (le_trans (le_of_eq (sym (mul-one (2 ^ 1075)))) (mul-le-mul_left (2 ^ 1075) F))))

inverse_one : (f : ℕ) (F : 0 < f) → ratio 1 f F ≤r one
inverse_one f F = record { le = le_trans (le_of_eq (one-mul 1)) (le_trans F (le_of_eq (sym (one-mul f)))) }

factorial_rises : (n : ℕ) → factorial n ≤ factorial (suc n)
unfolding factorial
factorial_rises n = le_trans (le_of_eq (sym (one-mul (factorial n)))) (mul-le-mul_right (factorial n) (zero-lt-suc n))

inverse_falls : (f g : ℕ) (F : 0 < f) (G : 0 < g) → f ≤ g → ratio 1 g G ≤r ratio 1 f F
inverse_falls f g F G h = record { le = mul-le-mul_left 1 h }

two_more : (n : ℕ) → factorial (2 * n) ≤ factorial (2 * suc n)
two_more n = le_trans (factorial_rises (2 * n)) (le_trans (factorial_rises (suc (2 * n))) (le_of_eq (ap factorial (e n))))
  where
    e : (n : ℕ) → suc (suc (2 * n)) ≡ 2 * suc n
    e n = omega arith

two_more_and_one : (n : ℕ) → factorial (2 * n + 1) ≤ factorial (2 * suc n + 1)
two_more_and_one n = le_trans (factorial_rises (2 * n + 1)) (le_trans (factorial_rises (suc (2 * n + 1))) (le_of_eq (ap factorial (e n))))
  where
    e : (n : ℕ) → suc (suc (2 * n + 1)) ≡ 2 * suc n + 1
    e n = omega arith

pub sine_falls : (n : ℕ) → sine_inverse (suc n) ≤r sine_inverse n
unfolding sine_inverse
sine_falls n = inverse_falls (factorial (2 * n + 1)) (factorial (2 * suc n + 1)) (factorial_pos (2 * n + 1)) (factorial_pos (2 * suc n + 1)) (two_more_and_one n)

pub cosine_falls : (n : ℕ) → cosine_inverse (suc n) ≤r cosine_inverse n
unfolding cosine_inverse
cosine_falls n = inverse_falls (factorial (2 * n)) (factorial (2 * suc n)) (factorial_pos (2 * n)) (factorial_pos (2 * suc n)) (two_more n)

sine_inverse_lem : (n : ℕ) → Near (in_units (sine_count n)) (sine_inverse n) (half 1022) × (sine_inverse n ≤r one) × (sine_count n ≤ unity)
unfolding sine_inverse sine_count
sine_inverse_lem n = (inverse_near (factorial (2 * n + 1)) (factorial_pos (2 * n + 1)), inverse_one (factorial (2 * n + 1)) (factorial_pos (2 * n + 1)), unity_under 1 (factorial (2 * n + 1)) (factorial_pos (2 * n + 1)) (factorial_pos (2 * n + 1)))

cosine_inverse_lem : (n : ℕ) → Near (in_units (cosine_count n)) (cosine_inverse n) (half 1022) × (cosine_inverse n ≤r one) × (cosine_count n ≤ unity)
unfolding cosine_inverse cosine_count
cosine_inverse_lem n = (inverse_near (factorial (2 * n)) (factorial_pos (2 * n)), inverse_one (factorial (2 * n)) (factorial_pos (2 * n)), unity_under 1 (factorial (2 * n)) (factorial_pos (2 * n)) (factorial_pos (2 * n)))

-- ---- S and C of an r of n units, at most PI / 4 in size
module _ (n : ℕ) (N : n ≤ quarter_units) (i : ℕ) where
  abbrev pub square : Ratio
  square = in_units n *r in_units n

  n_one : n ≤ unity
  n_one = le_trans N (lit≤ {m = quarter_units} {n = unity} tt)

  unit_one : (m : ℕ) → m ≤ unity → in_units m ≤r one
  unit_one m h = record { le = le_trans (le_of_eq (mul-one m)) (le_trans h (le_of_eq (sym (one-mul (2 ^ 1074))))) }

  pub square_one : square ≤r one
  square_one = ≤r-trans (times_one (in_units n) (in_units n) (unit_one n n_one)) (unit_one n n_one)

  z_le : times n n ≤ 5 * 2 ^ 1071
  z_le = G-le (n * n) (2 ^ 1074 * 2 ^ 1074) 5 1071 (pow_pos 2148) (lit< tt) (mul-le-mul_right (2 ^ 1074) (le_trans (mul-le-mul N N) (lit≤ {m = quarter_units * quarter_units} {n = 5 * 2 ^ 2145} tt)))

  z_near : Near (in_units (times n n)) square (half 1021)
  z_near = near_round (n * n) (2 ^ 1074 * 2 ^ 1074) 1021 (mul-pos (pow_pos 1074) (pow_pos 1074)) (lt_of_le_of_lt (mul-le-mul_right (2 ^ 1074) (mul-le-mul N N)) (lit< {m = quarter_units * quarter_units * 2 ^ 1074} {n = 2 ^ 1074 * (2 ^ 1074 * 2 ^ 1074)} tt))

  pub cosine_near : Near (in_units (cosine_units n)) (nested cosine_inverse (suc (more 7 i)) 0 square) (bound cosine_inverse 7 0)
  unfolding cosine_units
  cosine_near = horner_near cosine_count cosine_inverse (λ m. (cosine_inverse_lem m).0) (λ m. (cosine_inverse_lem m).1) (λ m. (cosine_inverse_lem m).2) (times n n) z_le square square_one z_near i 7 0

  sum_near : Near (in_units (horner_units sine_count 6 0 (times n n))) (nested sine_inverse (suc (more 6 i)) 0 square) (bound sine_inverse 6 0)
  sum_near = horner_near sine_count sine_inverse (λ m. (sine_inverse_lem m).0) (λ m. (sine_inverse_lem m).1) (λ m. (sine_inverse_lem m).2) (times n n) z_le square square_one z_near i 6 0

  sum_le : horner_units sine_count 6 0 (times n n) ≤ unity
  sum_le = sum_one sine_count sine_inverse (λ m. (sine_inverse_lem m).0) (λ m. (sine_inverse_lem m).1) (λ m. (sine_inverse_lem m).2) (times n n) z_le square square_one z_near i 6 0

  self : Near (in_units n) (in_units n) nothing
  self = record { above = record { le = le_of_eq (e n (2 ^ 1074)) }; below = record { le = le_of_eq (e n (2 ^ 1074)) } }
    where
      e : (a u : ℕ) → a * (u * 1) ≡ (a * 1 + 0 * u) * u
      e a u = ap (λ (x : ℕ). a * x) (mul-one u) ∙ sym (ap (λ (x : ℕ). (x + 0 * u) * u) (mul-one a) ∙ ap (λ (x : ℕ). (a + x) * u) (zero-mul u) ∙ ap (λ (x : ℕ). x * u) (add-zero a))

  -- r times the sum, rounded once more
  pub sine_near : Near (in_units (sine_units n)) (in_units n *r nested sine_inverse (suc (more 6 i)) 0 square) ((bound sine_inverse 6 0 +r (nothing *r one)) +r half 1022)
  unfolding sine_units
  sine_near =
      let t = nested sine_inverse (suc (more 6 i)) 0 square in
      let s = horner_units sine_count 6 0 (times n n) in
      near_trans {x = in_units (times n s)} {y = in_units n *r in_units s} {z = in_units n *r t} {d = half 1022} {e = bound sine_inverse 6 0 +r (nothing *r one)}
      (near_round (n * s) (2 ^ 1074 * 2 ^ 1074) 1022 (mul-pos (pow_pos 1074) (pow_pos 1074)) (product_under n s n_one sum_le))
      (near_times {x = in_units n} {y = in_units n} {z = in_units s} {w = t} {d = nothing} {e = bound sine_inverse 6 0} {B = one} self sum_near (unit_one s sum_le) (unit_one n n_one))
