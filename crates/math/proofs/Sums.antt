-- The Horner sums of an r of at most 1 in size, in units of 2 ^ -1074: `sine-val` and `cosine-val` say which number of units S and C are, `sine-le` and
-- `cosine-le` that it is at most 1. Each coefficient has the other sign than the one before it and is smaller, so each sum has the sign of its lowest
-- coefficient and is no larger.
use Rattle.std.proofs.Common.{◌≡◌, ℕ, zero, suc, ◌+◌, ◌-◌, ◌*◌, ◌^◌, ◌<◌, ◌≤◌, Bool, true, false, not, sym, refl, subst, le_trans, le_of_eq, le_refl, lt_of_le_of_lt, mul-le-mul_right, zero-lt-suc, mul_assoc, mul-le-mul, mul-le-mul_left, mul-pos, one-mul, sub-le, arith, lit<, pow_pos}
use lib.Ieee.{Float, binary64, unlike, size, span, climb, round, mul}
use lib.Ieee.Fits.{round-fits}
use lib.Ieee.Scale.{overflow}
use Rattle.float_rounding.proofs.Units.{G, G-le, G-mono, rounded}
use Rattle.float_rounding.proofs.More.{Rep, G-rep, rep_of, round_value}
use Rattle.float_rounding.proofs.Val.{Val, mul_val, add_opposite_r}
use Rattle.math.specs.Carrier.{factorial, odd, sine_coefficient, cosine_coefficient, horner, sine_sum, cosine_sum}

-- 1 in units
abbrev pub unity : ℕ
unity = 2 ^ 1074

-- a product of two numbers of units, rounded
abbrev pub times : ℕ → ℕ → ℕ
times n k = G (n * k) (2 ^ 1074 * 2 ^ 1074)

-- a value of the format bounds what is rounded below it
under_rep : (n a c : ℕ) → Rep n → 0 < c → a * 2 ^ 1074 ≤ n * c → G a c ≤ n
under_rep n a c r C h = le_trans (G-mono a c n (2 ^ 1074) C (pow_pos 1074) h) (le_of_eq (G-rep n r))

times_le : (m n k : ℕ) → Rep n → m ≤ n → k ≤ unity → times m k ≤ n
times_le m n k r M K = under_rep n (m * k) (2 ^ 1074 * 2 ^ 1074) r (pow_pos 2148) (le_trans (mul-le-mul_right (2 ^ 1074) (mul-le-mul M K)) (le_of_eq (mul_assoc n (2 ^ 1074) (2 ^ 1074))))

unity_rep : Rep unity
unity_rep = (1, 1074, lit< tt, sym (one-mul (2 ^ 1074)))

like : (s : Bool) → unlike s false ≡ s
like true = refl
like false = refl

square : (s : Bool) → unlike s s ≡ false
square true = refl
square false = refl

-- ---- coefficients 0 to last: coefficient n has the sign of (-1)^n and is `count n` units in size, and each is smaller than the one before it
pub record Alternating (coefficient : ℕ → Float) (count : ℕ → ℕ) (last : ℕ) : Type 0 where
  pub is : (n : ℕ) → Val (coefficient n) (odd n) (count n)
  pub exact : (n : ℕ) → Rep (count n)
  pub under : (n : ℕ) → count n < overflow binary64
  pub falls : (n : ℕ) → n < last → count (suc n) < count n

-- the size of the Horner sum of coefficients n to n + j, for a z of k units
unfoldable pub horner_units : (ℕ → ℕ) → ℕ → ℕ → ℕ → ℕ
horner_units count zero n k = count n
horner_units count (suc j) n k = G (count n - times (horner_units count j (suc n) k) k) (2 ^ 1074)

module _ (coefficient : ℕ → Float) (count : ℕ → ℕ) (last : ℕ) (A : Alternating coefficient count last) (z : Float) (k : ℕ) (Z : Val z false k) (K : k ≤ unity) where
  pub horner_le : (j n : ℕ) → horner_units count j n k ≤ count n
  unfolding horner_units
  horner_le zero n = le_refl (count n)
  horner_le (suc j) n = under_rep (count n) (count n - times (horner_units count j (suc n) k) k) (2 ^ 1074) (A.exact n) (pow_pos 1074) (mul-le-mul_right (2 ^ 1074) (sub-le (count n) (times (horner_units count j (suc n) k) k)))

  pub horner_val : (j n : ℕ) → n + j ≤ last → Val (horner coefficient j n z) (odd n) (horner_units count j n k)
  unfolding horner horner_units odd
  horner_val zero n h = A.is n
  horner_val (suc j) n h =
      let above = horner coefficient j (suc n) z in
      let m = horner_units count j (suc n) k in
      let small : times m k ≤ count (suc n) = times_le m (count (suc n)) k (A.exact (suc n)) (horner_le j (suc n)) K in
      let product : Val (mul binary64 above z) (not (odd n)) (times m k) = subst (λ (b : Bool). Val (mul binary64 above z) b (times m k)) (like (not (odd n))) (mul_val above z (not (odd n)) false m k (horner_val j (suc n) (next n j last h)) Z (lt_of_le_of_lt small (A.under (suc n)))) in
      add_opposite_r (mul binary64 above z) (coefficient n) (odd n) (times m k) (count n) product (A.is n) (lt_of_le_of_lt small (A.falls n (first n j last h))) (lt_of_le_of_lt (horner_le (suc j) n) (A.under n))
    where
      next : (n j l : ℕ) → n + suc j ≤ l → suc n + j ≤ l
      next n j l h = omega arith

      first : (n j l : ℕ) → n + suc j ≤ l → n < l
      first n j l h = omega arith

-- ---- the coefficients are such: each is 1 over a factorial, rounded
factorial_pos : (n : ℕ) → 0 < factorial n
unfolding factorial
factorial_pos zero = zero-lt-suc 0
factorial_pos (suc n) = mul-pos (zero-lt-suc n) (factorial_pos n)

inverse_le : (f : ℕ) → 0 < f → G 1 f ≤ unity
inverse_le f F = le_trans (G-le 1 f 1 1074 F (lit< tt) (mul-le-mul_left (1 * 2 ^ 1074) F)) (le_of_eq (one-mul (2 ^ 1074)))

inverse_under : (f : ℕ) → 0 < f → G 1 f < overflow binary64
inverse_under f F = lt_of_le_of_lt (inverse_le f F) (lit< tt)

inverse_rep : (f : ℕ) → 0 < f → Rep (G 1 f)
inverse_rep f F = rep_of (round binary64 false 1 f) (G 1 f) (round-fits binary64 false 1 f) (rounded 1 f (inverse_under f F))

unfoldable pub sine_count : ℕ → ℕ
sine_count n = G 1 (factorial (2 * n + 1))

unfoldable pub cosine_count : ℕ → ℕ
cosine_count n = G 1 (factorial (2 * n))

sine_falls : (n : ℕ) → n < 6 → sine_count (suc n) < sine_count n
unfolding sine_count factorial size span climb
sine_falls zero h = lit< tt
sine_falls (suc zero) h = lit< tt
sine_falls (suc (suc zero)) h = lit< tt
sine_falls (suc (suc (suc zero))) h = lit< tt
sine_falls (suc (suc (suc (suc zero)))) h = lit< tt
sine_falls (suc (suc (suc (suc (suc zero))))) h = lit< tt
sine_falls (suc (suc (suc (suc (suc (suc n)))))) h = absurd (none n h)
  where
    none : (n : ℕ) → suc (suc (suc (suc (suc (suc n))))) < 6 → ⊥
    none n h = omega arith

cosine_falls : (n : ℕ) → n < 7 → cosine_count (suc n) < cosine_count n
unfolding cosine_count factorial size span climb
cosine_falls zero h = lit< tt
cosine_falls (suc zero) h = lit< tt
cosine_falls (suc (suc zero)) h = lit< tt
cosine_falls (suc (suc (suc zero))) h = lit< tt
cosine_falls (suc (suc (suc (suc zero)))) h = lit< tt
cosine_falls (suc (suc (suc (suc (suc zero))))) h = lit< tt
cosine_falls (suc (suc (suc (suc (suc (suc zero)))))) h = lit< tt
cosine_falls (suc (suc (suc (suc (suc (suc (suc n))))))) h = absurd (none n h)
  where
    none : (n : ℕ) → suc (suc (suc (suc (suc (suc (suc n)))))) < 7 → ⊥
    none n h = omega arith

pub sine_alternates : Alternating sine_coefficient sine_count 6
unfolding sine_coefficient sine_count
sine_alternates = record {
  is = λ n. round_value (odd n) 1 (factorial (2 * n + 1)) (inverse_under (factorial (2 * n + 1)) (factorial_pos (2 * n + 1)));
  exact = λ n. inverse_rep (factorial (2 * n + 1)) (factorial_pos (2 * n + 1));
  under = λ n. inverse_under (factorial (2 * n + 1)) (factorial_pos (2 * n + 1));
  falls = sine_falls;
}

pub cosine_alternates : Alternating cosine_coefficient cosine_count 7
unfolding cosine_coefficient cosine_count
cosine_alternates = record {
  is = λ n. round_value (odd n) 1 (factorial (2 * n)) (inverse_under (factorial (2 * n)) (factorial_pos (2 * n)));
  exact = λ n. inverse_rep (factorial (2 * n)) (factorial_pos (2 * n));
  under = λ n. inverse_under (factorial (2 * n)) (factorial_pos (2 * n));
  falls = cosine_falls;
}

-- ---- S and C of an r of at most 1 in size
unfoldable pub sine_units : ℕ → ℕ
sine_units n = times n (horner_units sine_count 6 0 (times n n))

unfoldable pub cosine_units : ℕ → ℕ
cosine_units n = horner_units cosine_count 7 0 (times n n)

module _ (r : Float) (s : Bool) (n : ℕ) (R : Val r s n) (N : n ≤ unity) where
  z_le : times n n ≤ unity
  z_le = times_le n unity n unity_rep N N

  z_val : Val (mul binary64 r r) false (times n n)
  z_val = subst (λ (b : Bool). Val (mul binary64 r r) b (times n n)) (square s) (mul_val r r s s n n R R (lt_of_le_of_lt z_le (lit< tt)))

  sum_le : horner_units sine_count 6 0 (times n n) ≤ unity
  unfolding sine_count
  sum_le = le_trans (horner_le sine_coefficient sine_count 6 sine_alternates (mul binary64 r r) (times n n) z_val z_le 6 0) (inverse_le (factorial 1) (factorial_pos 1))

  pub sine_le : sine_units n ≤ unity
  unfolding sine_units
  sine_le = times_le n unity (horner_units sine_count 6 0 (times n n)) unity_rep N sum_le

  -- S has the sign of r
  pub sine_val : Val (sine_sum r) s (sine_units n)
  unfolding sine_sum sine_units odd
  sine_val =
      let sum = horner sine_coefficient 6 0 (mul binary64 r r) in
      subst (λ (b : Bool). Val (mul binary64 r sum) b (sine_units n)) (like s)
      (mul_val r sum s false n (horner_units sine_count 6 0 (times n n)) R (horner_val sine_coefficient sine_count 6 sine_alternates (mul binary64 r r) (times n n) z_val z_le 6 0 (le_refl 6)) (lt_of_le_of_lt sine_le (lit< tt)))

  pub cosine_le : cosine_units n ≤ unity
  unfolding cosine_units cosine_count
  cosine_le = le_trans (horner_le cosine_coefficient cosine_count 7 cosine_alternates (mul binary64 r r) (times n n) z_val z_le 7 0) (inverse_le (factorial 0) (factorial_pos 0))

  pub cosine_val : Val (cosine_sum r) false (cosine_units n)
  unfolding cosine_sum cosine_units odd
  cosine_val = horner_val cosine_coefficient cosine_count 7 cosine_alternates (mul binary64 r r) (times n n) z_val z_le 7 0 (le_refl 7)
