-- Powers of powers, and the highest binary digit of a number.
use mathlib.Core.Path.{◌≡◌}
use Prim.Native.Nat.{ℕ, zero, suc, ◌+◌, ◌*◌, ◌^◌, ◌≤◌, ◌<◌}
use native.Mathlib.Nat.{pow-zero, pow-suc, mul-suc, mul-zero, lt_irrefl, lt_of_lt_of_le, lt_of_le_of_lt, lt_of_not-le}
use native.Mathlib.Omega.{arith}
use lib.Pow.{pow-add, pow_mono}
use Rattle.std.proofs.lemmas.Nat.{mul-pow}

pub pow_mul : (x j i : ℕ) → x ^ (j * i) ≡ (x ^ j) ^ i
pow_mul x j zero = rw (mul-zero j, pow-zero (x ^ j), pow-zero x)
pow_mul x j (suc i) = rw (mul-suc j i, pow-suc (x ^ j) i, pow-add x (j * i) j, pow_mul x j i)

pub ten : (j : ℕ) → 10 ^ j ≡ 5 ^ j * 2 ^ j
ten j = mul-pow 5 2 j

pub pow_lt_back : (i p : ℕ) → 2 ^ i < 2 ^ p → i < p
pow_lt_back i p h = lt_of_not-le (λ (g : p ≤ i). lt_irrefl (2 ^ i) (lt_of_lt_of_le h (pow_mono g)))

pub double : (e : ℕ) → 2 ^ (e + 1) ≡ 2 ^ e * 2
double e = pow-add 2 e 1

-- w has from 24 to 52 binary digits, and 2 ^ i is its highest one
pub at_least_23 : (w i : ℕ) → 8388608 ≤ w → w < 2 * 2 ^ i → 23 ≤ i
at_least_23 w i h k = less (pow_lt_back 23 (i + 1) (omega (arith, double i)))
  where
    less : 23 < i + 1 → 23 ≤ i
    less g = omega arith

pub below_52 : (w i : ℕ) → 2 ^ i ≤ w → w < 4503599627370496 → i < 52
below_52 w i h k = pow_lt_back i 52 (lt_of_le_of_lt h k)

pub halved : (w i k : ℕ) → i ≡ 23 + k → 2 ^ i ≤ w → w < 2 * 2 ^ i → (8388608 * 2 ^ k ≤ w) × (w < 16777216 * 2 ^ k)
halved w i k e h l = let s : 2 ^ i ≡ 8388608 * 2 ^ k = rw e (pow-add 2 23 k) in (omega arith, omega arith)
