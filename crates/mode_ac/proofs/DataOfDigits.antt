-- Data and digits are each other's: the digits of data that digits make, and the data that the digits of data below 4096 make.
use mathlib.Core.Path.{◌≡◌}
use Prim.Native.Nat.{ℕ, ◌+◌, ◌*◌, ◌/◌, ◌%◌, ◌<◌}
use native.Mathlib.Nat.{div-div-eq-div-mul}
use native.Mathlib.Omega.{arith}
use Rattle.mode_ac.specs.Data.{data_of, digit_a, digit_b, digit_c, digit_d}

eighth : (n w : ℕ) → n / w ≡ n / (w * 8) * 8 + n / w % 8
eighth n w = let e : n / w / 8 ≡ n / (w * 8) = div-div-eq-div-mul n w 8 in omega arith

join : (n p q r d c b a : ℕ) → n ≡ p * 8 + d → p ≡ q * 8 + c → q ≡ r * 8 + b → r ≡ a → a * 512 + b * 64 + c * 8 + d ≡ n
join n p q r d c b a e f g h = omega arith

pub digits_of_data : (a b c d : ℕ) → a < 8 → b < 8 → c < 8 → d < 8
    → (digit_a (data_of a b c d) ≡ a) × (digit_b (data_of a b c d) ≡ b) × (digit_c (data_of a b c d) ≡ c) × (digit_d (data_of a b c d) ≡ d)
digits_of_data a b c d ha hb hc hd = (omega arith, omega arith, omega arith, omega arith)

pub data_of_digits : (n : ℕ) → n < 4096 → data_of (digit_a n) (digit_b n) (digit_c n) (digit_d n) ≡ n
data_of_digits n h =
    join n (n / 8) (n / 64) (n / 512) (n % 8) (n / 8 % 8) (n / 64 % 8) (n / 512 % 8)
    (omega arith) (eighth n 8) (eighth n 64) (omega arith)
