-- Where a conversion loses nothing: a pattern that is no NaN's comes back from the value it stands for (`bits_back`), and an integer of size at most 2 ^ 53 is the value of its float (`whole-value`).
use Rattle.std.proofs.Common.{◌≡◌, ℕ, suc, ◌*◌, ◌^◌, ◌<◌, ◌≤◌, Bool, true, false, not, T, pos, negsuc, refl, subst}
use lib.Ieee.{nan, Format, binary32, binary64, of_bits, to_bits, nan_bits, top, of_int}
use lib.Ieee.Back.{round_whole}
use lib.Ieee.Bits.{nan_bits_is, to_bits-of_bits}
use lib.Ieee.Exact.{HasValue}

pub bits_back : (f : Format) (n : ℕ) → n < 2 * top f → T (not (nan_bits f n)) → to_bits f (of_bits f n) ≡ n
bits_back f n h N = to_bits-of_bits f n h (subst (λ (b : Bool). T (not b)) (nan_bits_is f n) N)

pub nan_bits_lem : (to_bits binary64 nan ≡ 0x7ff8_0000_0000_0000) × (to_bits binary32 nan ≡ 0x7fc0_0000)
unfolding to_bits
nan_bits_lem = (refl, refl)

-- `std::num::nearest_u64_to_f64` and `nearest_i64_to_f64` give these floats
pub whole_value : (n : ℕ) → n ≤ 2 ^ 53 → HasValue (of_int binary64 (pos n)) false n 1
unfolding of_int
whole_value n h = round_whole binary64 false n h

pub negative_value : (n : ℕ) → suc n ≤ 2 ^ 53 → HasValue (of_int binary64 (negsuc n)) true (suc n) 1
unfolding of_int
negative_value n h = round_whole binary64 true (suc n) h
