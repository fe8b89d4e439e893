-- The full convolution of two lists of f32, in the Rust's order of additions: `convolve_full`.
use Rattle.std.specs.Prelude.{ℕ, zero, suc, ◌+◌, ◌-◌, min, cond, List, length, from_bits, nat_le, slice_index_or, Float}
use Rattle.std.specs.Float.{binary32, nan}
use Rattle.std.specs.Float.Ieee.{add, mul}
use Rattle.pulse_shape.specs.Values.{values}

-- sum, and then a[i] * b[j - i] added for i from k on, n products. No index read is past the end of its list.
unfoldable pub products_from : List Float → List Float → ℕ → ℕ → ℕ → Float → Float
products_from a b j zero k sum = sum
products_from a b j (suc n) k sum = products_from a b j n (k + 1) (add binary32 sum (mul binary32 (slice_index_or a k nan) (slice_index_or b (j - k) nan)))

-- the least i with j - i an index of b, where b has l values
abbrev pub first_term : ℕ → ℕ → ℕ
first_term l j = cond (nat_le l j) (j - l + 1) 0

-- value j of the convolution: from 0.0, the products a[i] * b[j - i] of the indices that both lists have, in the order of i
unfoldable pub convolve_at : List Float → List Float → ℕ → Float
convolve_at a b j =
    let start = first_term (length b) j in
    products_from a b j (min (j + 1) (length a) - start) start (from_bits binary32 0)

unfoldable pub convolve_full : List Float → List Float → List Float
convolve_full a b = values (convolve_at a b) (length a + length b - 1)
