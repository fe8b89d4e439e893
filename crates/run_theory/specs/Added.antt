-- Additions counted: a sum of counts, and a number as two halves of 64 bits, the high half first.
use Rattle.std.specs.Prelude.{List, [], ◌∷◌, ℕ, ◌+◌, ◌*◌, ◌/◌, ◌%◌, ◌^◌}

abbrev pub sum_of : List ℕ → ℕ
sum_of [] = 0
sum_of (n ∷ ns) = n + sum_of ns

abbrev pub high_half : ℕ → ℕ
high_half n = n / 2 ^ 64

abbrev pub low_half : ℕ → ℕ
low_half n = n % 2 ^ 64

-- the number that two halves stand for
abbrev pub whole_of : ℕ → ℕ → ℕ
whole_of high low = high * 2 ^ 64 + low
