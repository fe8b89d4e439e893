-- The check of a stored run (SPECIFICATION 16.2): the sum of its bytes, and the sum of the sums of each first part.
use Rattle.std.specs.Prelude.{ℕ, ◌+◌, List, [], ◌∷◌}
use Rattle.run_bytes.specs.declared.Sums.{Sums}

-- Both go on over the bytes from what they are so far. They are whole numbers: 131,072 bytes keep both far below 2^64.
unfoldable pub sums_from : ℕ → ℕ → List ℕ → Sums
sums_from sum sum_of_sums [] = record { sum = sum; sum_of_sums = sum_of_sums }
sums_from sum sum_of_sums (b ∷ bs) = sums_from (sum + b) (sum_of_sums + (sum + b)) bs

unfoldable pub sums_of : List ℕ → Sums
sums_of bytes = sums_from 0 0 bytes
