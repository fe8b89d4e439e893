-- A list given by its value at each index.
use Rattle.std.specs.Prelude.{ℕ, zero, suc, ◌+◌, List, [], ◌∷◌, Float}

-- f k, f (k + 1) and so on: n values
unfoldable pub values_from : (ℕ → Float) → ℕ → ℕ → List Float
values_from f zero k = []
values_from f (suc n) k = f k ∷ values_from f n (k + 1)

-- f 0 to f (n - 1)
abbrev pub values : (ℕ → Float) → ℕ → List Float
values f n = values_from f n 0
