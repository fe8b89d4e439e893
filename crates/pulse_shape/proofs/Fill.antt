-- An array whose value at each index k is f k holds the values of f.
use Rattle.std.proofs.Common.{◌≡◌, ◌∷◌, ℕ, zero, suc, ◌+◌, ◌<◌, List, map, length, get_or, refl, ap, ◌∙◌}
use Rattle.std.specs.List.{range_with_len}
use Rattle.std.proofs.lemmas.List.FromFn.{fill_by_all}
use lib.Ieee.{Float, nan}
use Rattle.pulse_shape.specs.Values.{values_from, values}

mapped : (f : ℕ → Float) (n k : ℕ) → map f (range_with_len k n) ≡ values_from f n k
unfolding values_from
mapped f zero k = refl
mapped f (suc n) k = ap (λ (l : List Float). f k ∷ l) (mapped f n (k + 1))

pub filled : (f : ℕ → Float) (xs : List Float) (n : ℕ) → length xs ≡ n → ((k : ℕ) → k < n → get_or xs k nan ≡ f k) → xs ≡ values f n
filled f xs n l h = fill_by_all f xs n nan l h ∙ mapped f n 0
