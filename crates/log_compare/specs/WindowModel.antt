-- Where the search for an entry's record ends.
use Rattle.std.specs.Prelude.{Option, Some, None, ℕ, ◌+◌}
use Rattle.log_compare.specs.Capped.{capped}

unfoldable pub limit_of : (ℕ → ℕ) → ℕ → ℕ → Option ℕ → ℕ
limit_of first back latest None = latest
limit_of first back latest (Some g) = capped (first g + back)
