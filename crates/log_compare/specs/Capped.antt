-- Numbers kept to 64 bits: a larger one as the largest.
use Rattle.std.specs.Prelude.{ℕ, min}

unfoldable pub capped : ℕ → ℕ
capped n = min n 18446744073709551615
