-- What each read of a number answers.
use Rattle.std.specs.Prelude.{Option, Some, None}
use Rattle.std.specs.Prelude.{ℕ, List}
use Rattle.le_read.specs.LeBytes.{read_at}

abbrev pub read_u16 : List ℕ → ℕ → (Option ℕ)
read_u16 = read_at 2 Some None

abbrev pub read_u32 : List ℕ → ℕ → (Option ℕ)
read_u32 = read_at 4 Some None

abbrev pub read_u64 : List ℕ → ℕ → (Option ℕ)
read_u64 = read_at 8 Some None
