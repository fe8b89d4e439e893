-- How an answer about a duration crosses to the Rust, as a number.
use Rattle.std.specs.Prelude.{ℕ, Result, Ok, Err}
use Rattle.refusals.specs.declared.Refusal.{Refusal}

-- samples as they are, a refusal as a number that none of them is
unfoldable pub samples_number : (Result ℕ Refusal) → ℕ
samples_number (Ok n) = n
samples_number (Err q) = 0xffff_ffff_ffff_ffff
