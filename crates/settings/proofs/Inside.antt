-- A number whose bytes are all there is the one that they stand for.
use Prim.Native.Nat.{ℕ, ◌+◌, ◌≤◌}
use mathlib.Core.Path.{◌≡◌, refl, sym}
use mathlib.Core.List.{List}
use lib.ListN.{length}
use borrow.Author.Tests.{le-leb}
use Rattle.le_read.specs.LeBytes.{le_at, number_at}
use Rattle.le_read.proofs.Decided.{read_there}

pub number_there : (n : ℕ) (s : List ℕ) (at : ℕ) → at + n ≤ length s → number_at n s at ≡ le_at n s at
number_there n s at h = read_there n s at (sym (le-leb (at + n) (length s) h)) (λ v. v) 0 refl
