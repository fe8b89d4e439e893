-- The pairing as the code makes it: two lists of indices and a count, changed entry by entry.
use Rattle.std.specs.Prelude.{Option, Some, None, Bool, false, ◌⊎◌, ◌≡◌, List, ℕ, zero, suc, ◌+◌, ◌≤◌, ◌<◌, eqb, get_or, set, replicate}
use Rattle.log_theory.specs.Pairing.{Logs, earliest}
use Rattle.log_theory.specs.Report.{nobody, Lists}

-- records with no partner yet
abbrev pub free_in : List ℕ → ℕ → Bool
free_in owners j = eqb (get_or owners j nobody) nobody

-- a partner's index is below n
abbrev pub Below : ℕ → Option ℕ → Type 0
Below n None = Unit {0}
Below n (Some g) = g < n

abbrev pub paired : Lists → ℕ → Option ℕ → Lists
paired s i None = s
paired s i (Some g) = record { partners = set s.partners i g; owners = set s.owners g i; pairs = s.pairs + 1 }

-- l entries are left, from i on
unfoldable pub pair_up : Logs → ℕ → ℕ → Lists → Lists
pair_up L zero i s = s
pair_up L (suc l) i s = pair_up L l (i + 1) (paired s i (earliest L (free_in s.owners) i))

-- lists of n entries and m records that name nobody
abbrev pub blank : ℕ → ℕ → Lists
blank n m = record { partners = replicate n nobody; owners = replicate m nobody; pairs = 0 }

-- a record's first sample is at most `back` below that of any record before it
pub record Back (first : ℕ → ℕ) (n back : ℕ) : Type 0 where
  pub steps : (j k : ℕ) → j ≤ k → k < n → first j ≤ first k + back

-- the records before lo are taken, or too early for an entry at sample h
pub record Past (first : ℕ → ℕ) (d : ℕ) (F : ℕ → Bool) (h lo : ℕ) : Type 0 where
  pub gone : (k : ℕ) → k < lo → (F k ≡ false) ⊎ (first k + d < h)
