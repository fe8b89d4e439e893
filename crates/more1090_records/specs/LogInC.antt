-- What holding a log against records answers, as C has it.
use Rattle.std.specs.Prelude.{Result, Ok, Err, List, ℕ}
use Rattle.refusals.specs.Number.{number_of}
use Rattle.refusals.specs.declared.Refusal.{Refusal}
use Rattle.refusals.specs.Flat.{values_flat}
use Rattle.log_compare.specs.Comparison.{Comparison, compared_of}
use Rattle.log_compare.specs.declared.Counts.{Counts}
use Rattle.more1090_records.specs.declared.FlatCompared.{FlatCompared}

-- refusal 0 is none
unfoldable pub flat_of : Result Counts Refusal → FlatCompared
flat_of (Ok n) = record { pairs = n.pairs; unheard = n.unheard; unsent = n.unsent; refusal = 0; value = 0 }
flat_of (Err q) = record { pairs = 0; unheard = 0; unsent = 0; refusal = number_of q; value = (values_flat q).value }

-- and what it leaves in the two lists
pub record FlatComparison : Type 0 where
  pub compared : FlatCompared
  pub partners : List ℕ
  pub owners : List ℕ

unfoldable pub flat_left : Comparison → FlatComparison
flat_left c = record { compared = flat_of c.answer; partners = c.partners; owners = c.owners }

unfoldable pub flat_comparison : List ℕ → List ℕ → ℕ → List ℕ → List ℕ → FlatComparison
flat_comparison log records tolerance partners owners = flat_left (compared_of log records tolerance partners owners)
