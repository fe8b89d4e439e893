-- What holding a log against records answers, and what it leaves in the two lists (SPECIFICATION 13).
use Rattle.std.specs.Prelude.{Option, Some, None, Result, Ok, Err, List, ℕ, ◌-◌, length}
use Rattle.refusals.specs.declared.Refusal.{Refusal}
use Rattle.log_theory.specs.Pairing.{Logs}
use Rattle.log_theory.specs.Report.{Lists, report_of}
use Rattle.log_compare.specs.Entries.{logs}
use Rattle.log_compare.specs.LogChecks.{compare_refusal}
use Rattle.log_compare.specs.declared.Counts.{Counts}

pub record Comparison : Type 0 where
  pub answer : Result Counts Refusal
  pub partners : List ℕ
  pub owners : List ℕ

unfoldable pub counts_of : Logs → ℕ → Counts
counts_of L n = record { pairs = n; unheard = L.sent - n; unsent = L.heard - n }

-- the report of a pairing
unfoldable pub reported : Logs → Lists → Comparison
reported L r = record { answer = Ok (counts_of L r.pairs); partners = r.partners; owners = r.owners }

-- a refusal leaves both lists as they are
unfoldable pub decided : Logs → List ℕ → List ℕ → Option Refusal → Comparison
decided L partners owners None = reported L (report_of L)
decided L partners owners (Some q) = record { answer = Err q; partners = partners; owners = owners }

unfoldable pub compared_of : List ℕ → List ℕ → ℕ → List ℕ → List ℕ → Comparison
compared_of log records tolerance partners owners = decided (logs log records tolerance) partners owners (compare_refusal log records (length partners) (length owners))
