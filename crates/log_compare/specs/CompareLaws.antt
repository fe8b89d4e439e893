-- What is shown of a log held against records (SPECIFICATION 13.5).
use Rattle.std.specs.Prelude.{Some, None, Ok, Err, ◌≡◌, List, ℕ, ◌≤◌, ◌<◌, length, take, get_or}
use Rattle.refusals.specs.declared.Refusal.{Refusal}
use Rattle.log_theory.specs.Pairing.{Logs, Pair, Pairing, every, shown}
use Rattle.log_theory.specs.Report.{nobody, indices, entry_of, entries_from, unnamed, In, left}
use Rattle.log_theory.specs.PairingLaws.{Earliest, pairs}
use Rattle.log_compare.specs.Entries.{logs}
use Rattle.log_compare.specs.LogChecks.{compare_refusal}
use Rattle.log_compare.specs.Comparison.{Comparison, compared_of}
use Rattle.log_compare.specs.declared.Counts.{Counts}

-- of a log and records that are accepted; `nobody` is above every index of a slice, so its condition asks nothing of a caller
pub record Reported (L : Logs) (c : Comparison) : Type 0 where
  pub counts : Counts
  pub answer : c.answer ≡ Ok counts
  -- the lists are those of one pairing: every pair is allowed, and each entry and each record is used once
  pub partners : c.partners ≡ indices (shown L)
  pub owners : c.owners ≡ entries_from (pairs L) L.sent 0
  pub pairing : Pairing L (pairs L)
  pub entry_paired : (j i : ℕ) → entry_of (pairs L) j ≡ Some i → In (record { entry = i; reply = j }) (pairs L)
  pub pair_entered : (x : Pair) → In x (pairs L) → entry_of (pairs L) x.reply ≡ Some x.entry
  -- no pairing allowed by the rule has more pairs
  pub largest : (ps : List Pair) → Pairing L ps → length ps ≤ counts.pairs
  -- each entry, in log order, has the earliest record still free and allowed
  pub earliest_free : (i : ℕ) → i < L.heard → Earliest L (left every (take i (shown L))) i L.sent (get_or (shown L) i None)
  -- the counts are those of the lists: the pairs, and how many numbers name nobody
  pub pairs_counted : counts.pairs ≡ length (pairs L)
  pub unheard_counted : L.heard ≤ nobody → counts.unheard ≡ unnamed c.owners
  pub unsent_counted : L.sent ≤ nobody → counts.unsent ≡ unnamed c.partners

pub record CompareLaws (log records : List ℕ) (tolerance : ℕ) (partners owners : List ℕ) : Type 0 where
  pub reports : compare_refusal log records (length partners) (length owners) ≡ None → Reported (logs log records tolerance) (compared_of log records tolerance partners owners)
  pub refuses : (q : Refusal) → compare_refusal log records (length partners) (length owners) ≡ Some q → compared_of log records tolerance partners owners ≡ record { answer = Err q; partners = partners; owners = owners }
