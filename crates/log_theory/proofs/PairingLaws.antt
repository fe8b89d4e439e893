-- What is shown of the pairing holds.
use Rattle.std.specs.Prelude.{None}
use mathlib.Core.Path.{◌≡◌, subst}
use mathlib.Core.Bool.{Bool}
use Prim.Native.Nat.{ℕ, zero, suc, ◌+◌, ◌<◌}
use native.Mathlib.Omega.{arith}
use lib.ListN.{take, get_or}
use Rattle.log_theory.specs.Pairing.{Logs, earliest, taking, greedy, every, shown}
use Rattle.log_theory.specs.Report.{left}
use Rattle.log_theory.specs.PairingLaws.{Earliest, pairs, PairingLaws}
use Rattle.log_theory.proofs.Picks.{found}
use Rattle.log_theory.proofs.Lists.{shown_pairs, no_more}
use Rattle.log_theory.proofs.Unnamed.{records_unnamed, entries_unnamed}
use Rattle.log_theory.proofs.Counts.{sent_counted, heard_counted, entry_in, in_entry}

module _ (L : Logs) where
  earliest_at : (F : ℕ → Bool) (l i k : ℕ) → k < l → Earliest L (left F (take k (greedy L F l i))) (i + k) L.sent (get_or (greedy L F l i) k None)
  earliest_at F zero i k h = absurd (omega arith)
  earliest_at F (suc l) i zero h =
      let p : i ≡ i + 0 = omega arith in
      subst (λ (x : ℕ). Earliest L F x L.sent (earliest L F i)) p (found L F i)
  earliest_at F (suc l) i (suc k) h =
      let p : suc i + k ≡ i + suc k = omega arith in
      let G = taking (earliest L F i) F in
      subst (λ (x : ℕ). Earliest L (left G (take k (greedy L G l (suc i)))) x L.sent (get_or (greedy L G l (suc i)) k None)) p (earliest_at G l (suc i) k (omega arith))

  to_zero : (i : ℕ) → 0 + i ≡ i
  to_zero i = omega arith

  pub pairing_laws : PairingLaws L
  pairing_laws = record {
    pairing = shown_pairs L;
    largest = no_more L;
    earliest_free = λ i h. subst (λ (x : ℕ). Earliest L (left every (take i (shown L))) x L.sent (get_or (shown L) i None)) (to_zero i) (earliest_at every L.heard 0 i h);
    records_counted = sent_counted L;
    entries_counted = heard_counted L;
    records_unnamed = records_unnamed L;
    entries_unnamed = entries_unnamed L;
    entry_paired = λ j i e. entry_in (pairs L) j i e;
    pair_entered = λ x e. in_entry (pairs L) x (shown_pairs L).once e;
  }
