-- `pair_each` meets its contract.
use mathlib.Core.Path.{◌≡◌}
use Prim.Native.Nat.{◌-◌, ◌/◌, ◌≤◌}
use lib.ListN.{length}
use Rattle.log_compare.specs.Entries.{first_of}
use Rattle.log_compare.specs.Held.{logs_of}
use Rattle.log_theory.specs.PairsModel.{free_in, pair_up, Past}
use Rattle.log_compare.proofs.pair_each.Given as goal

abbrev pub invariant-loop-i : goal.invariant-loop-i
invariant-loop-i l =
    record {
      partners_kept : length l.partners ≡ length l.initial.partners;
      owners_kept : length l.owners ≡ length l.initial.owners;
      few : l.pairs ≤ l.i;
      marked : l.lo ≤ length l.owners;
      past : Past (first_of l.heard.records.now) l.heard.tolerance (free_in l.owners) l.previous l.lo;
      same : pair_up (logs_of l.heard) (length l.heard.log.now / 23 - l.i) l.i (record { partners = l.partners; owners = l.owners; pairs = l.pairs }) ≡ pair_up (logs_of l.heard) (length l.heard.log.now / 23) 0 (record { partners = l.initial.partners; owners = l.initial.owners; pairs = 0 });
    }
