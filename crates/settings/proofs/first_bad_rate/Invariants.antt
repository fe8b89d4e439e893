-- `first_bad_rate` meets its contract: what the search finds from here on is what it finds from the start.
use Prim.Native.Nat.{◌≤◌}
use mathlib.Core.Path.{◌≡◌}
use lib.ListN.{drop}
use Rattle.settings.specs.Settings.{rates_of}
use Rattle.settings.specs.Accepted.{first_bad_rate}
use Rattle.settings.proofs.first_bad_rate.Given as goal

abbrev pub invariant-loop-k : goal.invariant-loop-k
invariant-loop-k l = (l.k ≤ 7) × (first_bad_rate l.k (drop l.k (rates_of l.rates)) ≡ first_bad_rate 0 (rates_of l.rates))
