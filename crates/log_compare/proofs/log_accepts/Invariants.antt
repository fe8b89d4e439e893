-- `log_accepts` meets its contract.
use mathlib.Core.Path.{◌≡◌}
use Prim.Native.Nat.{◌-◌, ◌/◌}
use lib.ListN.{length}
use Rattle.log_compare.specs.LogChecks.{accepted_from, log_accepted}
use Rattle.log_compare.proofs.log_accepts.Given as goal

abbrev pub invariant-loop-k : goal.invariant-loop-k
invariant-loop-k l = accepted_from l.log (length l.log / 23 - l.k) l.k ≡ log_accepted l.log
