-- The records from k on decide as all do.
use Prim.Native.Nat.{◌-◌, ◌/◌}
use mathlib.Core.Path.{◌≡◌}
use lib.ListN.{length}
use Rattle.record_check.specs.FirstFault.{fault_from, first_fault}
use Rattle.record_check.specs.FaultLaws.{record_at}
use Rattle.record_check.proofs.first_fault.Given as goal

abbrev pub invariant-loop-k : goal.invariant-loop-k
invariant-loop-k l = fault_from (length l.records / 66 - l.k) (record_at l.records l.k) l.k ≡ first_fault l.records
