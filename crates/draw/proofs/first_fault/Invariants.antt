-- `first_fault` meets its contract. The loop's invariant: the first fault of the draws from the k-th on is that of all.
use Prim.Native.Nat.{◌*◌, ◌-◌, ◌/◌}
use mathlib.Core.Path.{◌≡◌}
use lib.ListN.{length, drop}
use Rattle.draw.specs.Fault.{fault_from, first_fault}
use Rattle.draw.proofs.first_fault.Given as goal

abbrev pub invariant-loop-k : goal.invariant-loop-k
invariant-loop-k l = fault_from l.rates l.all (length l.draws / 65 - l.k) l.k (drop (l.k * 65) l.draws) ≡ first_fault l.rates l.all l.draws
