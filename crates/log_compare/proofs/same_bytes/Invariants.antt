-- `same_bytes` meets its contract.
use mathlib.Core.Path.{◌≡◌}
use Prim.Native.Nat.{◌+◌, ◌-◌}
use Rattle.log_compare.specs.Entries.{same_from}
use Rattle.log_compare.proofs.same_bytes.Given as goal

abbrev pub invariant-loop-k : goal.invariant-loop-k
invariant-loop-k l = same_from (l.n - l.k) l.s (l.a + l.k) l.t (l.b + l.k) ≡ same_from l.n l.s l.a l.t l.b
