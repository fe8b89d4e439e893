-- `sums_of` meets its contract: the sums go on over the bytes that are left, and each byte adds 255 at most to the first.
use mathlib.Core.Path.{◌≡◌}
use Prim.Native.Nat.{◌*◌, ◌≤◌}
use lib.ListN.{drop}
use Rattle.run_bytes.specs.Sums.{sums_from}
use Rattle.run_bytes.proofs.sums_of.Given as goal

abbrev pub invariant-loop-k : goal.invariant-loop-k
invariant-loop-k l = (sums_from l.sum l.sum_of_sums (drop l.k l.bytes) ≡ sums_from 0 0 l.bytes) × ((l.sum ≤ 255 * l.k) × (l.sum_of_sums ≤ 33423360 * l.k))
