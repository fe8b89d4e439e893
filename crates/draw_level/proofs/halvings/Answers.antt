-- `halvings` meets its contract.
use Prim.Native.Nat.{◌-◌, ◌*◌, ◌^◌, ◌≤◌, ◌<◌}
use native.Mathlib.Omega.{arith}
use Rattle.draw_level.proofs.Powers.{at_least_23, below_52, halved}
use Rattle.draw_level.proofs.halvings.Goals as goal

pub overflow_sub-result : goal.overflow_sub-result
overflow_sub-result c = omega (arith, at_least_23 c.args.w c.ilog2.result (omega arith) c.ilog2.ensures.next_power_gt)

pub returns : goal.returns
returns c =
    let w = c.args.w in
    let i = c.from.result in
    let reached : 2 ^ i ≤ w = rw c.from.ensures c.ilog2.ensures.power_le in
    let next : w < 2 * 2 ^ i = rw c.from.ensures c.ilog2.ensures.next_power_gt in
    let h = halved w i (i - 23) (omega (arith, at_least_23 w i (omega arith) next)) reached next in
    (omega (arith, below_52 w i reached (omega arith)), h.0, h.1)
