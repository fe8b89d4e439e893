-- `message` meets its contract.
use Prim.Native.Nat.{◌<◌}
use Rattle.test_pulses.proofs.message.Given as goal

abbrev pub invariant-loop-b : goal.invariant-loop-b
invariant-loop-b l = l.s < 2147483648
