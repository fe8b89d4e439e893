-- `digest` meets its contract.
use Prim.Native.Nat.{◌<◌}
use Rattle.test_pulses.proofs.digest.Given as goal

abbrev pub invariant-loop-on : goal.invariant-loop-on
invariant-loop-on l = l.g < 4294967291
