-- `digest_mode_ac` meets its contract.
use Prim.Native.Nat.{◌<◌}
use Rattle.test_pulses.proofs.digest_mode_ac.Given as goal

abbrev pub invariant-loop-data : goal.invariant-loop-data
invariant-loop-data l = l.h < 4294967291
