-- `digest_mode_s` meets its contract.
use Prim.Native.Nat.{◌<◌}
use Rattle.test_pulses.proofs.digest_mode_s.Given as goal

abbrev pub invariant-loop-seed : goal.invariant-loop-seed
invariant-loop-seed l = l.h < 4294967291
