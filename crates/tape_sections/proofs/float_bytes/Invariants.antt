-- `float_bytes` meets its contract: after k steps the bytes of the first k values are there.
use mathlib.Core.Path.{◌≡◌}
use lib.ListN.{take}
use Rattle.le_read.specs.LeBytes.{overwritten}
use Rattle.tape_sections.specs.Floats.{float_bytes}
use Rattle.tape_sections.proofs.float_bytes.Given as goal

abbrev pub invariant-loop-k : goal.invariant-loop-k
invariant-loop-k l = l.out ≡ overwritten l.initial.out 0 (float_bytes (take l.k l.values))
