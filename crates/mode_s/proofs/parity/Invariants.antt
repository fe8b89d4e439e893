-- `parity` meets its contract. The loop's invariant: going on from here over the bytes left gives the parity of all.
use mathlib.Core.Path.{◌≡◌}
use Prim.Native.Nat.{◌<◌}
use lib.ListN.{drop}
use Rattle.mode_s.specs.Parity.{parity_of}
use Rattle.mode_s.proofs.ByTable.{onward}
use Rattle.mode_s.proofs.parity.Given as goal

abbrev pub invariant-loop-b : goal.invariant-loop-b
invariant-loop-b l = (l.c < 0x1000000) × (onward l.c (drop l.b-index l.bytes) ≡ parity_of l.bytes)
