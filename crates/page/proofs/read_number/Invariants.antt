-- `read_number` meets its contract: after k columns v is their number, below 10^k.
use Prim.Native.Nat.{◌<◌, ◌^◌}
use mathlib.Core.Path.{◌≡◌}
use lib.ListN.{take}
use Rattle.page.specs.Fields.{read_number}
use Rattle.page.proofs.read_number.Given as goal

abbrev pub invariant-loop-c : goal.invariant-loop-c
invariant-loop-c l = (l.v ≡ read_number (take l.c-index l.columns)) × (l.v < 10 ^ l.c-index)
