-- `floats` meets its contract: after k steps the first k values are there.
use mathlib.Core.Path.{◌≡◌}
use mathlib.Core.List.{◌++◌}
use lib.ListN.{drop}
use Rattle.tape_sections.specs.Floats.{floats_of}
use Rattle.tape_sections.proofs.floats.Given as goal

abbrev pub invariant-loop-k : goal.invariant-loop-k
invariant-loop-k l = l.out ≡ floats_of l.k l.bytes ++ drop l.k l.initial.out
