-- `words_at` meets its contract: after k steps the first k words are there.
use mathlib.Core.Path.{◌≡◌}
use mathlib.Core.List.{◌++◌}
use lib.ListN.{drop}
use Rattle.run_bytes.specs.Reading.{words_at}
use Rattle.run_bytes.proofs.words_at.Given as goal

abbrev pub invariant-loop-k : goal.invariant-loop-k
invariant-loop-k l = l.out ≡ words_at l.k l.bytes l.at ++ drop l.k l.initial.out
