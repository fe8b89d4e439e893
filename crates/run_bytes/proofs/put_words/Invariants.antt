-- `put_words` meets its contract: after k steps the first k words are written.
use mathlib.Core.Path.{◌≡◌}
use lib.ListN.{take}
use Rattle.le_read.specs.LeBytes.{overwritten}
use Rattle.run_bytes.specs.Layout.{word_bytes}
use Rattle.run_bytes.proofs.put_words.Given as goal

abbrev pub invariant-loop-k : goal.invariant-loop-k
invariant-loop-k l = l.out ≡ overwritten l.initial.out l.at (word_bytes (take l.k l.words))
