-- `put_hex` meets its contract: after k steps the first k bytes are there in hexadecimal.
use mathlib.Core.Path.{◌≡◌}
use lib.ListN.{length, take}
use Rattle.le_read.specs.LeBytes.{overwritten}
use Rattle.tape_text.specs.Text.{hex}
use Rattle.tape_text.proofs.put_hex.Given as goal

abbrev pub invariant-loop-k : goal.invariant-loop-k
invariant-loop-k l = (length l.out ≡ length l.initial.out) × (l.out ≡ overwritten l.initial.out l.at (hex (take l.k l.bytes)))
