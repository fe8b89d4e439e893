-- What is added from here on makes the whole stretch.
use Rattle.std.proofs.Common.{◌≡◌, ◌+◌, ◌-◌, length, take, drop}
use Rattle.block_rotate.specs.BlockModel.{zipped, added_line}
use Rattle.block_rotate.proofs.add_stretch.Given as goal

abbrev pub invariant-loop-i : goal.invariant-loop-i
invariant-loop-i l =
    (added_line l.memory (l.slot + (l.i - l.from)) (take (l.to - l.i) (drop l.i (zipped l.samples.re l.samples.im))) ≡ added_line l.initial.memory l.slot (take (l.to - l.from) (drop l.from (zipped l.samples.re l.samples.im))))
    × (length l.memory ≡ length l.initial.memory)
