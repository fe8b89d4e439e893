-- `put_lines` meets its contract: the invariant is `Going`.
use Rattle.tape_text.proofs.Lines.{Going}
use Rattle.tape_text.proofs.put_lines.Given as goal

abbrev pub invariant-loop-k : goal.invariant-loop-k
invariant-loop-k l = Going l.records l.initial.out l.at l.out l.end l.k
