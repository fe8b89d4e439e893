-- `step_back` meets its contract.
use Rattle.log_compare.specs.Entries.{first_of}
use Rattle.log_theory.specs.PairsModel.{Back}
use Rattle.log_theory.proofs.Window.{Tops}
use Rattle.log_compare.proofs.step_back.Given as goal

abbrev pub invariant-loop-k : goal.invariant-loop-k
invariant-loop-k l = Tops (first_of l.records) l.k l.top × Back (first_of l.records) l.k l.back
