-- `Search::earliest` meets its contract.
use Rattle.log_compare.specs.Held.{logs_of}
use Rattle.log_theory.specs.PairingLaws.{Earliest}
use Rattle.log_theory.specs.PairsModel.{free_in}
use Rattle.log_compare.proofs.Search.earliest.Given as goal

abbrev pub invariant-loop-j : goal.invariant-loop-j
invariant-loop-j l = Earliest (logs_of l.self.heard) (free_in l.self.owners.now) l.i l.j l.best
