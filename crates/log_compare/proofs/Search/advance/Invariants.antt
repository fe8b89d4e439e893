-- `Search::advance` meets its contract.
use Rattle.log_compare.specs.Entries.{first_of}
use Rattle.log_theory.specs.PairsModel.{free_in, Past}
use Rattle.log_compare.proofs.Search.advance.Given as goal

abbrev pub invariant-loop-k : goal.invariant-loop-k
invariant-loop-k l = Past (first_of l.self.heard.records.now) l.self.heard.tolerance (free_in l.self.owners.now) l.h l.k
