-- `steps` meets its contract: at each step the rest of the call is the whole call (`Going`), and what the step gave says which of three ways it goes on.
use lib.ListN.{length}
use Rattle.run_call.proofs.Going.{Going, steps_left}
use Rattle.run_call.proofs.steps.Given as goal

abbrev pub invariant-loop-t : goal.invariant-loop-t
invariant-loop-t l =
    Going l.s l.prototypes.mode_s.now l.prototypes.mode_ac.now l.initial.memory l.draws l.noise l.initial.output l.initial.records l.memory l.output l.records l.t l.rest

abbrev pub decreases-loop-t : goal.decreases-loop-t
decreases-loop-t l =
    steps_left (length l.rest) (length l.output) l.t
