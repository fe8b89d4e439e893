-- `steps` meets its contract: at the start the rest of the call is the whole call (`Going`), and at a stop it is what is left.
use Rattle.run_call.proofs.Going.{starts, stopped_left}
use Rattle.run_call.proofs.steps.Goals as goal

pub loop-t-init : goal.loop-t-init
loop-t-init c = let a = c.args in starts a.s a.prototypes.mode_s.now a.prototypes.mode_ac.now a.memory.now a.draws.now a.noise.now a.output.now a.records.now _ c.requires c.initial_progress-t.ensures

pub returns-in-StopReached : goal.returns-in-StopReached
returns-in-StopReached c =
    stopped_left c.step-t.result c.step-t.new.memory c.step-t.new.output c.step-t.new.records c.loop-t.invariant c.step-t.ensures c.step-t.auto.memory c.step-t.auto.output c.step-t.auto.records _ _ c.in-StopReached.is c.stopped_at.ensures
