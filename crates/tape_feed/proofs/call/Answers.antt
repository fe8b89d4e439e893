-- `call` meets its contract.
use Rattle.tape_feed.proofs.Parts.{called}
use Rattle.tape_feed.proofs.call.Goals as goal

pub returns : goal.returns
returns c = let a = c.args in called a.f a.prototypes.mode_s.now a.prototypes.mode_ac.now a.memory.now a.draws.now a.noise.now a.output.now a.records.now c.place-a.ensures c.place-b.ensures c.run-r.ensures c.after.ensures
