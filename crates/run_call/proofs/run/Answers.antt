-- `run` meets its contract: the checks in order, each the plain bench's, then `steps`.
-- the lengths are right
use mathlib.Core.Path.{sym, ◌∙◌}
use Rattle.run_call.proofs.Refusing.{not_refused}
use Rattle.run_call.proofs.run.Goals as goal

pub returns : goal.returns
returns c =
    let a = c.args in
    not_refused a.s a.prototypes.mode_s.now a.prototypes.mode_ac.now a.memory.now a.draws.now a.noise.now a.output.now a.records.now (sym c.lengths_wrong.ensures ∙ c.if-lengths_wrong.false) _ c.check_draws-fault.ensures c.in_default.is _ c.check_noise.ensures c.in_default-check_noise.is _ c.steps.ensures
