-- `check_draws` meets its contract.
use Rattle.tape_head.proofs.Sections.{draw_refused}
use Rattle.tape_head.proofs.check_draws.Goals as goal

pub returns-in-Some : goal.returns-in-Some
returns-in-Some c = draw_refused c.args.tape.now c.args.state c.args.n c.draws_count_offset-at.ensures.0 c.first_fault.ensures _ _ c.in-Some.is
