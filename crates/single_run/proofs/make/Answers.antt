-- `make` meets its contract.
use Rattle.reply_add.specs.Signal.{samples_of}
use Rattle.single_run.proofs.Joined.{made}
use Rattle.single_run.proofs.make.Goals as goal

pub returns : goal.returns
unfolding samples_of
returns c =
    let a = c.args in
    made a.state a.prototypes.mode_s.now a.prototypes.mode_ac.now a.draw.now a.noise.now a.output.now _ _ _ _ _ _ c.pending-pending.ensures c.byte_at-kind.ensures c.number-amplitude.ensures c.picks.ensures c.completed.ensures c.stretch.ensures
