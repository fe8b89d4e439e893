-- `read_taps` meets its contract: what stands behind the taps of the setting is not read.
use borrow.Author.Rules.{rules}
use mathlib.Core.Path.{ap, ◌∙◌}
use lib.ListN.{length}
use lib.Seq.{take_at}
use Rattle.constants.specs.Setting.{per_pulse}
use Rattle.tape_head.proofs.Sections.{taps_read, taps_length}
use Rattle.tape_head.proofs.read_taps.Goals as goal

pub returns : goal.returns
returns c =
    let read = taps_read (per_pulse c.args.setting) c.args.tape.now _ c.requires (search rules) c.floats.ensures.0 c.floats.ensures.1 in
    take_at c.floats.new.out _ _ (ap length read ∙ taps_length (per_pulse c.args.setting) c.args.tape.now) ∙ read
