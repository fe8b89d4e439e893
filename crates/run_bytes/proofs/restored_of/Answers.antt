-- `restored_of` meets its contract: there is room for a rack.
use mathlib.Core.Path.{sym, ◌∙◌}
use Rattle.constants.specs.Setting.{setting_from}
use lib.ListN.{get_or}
use Rattle.run_bytes.specs.Reading.{is_racked}
use Rattle.run_bytes.proofs.Lengths.{rack_inside}
use Rattle.run_bytes.proofs.restored_of.Goals as goal

pub rack_at-requires : goal.rack_at-requires
rack_at-requires c = rack_inside (setting_from (get_or c.args.head 29 0)) (is_racked c.args.head) _ _ (sym c.is_racked.ensures ∙ c.if-is_racked.true) c.requires.0 c.requires.1
