-- The loop of find_places.
use Rattle.std.proofs.Common.{◌≡◌, ◌≤◌, length}
use Rattle.constants.specs.Setting.{per_pulse}
use Rattle.block_values.specs.BlockValuesModel.{EachPlaced}
use Rattle.block_values.proofs.find_places.Given as goal

abbrev pub invariant-loop-i : goal.invariant-loop-i
invariant-loop-i l = record {
  all_places : length l.at ≡ 32;
  all_rests : length l.rest ≡ 32;
  few : l.wrong ≤ l.i;
  right : l.wrong ≡ 0 → EachPlaced (per_pulse l.setting) l.phases l.at l.rest l.i;
}
