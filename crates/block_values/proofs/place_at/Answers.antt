-- The goals of place_at.
use Rattle.std.proofs.Common.{rules}
use Rattle.block_values.proofs.Guess.{sum_number, rest_number, placed}
use Rattle.block_values.proofs.place_at.Goals as goal

pub guessed-branch-requires : goal.guessed-branch-requires
guessed-branch-requires c = sum_number c.args.setting c.args.phase c.args.scale (search rules) c.requires.1 c.requires.0

pub outside_unit-requires : goal.outside_unit-requires
outside_unit-requires c = rest_number c.args.setting c.args.phase c.args.scale _ _ (search rules) c.requires.1 c.requires.0 c.guessed-branch.ensures c.as_float.ensures

pub returns : goal.returns
returns c =
    (c.outside_unit.ensures.0, λ e. placed c.args.setting c.args.phase c.args.scale _ _ (search rules) c.requires.1 c.requires.0 c.guessed-branch.ensures c.as_float.ensures (c.outside_unit.ensures.1 e))
