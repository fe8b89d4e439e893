-- The goals of put_one.
use Rattle.std.proofs.Common.{ℕ, ◌*◌, refl, sym, ap, ◌∙◌}
use Rattle.std.proofs.Math.ListN.{set}
use lib.Ieee.{Float}
use Rattle.block_values.proofs.Lanes.{in_bank, lane_in}
use Rattle.block_values.proofs.put_one.Goals as goal

pub one_value-requires : goal.one_value-requires
one_value-requires c = (
  c.requires.bank ∙ ap (λ (n : ℕ). n * 7) (sym c.branches.ensures.0),
  c.branches.ensures.2,
  in_bank c.args.b.setting _ _ _ c.branches.ensures.0 (c.requires.found c.args.i c.requires.room.0).0,
)

pub returns : goal.returns
returns c =
    ap (λ (v : Float). set c.args.values.now c.args.i v)
    (c.one_value.ensures ∙ lane_in c.args.b.setting c.args.b.prototype.now c.args.b.padded.now c.args.block.now.phases c.args.block.now.indices c.args.b.at.now c.args.b.tau.now c.args.i _ _ _ _ _ c.requires.bank c.branches.ensures.0 c.requires.found c.requires.room.0 refl refl refl refl)
