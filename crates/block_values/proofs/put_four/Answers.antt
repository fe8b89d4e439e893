-- The goals of put_four.
use Rattle.std.proofs.Common.{◌≡◌, ℕ, ◌+◌, ◌*◌, List, refl, sym, ap, ◌∙◌, arith}
use Rattle.std.proofs.Math.ListN.{set}
use lib.Ieee.{Float}
use Rattle.block_values.proofs.Lanes.{in_bank, lane_in}
use Rattle.block_values.proofs.put_four.Goals as goal

pub four_values-v-requires : goal.four_values-v-requires
four_values-v-requires c =
    let n = c.branches.ensures.0 in
    let i = c.args.i in (
      c.requires.bank ∙ ap (λ (n : ℕ). n * 7) (sym n),
      c.branches.ensures.2,
      in_bank c.args.b.setting _ _ _ n (c.spots_at-spots.ensures.a0 ∙ (c.requires.found i (omega arith)).0),
      in_bank c.args.b.setting _ _ _ n (c.spots_at-spots.ensures.a1 ∙ (c.requires.found (i + 1) (omega arith)).0),
      in_bank c.args.b.setting _ _ _ n (c.spots_at-spots.ensures.a2 ∙ (c.requires.found (i + 2) (omega arith)).0),
      in_bank c.args.b.setting _ _ _ n (c.spots_at-spots.ensures.a3 ∙ (c.requires.found (i + 3) (omega arith)).0),
    )

written : (values : List Float) (i : ℕ) (v0 v1 v2 v3 w0 w1 w2 w3 : Float) → v0 ≡ w0 → v1 ≡ w1 → v2 ≡ w2 → v3 ≡ w3
    → set (set (set (set values i v0) (i + 1) v1) (i + 2) v2) (i + 3) v3 ≡ set (set (set (set values i w0) (i + 1) w1) (i + 2) w2) (i + 3) w3
written values i v0 v1 v2 v3 w0 w1 w2 w3 e0 e1 e2 e3 = λ j. set (set (set (set values i (e0 j)) (i + 1) (e1 j)) (i + 2) (e2 j)) (i + 3) (e3 j)

pub returns : goal.returns
returns c =
    let n = c.branches.ensures.0 in
    let i = c.args.i in
    written c.args.values.now i _ _ _ _ _ _ _ _
    (c.four_values-v.ensures.v0 ∙ lane_in c.args.b.setting c.args.b.prototype.now c.args.b.padded.now c.args.block.now.phases c.args.block.now.indices c.args.b.at.now c.args.b.tau.now i _ _ _ _ _ c.requires.bank n c.requires.found (omega arith) refl c.spots_at-spots.ensures.a0 c.spots_at-spots.ensures.t0 c.spots_at-spots.ensures.u0)
    (c.four_values-v.ensures.v1 ∙ lane_in c.args.b.setting c.args.b.prototype.now c.args.b.padded.now c.args.block.now.phases c.args.block.now.indices c.args.b.at.now c.args.b.tau.now (i + 1) _ _ _ _ _ c.requires.bank n c.requires.found (omega arith) (sym c.requires.one_index.0) c.spots_at-spots.ensures.a1 c.spots_at-spots.ensures.t1 c.spots_at-spots.ensures.u1)
    (c.four_values-v.ensures.v2 ∙ lane_in c.args.b.setting c.args.b.prototype.now c.args.b.padded.now c.args.block.now.phases c.args.block.now.indices c.args.b.at.now c.args.b.tau.now (i + 2) _ _ _ _ _ c.requires.bank n c.requires.found (omega arith) (sym c.requires.one_index.1) c.spots_at-spots.ensures.a2 c.spots_at-spots.ensures.t2 c.spots_at-spots.ensures.u2)
    (c.four_values-v.ensures.v3 ∙ lane_in c.args.b.setting c.args.b.prototype.now c.args.b.padded.now c.args.block.now.phases c.args.block.now.indices c.args.b.at.now c.args.b.tau.now (i + 3) _ _ _ _ _ c.requires.bank n c.requires.found (omega arith) (sym c.requires.one_index.2) c.spots_at-spots.ensures.a3 c.spots_at-spots.ensures.t3 c.spots_at-spots.ensures.u3)
