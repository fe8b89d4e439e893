-- The goals of by_fours.
use Rattle.std.proofs.Common.{refl, ◌∙◌, rules, arith}
use Rattle.constants.specs.Setting.{per_pulse}
use Rattle.block_values.proofs.Written.{none_yet, one_written, four_written, all_written}
use Rattle.block_values.proofs.by_fours.Goals as goal

pub loop-i-init : goal.loop-i-init
loop-i-init c = record { within = omega arith; so_far = none_yet _ _ }

pub loop-i-preserved-then-alike : goal.loop-i-preserved-then-alike
loop-i-preserved-then-alike c =
    let m = c.min-n.ensures in
    let q = c.alike.ensures c.if-alike.true in
    record {
      within = q.0;
      so_far = c.put_four.ensures ∙ four_written (per_pulse c.args.b.setting) c.args.b.prototype.now c.args.b.padded.now c.args.block.now.phases c.args.block.now.indices c.args.values.now (search rules) (search rules) c.loop-i.i c.loop-i.values (omega (arith, q.0)) (omega (arith, q.0)) c.loop-i.invariant.so_far;
    }

pub loop-i-preserved : goal.loop-i-preserved
loop-i-preserved c =
    let m = c.min-n.ensures in
    record {
      within = omega arith;
      so_far = c.put_one.ensures ∙ one_written (per_pulse c.args.b.setting) c.args.b.prototype.now c.args.b.padded.now c.args.block.now.phases c.args.block.now.indices c.args.values.now (search rules) (search rules) c.loop-i.i c.loop-i.values _ (omega arith) (omega arith) c.loop-i.invariant.so_far refl;
    }

pub returns : goal.returns
returns c = all_written (per_pulse c.args.b.setting) c.args.b.prototype.now c.args.b.padded.now c.args.block.now.phases c.args.block.now.indices c.args.values.now (search rules) (search rules) c.loop-i.i c.min-n.result c.loop-i.values c.loop-i.invariant.so_far (search rules) c.loop-i.invariant.within c.loop-i-test.false
