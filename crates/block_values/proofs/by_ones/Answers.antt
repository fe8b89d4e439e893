-- The goals of by_ones.
use Rattle.std.proofs.Common.{List, get_or, ap, ◌∙◌, rules, arith}
use lib.Ieee.{Float}
use Rattle.constants.specs.Setting.{per_pulse}
use Rattle.filterbank.specs.PaddedPulsesModel.{padded_sum}
use Rattle.block_values.proofs.Written.{none_yet, one_written, all_written}
use Rattle.block_values.proofs.by_ones.Goals as goal

pub loop-i-init : goal.loop-i-init
loop-i-init c = none_yet _ _

pub loop-i-preserved : goal.loop-i-preserved
loop-i-preserved c =
    let m = c.min-i-end.ensures in
    one_written (per_pulse c.args.setting) c.args.p.now c.args.padded.now c.args.block.now.phases c.args.block.now.indices c.args.values.now (search rules) (search rules) c.loop-i.i c.loop-i.values _ (omega arith) (omega arith) c.loop-i.invariant
    (c.pulse_sum.ensures ∙ ap (λ (t : List Float). padded_sum t c.args.padded.now (get_or c.args.block.now.indices c.loop-i.i 0)) c.filter_taps-taps.ensures)

pub returns : goal.returns
returns c = all_written (per_pulse c.args.setting) c.args.p.now c.args.padded.now c.args.block.now.phases c.args.block.now.indices c.args.values.now (search rules) (search rules) c.loop-i.i c.min-i-end.result c.loop-i.values c.loop-i.invariant (search rules) (omega arith) (omega arith)
