-- `add_stretch` meets its contract.
use Rattle.std.proofs.Common.{rules, List, ◌+◌, ◌-◌, ◌*◌, take, drop, get_or, refl, ap, ◌∙◌}
use lib.Ieee.{Float, nan}
use Rattle.block_rotate.specs.BlockModel.{zipped, added_line}
use Rattle.block_rotate.proofs.Stretches.{added_is, zipped_more, line_more, line_end}
use Rattle.block_rotate.proofs.add_stretch.Goals as goal

pub loop-i-preserved : goal.loop-i-preserved
loop-i-preserved c =
    let a = c.args in
    let l = c.loop-i in
    let i = l.i in
    let re = get_or a.samples.now.re i nan in
    let im = get_or a.samples.now.im i nan in
    let zs = zipped a.samples.now.re a.samples.now.im in (
      ap (λ (m : List Float). added_line m (a.slot + (i + 1 - a.from)) (take (a.to - (i + 1)) (drop (i + 1) zs)))
          (added_is l.memory (a.slot + (i - a.from)) (2 * (a.slot + (i - a.from))) re im refl)
          ∙ line_more l.memory a.slot a.from a.to i zs _ l.invariant.0 (record { re = re; im = im }) (search rules) (search rules)
          (zipped_more a.samples.now.re a.samples.now.im i (search rules) (search rules)),
      search rules,
    )

pub returns : goal.returns
returns c =
    let a = c.args in
    let l = c.loop-i in
    (line_end l.memory a.slot a.from a.to l.i (zipped a.samples.now.re a.samples.now.im) _ l.invariant.0 (search rules), l.invariant.1)
