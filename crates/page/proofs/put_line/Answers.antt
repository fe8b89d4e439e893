-- `put_line` meets its contract.
use mathlib.Core.Path.{refl}
use Rattle.record_check.proofs.Accepting.{in_range}
use Rattle.page.proofs.Fields.{message_short, ends, line_put}
use native.Mathlib.Omega.{arith}
use Rattle.page.proofs.put_line.Goals as goal

pub blanks_behind-blanks-requires : goal.blanks_behind-blanks-requires
blanks_behind-blanks-requires c =
    let r = c.args.rec.now in
    let i = in_range r c.requires.0 in
    let e = ends r i c.args.out.now c.args.at c.requires.1 c.put_numbers.ensures c.message_at-end.ensures.0 in
    let m = message_short r in
    (omega arith, omega arith)

pub overflow_sub-end : goal.overflow_sub-end
overflow_sub-end c =
    let r = c.args.rec.now in
    let i = in_range r c.requires.0 in
    let e = ends r i c.args.out.now c.args.at c.requires.1 c.put_numbers.ensures c.message_at-end.ensures.0 in
    let m = message_short r in
    omega arith

pub put_blanks-requires : goal.put_blanks-requires
put_blanks-requires c =
    let r = c.args.rec.now in
    let i = in_range r c.requires.0 in
    let e = ends r i c.args.out.now c.args.at c.requires.1 c.put_numbers.ensures c.message_at-end.ensures.0 in
    let m = message_short r in
    omega (arith, c.requires.1)

pub returns : goal.returns
returns c =
    let r = c.args.rec.now in
    let i = in_range r c.requires.0 in
    line_put r i c.args.out.now c.args.at c.requires.1 c.put_numbers.ensures c.message_at-end.ensures.0 c.message_at-end.ensures.1 c.put_blanks.ensures c.blanks_behind-blanks.ensures refl
