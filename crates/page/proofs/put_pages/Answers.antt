-- `put_pages` meets its contract.
use Prim.Native.Nat.{◌/◌}
use mathlib.Core.Path.{refl}
use lib.ListN.{length}
use Rattle.page.proofs.Judged.{pages_within}
use Rattle.page.proofs.Filled.{pages_put}
use native.Mathlib.Omega.{arith}
use Rattle.page.proofs.put_pages.Goals as goal

pub put_lines-requires : goal.put_lines-requires
put_lines-requires c =
    let w = pages_within (length c.args.records.now / 66) in
    (c.requires.0, omega (arith, c.requires.1, w.0))

pub overflow_sub-lines : goal.overflow_sub-lines
overflow_sub-lines c =
    let w = pages_within (length c.args.records.now / 66) in
    omega (arith, w.0, c.page_count-lines.ensures)

pub put_blank_lines-requires : goal.put_blank_lines-requires
put_blank_lines-requires c =
    let w = pages_within (length c.args.records.now / 66) in
    omega (arith, c.requires.1, w.0, c.page_count-lines.ensures)

pub returns : goal.returns
returns c =
    pages_put c.args.records.now c.requires.0 c.args.out.now c.requires.1 c.page_count-lines.ensures refl refl c.put_lines.ensures c.put_blank_lines.ensures
