-- `put_blanks` meets its contract.
use Prim.Native.Nat.{◌+◌, ◌-◌}
use lib.ListN.{length-replicate}
use Rattle.page.specs.Line.{blanks}
use Rattle.page.proofs.Columns.{blanks_put, byte_behind}
use native.Mathlib.Omega.{arith}
use Rattle.page.proofs.put_blanks.Goals as goal

pub returns : goal.returns
returns c =
    let a = c.args in
    byte_behind a.out.now a.at a.n (blanks a.n) _ 10 (length-replicate a.n 32) c.requires (blanks_put a.out.now a.at a.n (a.at + a.n - a.at) _ c.requires (omega arith) (c.fill.ensures.after (λ y e. e)))
