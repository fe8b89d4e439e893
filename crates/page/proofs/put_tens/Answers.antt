-- `put_tens` meets its contract: the invariant is `Going`.
use Prim.Native.Nat.{◌-◌}
use Rattle.page.proofs.Columns as columns
use native.Mathlib.Omega.{arith}
use Rattle.page.proofs.put_tens.Goals as goal

pub loop-i-init : goal.loop-i-init
loop-i-init c = let a = c.args in columns.at_last a.n a.width a.out.now a.at _ (omega arith)

pub loop-i-preserved : goal.loop-i-preserved
loop-i-preserved c =
    let a = c.args in
    let l = c.loop-i in
    columns.one_less a.n a.width a.out.now a.at l.out (a.width - l.i) l.rest c.requires (omega arith) l.invariant c.tens_digit.ensures (omega arith) (omega arith)

pub returns : goal.returns
returns c =
    let a = c.args in
    let l = c.loop-i in
    columns.at_first a.n a.width a.out.now a.at l.out (a.width - l.i) l.rest (omega arith) l.invariant
