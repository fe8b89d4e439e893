-- `write_due` meets its contract: where n more fit, `write_all` writes a part of output.
use Rattle.std.proofs.Common.{arith, rules}
use Rattle.run_call.proofs.BuffersTest.{changed}
use Rattle.run_call.proofs.write_due.Goals as goal

pub returns : goal.returns
returns c =
    let e = c.write_all.ensures in
    changed _ _ _ _ _ _ _ _ c.write_all.new.output _ _ (search rules) (omega arith) (omega arith) (omega arith) (search rules) e.0 e.1
