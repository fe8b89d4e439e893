-- `put_number` meets its contract.
use Rattle.page.proofs.Fields.{number_put}
use Rattle.page.proofs.put_number.Goals as goal

pub returns : goal.returns
returns c =
    let a = c.args in
    number_put a.n a.upper a.out.now a.at _ c.requires.0 c.requires.1 c.put_tens.ensures
