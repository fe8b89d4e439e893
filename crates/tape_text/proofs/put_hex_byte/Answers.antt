-- `put_hex_byte` meets its contract.
use Prim.Native.Nat.{◌+◌}
use Rattle.le_read.proofs.Halves.{overwritten_one}
use borrow.Author.Rules.{rules}
use Rattle.tape_text.proofs.Puts.{hex_byte}
use Rattle.tape_text.proofs.put_hex_byte.Goals as goal

pub returns : goal.returns
returns c =
    hex_byte c.args.out.now c.args.at c.args.b _ _ _ _ c.requires c.hex_digit.ensures c.hex_digit-2.ensures (overwritten_one c.args.out.now c.args.at _ (search rules)) (overwritten_one _ (c.args.at + 1) _ (search rules))
