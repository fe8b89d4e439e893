-- `put_floats` meets its contract: the part of the slice that the floats fill is their bytes.
use Prim.Native.Nat.{◌+◌, ◌*◌}
use mathlib.Core.Path.{refl}
use lib.ListN.{length}
use borrow.Author.Rules.{rules}
use Rattle.run_bytes.proofs.Written.{part_written}
use Rattle.run_bytes.proofs.put_floats.Goals as goal

pub returns : goal.returns
returns c = part_written c.args.out.now c.args.at (c.args.at + 4 * length c.args.floats.now) c.args.floats.now _ _ refl (search rules) c.float_bytes.ensures.0 c.float_bytes.ensures.1
