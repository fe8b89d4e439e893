-- `put_any_rack` meets its contract: no rack has no bytes.
use Rattle.std.specs.Prelude.{Option, is_some}
use mathlib.Core.Path.{◌≡◌, refl, sym, subst}
use mathlib.Core.Bool.{cond}
use Prim.Native.Nat.{◌+◌, ◌*◌}
use lib.ListN.{length}
use Rattle.le_read.specs.LeBytes.{overwritten}
use Rattle.reply_record.proofs.Overwritten.{none_overwritten}
use Rattle.rack.specs.declared.Rack.{Rack}
use Rattle.run_bytes.specs.Layout.{rack_bytes}
use Rattle.run_bytes.proofs.put_any_rack.Goals as goal

pub returns-in-None : goal.returns-in-None
unfolding rack_bytes
returns-in-None c =
    let s = c.args.out.now in
    let m = c.args.memory.now in
    subst (λ (r : Option Rack). (s ≡ overwritten s c.args.at (rack_bytes r m)) × (length (rack_bytes r m) ≡ cond (is_some r) (208 + 4 * length m) 0)) (sym c.in-None.is) (none_overwritten s c.args.at, refl)
