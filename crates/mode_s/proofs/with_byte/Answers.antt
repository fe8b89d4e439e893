-- `with_byte` meets its contract: the table's rule says what stands at the place.
use mathlib.Core.Path.{refl, sym, subst}
use Prim.Native.Nat.{ℕ, ◌<◌}
use borrow.Author.Rules.{rules}
use Rattle.mode_s.proofs.ByTable.{parities, looked_up, with_byte_lt}
use Rattle.mode_s.proofs.with_byte.Goals as goal

pub returns : goal.returns
unfolding parities
returns c =
    let a = c.args in
    let e = looked_up a.c a.b refl c.from.ensures c.requires (search rules) in
    (e, subst (λ (x : ℕ). x < 0x1000000) (sym e) (with_byte_lt a.c a.b))
