-- What an accepted call's lengths are.
use mathlib.Core.Bool.{true, ◌&&◌, and-eq-true_iff}
use mathlib.Core.Path.{◌≡◌}
use Prim.Native.Nat.{ℕ, ◌*◌, ◌%◌}
use borrow.Author.Tests.{eqb-true}
use lib.Dec.{eqb}
use Rattle.rack.specs.Calls.{lengths_fit}

-- what an accepted call's lengths are
pub record Fits (count memory samples room : ℕ) : Type 0 where
  pub memory_is : memory ≡ 8190
  pub even : samples % 2 ≡ 0
  pub room_is : room ≡ count * samples

pub fits : (count memory samples room : ℕ) → lengths_fit count memory samples room ≡ true → Fits count memory samples room
unfolding lengths_fit
fits count memory samples room e =
    let a = (and-eq-true_iff (eqb memory 8190 && eqb (samples % 2) 0) (eqb room (count * samples))).0 e in
    let b = (and-eq-true_iff (eqb memory 8190) (eqb (samples % 2) 0)).0 a.0 in
    record { memory_is = eqb-true _ _ b.0; even = eqb-true _ _ b.1; room_is = eqb-true _ _ a.1 }
