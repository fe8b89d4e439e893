-- Theorem `places-of-the-base`: the positions by rule are those that the base lists, compared once, by computation.
use mathlib.Core.Path.{◌≡◌, sym, ◌∙◌}
use mathlib.Core.Bool.{Bool}
use Prim.Native.Nat.{ℕ, ◌≤◌}
use native.Mathlib.Decide.{dec_lt}
use native.Mathlib.Omega.{arith}
use borrow.Author.Tests.{le-ltb}
use lib.Dec.{T, eqb, eqb→eq}
use lib.ListN.{get_or, get_or-eq_default}
use Rattle.mode_ac.specs.Positions.{position_of}
use Rattle.mode_ac.specs.BasePlaces.{base_places, PlacesOfTheBase}
use Rattle.mode_s.proofs.Below.{every, below}

as_listed : ℕ → Bool
as_listed n = eqb (position_of n) (get_or base_places n 0)

all_as_listed : T (every as_listed 12)
unfolding as_listed position_of
all_as_listed = tt

no_bit : (n : ℕ) → 12 ≤ n → position_of n ≡ 0
unfolding position_of
no_bit n l =
    let m : 6 ≤ n = omega arith in rw (le-ltb n 6 m, le-ltb n 12 l)

pub places_of_the_base : PlacesOfTheBase
unfolding as_listed
places_of_the_base n =
    elim (dec_lt n 12) [
      | yes h ↦ eqb→eq (position_of n) (get_or base_places n 0) (below as_listed 12 all_as_listed n h)
      | no l ↦ let m : 12 ≤ n = omega arith in no_bit n m ∙ sym (get_or-eq_default base_places 0 m)
    ]
