-- Logs worked out: the definitions are not empty, and each condition is needed.
use Rattle.std.specs.Prelude.{Some, None}
use mathlib.Core.Path.{◌≡◌, refl}
use mathlib.Core.List.{List, [], ◌∷◌}
use Prim.Native.Nat.{ℕ}
use native.Mathlib.Omega.{arith}
use lib.Dec.{eqb, lit<}
use lib.ListN.{length, get_or}
use Rattle.log_theory.specs.Pairing.{Logs, Pairing, earliest, shown}

-- samples and messages heard, first samples and messages sent, and the tolerance
abbrev given : List ℕ → List ℕ → List ℕ → List ℕ → ℕ → Logs
given samples heard firsts sent d = record {
  heard = length samples;
  sent = length firsts;
  sample = λ i. get_or samples i 0;
  first = λ j. get_or firsts j 0;
  alike = λ i j. eqb (get_or heard i 0) (get_or sent j 0);
  within = d;
}

-- two alike replies, the later one first among the records; the first entry may have either, the second only the later one
abbrev out_of_order : Logs
out_of_order = given (100 ∷ 112 ∷ 112 ∷ []) (7 ∷ 7 ∷ 9 ∷ []) (108 ∷ 96 ∷ []) (7 ∷ 7 ∷ []) 10

shown_out_of_order : shown out_of_order ≡ Some 1 ∷ Some 0 ∷ None ∷ []
unfolding earliest
shown_out_of_order = refl

-- equal first samples: the records' order
abbrev ties : Logs
ties = given (100 ∷ 100 ∷ 101 ∷ []) (7 ∷ 7 ∷ 7 ∷ []) (101 ∷ 100 ∷ 100 ∷ []) (7 ∷ 7 ∷ 7 ∷ []) 1

shown_ties : shown ties ≡ Some 1 ∷ Some 2 ∷ Some 0 ∷ []
unfolding earliest
shown_ties = refl

-- the earliest and not the nearest: heard at 5 and 10, sent at 10 and 0
abbrev nearest_last : Logs
nearest_last = given (5 ∷ 10 ∷ []) (7 ∷ 7 ∷ []) (10 ∷ 0 ∷ []) (7 ∷ 7 ∷ []) 5

shown_nearest_last : shown nearest_last ≡ Some 1 ∷ Some 0 ∷ []
unfolding earliest
shown_nearest_last = refl

-- a log out of order: what is reported has one pair, and two are allowed
abbrev falling : Logs
falling = given (10 ∷ 5 ∷ []) (7 ∷ 7 ∷ []) (6 ∷ 12 ∷ []) (7 ∷ 7 ∷ []) 4

shown_falling : shown falling ≡ Some 0 ∷ None ∷ []
unfolding earliest
shown_falling = refl

-- the pairing of two, which `largest` would rule out: so the log's order is needed
falling_two : Pairing falling (record { entry = 0; reply = 1 } ∷ record { entry = 1; reply = 0 } ∷ [])
falling_two = record {
  may = ((lit< tt, lit< tt, tt), ((lit< tt, lit< tt, tt), tt));
  once = (((λ q. omega arith, λ q. omega arith), tt), (tt, tt));
}
