-- Every claim on parity and flipped bits holds (`parity-laws`).
use Rattle.std.specs.Prelude.{Some}
use Prim.Native.Nat.{ℕ, ◌*◌, ◌<◌, ◌≤◌}
use mathlib.Core.Path.{◌≡◌, refl, sym, ap, ◌∙◌}
use mathlib.Core.List.{List}
use native.Mathlib.Omega.{arith}
use borrow.Author.Tests.{lt-ltb, le-ltb}
use lib.ListN.{length}
use lib.Bits.{bit_xor, xor_self}
use Rattle.mode_s.specs.Parity.{parity_of}
use Rattle.mode_s.proofs.Laws.{parity_laid, parity_zeros}
use Rattle.mode_s.specs.Change.{flipped, power_remainder, change_at, place_of}
use Rattle.mode_s.specs.ParityLaws.{ParityLaws}
use Rattle.mode_s.proofs.Powers.{any_change}
use Rattle.mode_s.proofs.Table.{changes_differ, changes_seen}
use Rattle.mode_s.proofs.Places.{finds, found_only}

-- for a message of 14 bytes or fewer
change : (bs : List ℕ) → length bs ≤ 14 → (place : ℕ) → place < 8 * length bs → parity_of (flipped place bs) ≡ bit_xor (parity_of bs) (change_at place)
unfolding change_at
change bs l place h = any_change bs place h ∙ ap (bit_xor (parity_of bs)) (sym (rw (lt-ltb place 112 (omega arith))))

pub beyond : (place : ℕ) → 111 < place → change_at place ≡ 0
unfolding change_at
beyond place h = rw (le-ltb place 112 (omega arith))

mends : (bs : List ℕ) → length bs ≤ 14 → (place : ℕ) → place < 8 * length bs → place_of (parity_of bs) ≡ Some place → parity_of (flipped place bs) ≡ 0
mends bs l place h e =
    change bs l place h ∙ ap (bit_xor (parity_of bs)) (found_only (parity_of bs) place e).1 ∙ xor_self (parity_of bs)

pub parity_laws : ParityLaws
unfolding change_at power_remainder
parity_laws = record {
  laid_over = parity_laid;
  zero_bytes = parity_zeros;
  short = λ bs e place h. change bs (omega arith) place (omega arith);
  long = λ bs e place h. change bs (omega arith) place (omega arith);
  last_bit = refl;
  beyond = beyond;
  all_differ = changes_differ;
  none_hidden = changes_seen;
  found = finds;
  found_only = found_only;
  mended = λ bs e place t. mends bs (omega arith) place (omega (arith, (found_only (parity_of bs) place t).0)) t;
  mended_short = λ bs e place h t. mends bs (omega arith) place (omega arith) t;
}
