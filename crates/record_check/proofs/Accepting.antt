-- What an accepted record is (`in_range`, `accepts_in_range`), and that a number read within the bytes is theirs.
use Prim.Native.Nat.{ℕ, ◌+◌, ◌^◌, ◌≤◌}
use mathlib.Core.Path.{◌≡◌, refl, sym, ◌∙◌}
use mathlib.Core.Bool.{Bool, true, false, ◌&&◌}
use mathlib.Core.List.{List}
use native.Mathlib.Omega.{arith}
use lib.Dec.{eqb, leb, ltb}
use lib.ListN.{length}
use borrow.Author.Tests.{lt-ltb, le-leb, eq-eqb, leb-true, ltb-true, eqb-true}
use Rattle.le_read.specs.LeBytes.{le_at, number_at}
use Rattle.le_read.proofs.Decided.{read_there}
use Rattle.record_check.specs.Accepted.{type_length, first_sample, type_of, count_of, length_of, accepted}
use Rattle.record_check.specs.FaultLaws.{InRange}

both : (a b : Bool) → a && b ≡ true → (a ≡ true) × (b ≡ true)
both true b e = (refl, e)
both false b e = (e, absurd_bool e)
  where
    absurd_bool : false ≡ true → b ≡ true
    absurd_bool t = let z : ◌≡◌ {A = ℕ} 0 1 = cc in absurd (omega arith)

module _ (r : List ℕ) where
  -- the tests that follow each
  abbrev by_count : Bool
  by_count = leb (count_of r) 9999 && eqb (length_of r) (type_length (type_of r))

  abbrev by_type : Bool
  by_type = ltb (type_of r) 7 && by_count

  abbrev by_first : Bool
  by_first = leb (first_sample r) (2 ^ 52) && by_type

  pub number_is : (n at v : ℕ) → at + n ≤ length r → v ≡ number_at n r at → v ≡ le_at n r at
  number_is n at v h e = e ∙ read_there n r at (sym (le-leb _ (length r) h)) (λ v. v) 0 refl

  pub in_range : accepted r ≡ true → InRange r
  unfolding accepted
  in_range e =
      let one = both (leb 66 (length r)) by_first e in
      let two = both (leb (first_sample r) (2 ^ 52)) by_type one.1 in
      let three = both (ltb (type_of r) 7) by_count two.1 in
      let four = both (leb (count_of r) 9999) (eqb (length_of r) (type_length (type_of r))) three.1 in
      record {
        whole = leb-true 66 (length r) one.0;
        first = leb-true (first_sample r) (2 ^ 52) two.0;
        type = let t = ltb-true (type_of r) 7 three.0 in omega arith;
        count = leb-true (count_of r) 9999 four.0;
        size = eqb-true (length_of r) (type_length (type_of r)) four.1;
      }

  pub accepts_in_range : InRange r → accepted r ≡ true
  unfolding accepted
  accepts_in_range i =
      (λ k. le-leb 66 (length r) i.whole k && (le-leb (first_sample r) (2 ^ 52) i.first k && (lt-ltb (type_of r) 7 (omega (arith, i.type)) k && (le-leb (count_of r) 9999 i.count k && eq-eqb (length_of r) (type_length (type_of r)) i.size k))))
