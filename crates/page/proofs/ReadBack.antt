-- `EveryLine` holds.
use Rattle.std.specs.Prelude.{Some, None}
use Prim.Native.Nat.{ℕ, zero, suc, ◌+◌, ◌-◌, ◌≤◌, ◌<◌}
use mathlib.Core.Path.{◌≡◌, refl, sym, ap, ◌∙◌, subst}
use mathlib.Core.Bool.{Bool, true, false, cond}
use mathlib.Core.List.{List, [], ◌∷◌, ◌++◌, append_assoc}
use native.Mathlib.Nat.{mod-eq_of_lt}
use native.Mathlib.Omega.{arith}
use lib.Dec.{eqb, ltb}
use lib.ListN.{length, get_or, take, drop, length-append, length-take, length-drop}
use lib.Seq.{take_at, drop_at, get_or_at, get_or-take, get_or-drop}
use borrow.Author.Tests.{lt-ltb, le-ltb, eq-eqb, ne_eqb, eqb-true, eqb-false}
use Rattle.record_check.specs.Accepted.{type_length, first_sample, type_of, count_of, length_of, accepted}
use Rattle.record_check.specs.FaultLaws.{InRange}
use Rattle.record_check.proofs.Accepting.{in_range}
use Rattle.tape_text.specs.Text.{decimal, hex, message_of}
use Rattle.page.specs.Line.{blanks, right_aligned, left_aligned, number_field, numbers, message_field, page_line}
use Rattle.page.specs.TensModel.{tens}
use Rattle.page.proofs.Aligned.{aligned, length_aligned}
use Rattle.page.proofs.Fields.{length_field, length_numbers, length_line, below}
use Rattle.page.specs.Fields.{digit_value, read_number, shown_byte, place, shown_message, is_type, shown_fields, fields_of}
use Rattle.page.specs.ReadBack.{Bytes, ReadBack, EveryLine}
use Rattle.page.proofs.Values.{type_at_most_14}
use Rattle.page.proofs.Shown.{read_digit, read_aligned, read_byte, shown_at}

part : (front xs more : List ℕ) (at n : ℕ) → length front ≡ at → length xs ≡ n → take n (drop at (front ++ (xs ++ more))) ≡ xs
part front xs more at n f e = ap (take n) (drop_at front (xs ++ more) at f) ∙ take_at xs more n e

-- a type is shown as one digit
one_digit : (t : ℕ) → t < 10 → right_aligned 1 (decimal t) ≡ (48 + t) ∷ []
unfolding tens
one_digit t h = aligned 0 t (omega arith) ∙ ap (λ (d : ℕ). (48 + d) ∷ []) (mod-eq_of_lt h)

-- a message as it is printed
is_mode_ac_lem : (r : List ℕ) → type_of r ≡ 6 → message_of r ≡ get_or r 53 0 ∷ get_or r 52 0 ∷ []
unfolding message_of
is_mode_ac_lem r e = ap (λ (b : Bool). cond b (get_or r 53 0 ∷ get_or r 52 0 ∷ []) (take (length_of r) (take 14 (drop 52 r)))) (eq-eqb (type_of r) 6 e)

is_mode_s : (r : List ℕ) → (type_of r ≡ 6 → ⊥) → message_of r ≡ take (length_of r) (take 14 (drop 52 r))
unfolding message_of
is_mode_s r e = ap (λ (b : Bool). cond b (get_or r 53 0 ∷ get_or r 52 0 ∷ []) (take (length_of r) (take 14 (drop 52 r)))) (ne_eqb (type_of r) 6 e)

length_two : (type : ℕ) → type ≡ 6 → type_length type ≡ 2
unfolding type_length
length_two type e = ap type_length e

module _ (r : List ℕ) (ok : accepted r ≡ true) (bytes : Bytes r) where
  i : InRange r
  i = in_range r ok

  abbrev l : List ℕ
  l = page_line r

  abbrev f : List ℕ
  f = number_field 16 (first_sample r)

  abbrev t : List ℕ
  t = number_field 1 (type_of r)

  abbrev c : List ℕ
  c = number_field 4 (count_of r)

  abbrev m : List ℕ
  m = message_field (message_of r)

  by_first : l ≡ right_aligned 16 (decimal (first_sample r)) ++ ((32 ∷ []) ++ (t ++ (c ++ m)))
  unfolding page_line numbers number_field
  by_first = simp append_assoc

  by_type : l ≡ f ++ (right_aligned 1 (decimal (type_of r)) ++ ((32 ∷ []) ++ (c ++ m)))
  unfolding page_line numbers number_field
  by_type = simp append_assoc

  by_count : l ≡ (f ++ t) ++ (right_aligned 4 (decimal (count_of r)) ++ ((32 ∷ []) ++ m))
  unfolding page_line numbers number_field
  by_count = simp append_assoc

  by_message : l ≡ numbers (first_sample r) (type_of r) (count_of r) ++ (hex (message_of r) ++ (blanks (28 - length (hex (message_of r))) ++ blanks 20))
  unfolding page_line message_field left_aligned
  by_message = simp append_assoc

  the_first : read_number (take 16 (drop 0 l)) ≡ first_sample r
  the_first =
      ap read_number (ap (take 16) by_first ∙ take_at (right_aligned 16 (decimal (first_sample r))) ((32 ∷ []) ++ (t ++ (c ++ m))) 16 (length_aligned 15 (first_sample r) (below r i).0))
      ∙ read_aligned 15 (first_sample r) (below r i).0

  column : get_or l 17 0 ≡ 48 + type_of r
  column =
      ap (λ (x : List ℕ). get_or x 17 0) (by_type ∙ ap (λ (x : List ℕ). f ++ (x ++ ((32 ∷ []) ++ (c ++ m)))) (one_digit (type_of r) (below r i).1))
      ∙ get_or_at f (48 + type_of r) ((32 ∷ []) ++ (c ++ m)) 0 17 (length_field 15 (first_sample r) (below r i).0)

  the_type : digit_value (get_or l 17 0) ≡ type_of r
  the_type = ap digit_value column ∙ read_digit (type_of r) (below r i).1

  the_count : read_number (take 4 (drop 19 l)) ≡ count_of r
  the_count =
      ap read_number (ap (λ (x : List ℕ). take 4 (drop 19 x)) by_count ∙ part (f ++ t) (right_aligned 4 (decimal (count_of r))) ((32 ∷ []) ++ m) 19 4 before (length_aligned 3 (count_of r) (below r i).2))
      ∙ read_aligned 3 (count_of r) (below r i).2
    where
      before : length (f ++ t) ≡ 19
      before = length-append f t ∙ (λ k. length_field 15 (first_sample r) (below r i).0 k + length_field 0 (type_of r) (below r i).1 k)

  shown : (j : ℕ) → j < length (message_of r) → get_or (message_of r) j 0 < 256 → shown_byte l j ≡ get_or (message_of r) j 0
  shown j h b =
      ap (λ (x : List ℕ). shown_byte x j) by_message
      ∙ read_byte (numbers (first_sample r) (type_of r) (count_of r)) (message_of r) (blanks (28 - length (hex (message_of r))) ++ blanks 20) j (length_numbers (first_sample r) (type_of r) (count_of r) (below r i).0 (below r i).1 (below r i).2) h b

  -- a byte by its place in the line
  by_place : (k : ℕ) → k < length_of r → shown_byte l (place (type_of r) k) ≡ get_or r (52 + k) 0
  unfolding place
  by_place k h = go (eqb (type_of r) 6) refl
    where
      mode_ac_lem : type_of r ≡ 6 → message_of r ≡ get_or r 53 0 ∷ get_or r 52 0 ∷ []
      mode_ac_lem e = is_mode_ac_lem r e

      mode_s_lem : (type_of r ≡ 6 → ⊥) → message_of r ≡ take (length_of r) (take 14 (drop 52 r))
      mode_s_lem e = is_mode_s r e

      two : type_of r ≡ 6 → length_of r ≡ 2
      two e = i.size ∙ length_two (type_of r) e

      turned : type_of r ≡ 6 → (k : ℕ) → k < 2 → shown_byte l (1 - k) ≡ get_or r (52 + k) 0
      turned e zero h = shown 1 (omega (arith, ap length (mode_ac_lem e))) (subst (λ (x : List ℕ). get_or x 1 0 < 256) (sym (mode_ac_lem e)) (bytes 52)) ∙ ap (λ (x : List ℕ). get_or x 1 0) (mode_ac_lem e)
      turned e (suc zero) h = shown 0 (omega (arith, ap length (mode_ac_lem e))) (subst (λ (x : List ℕ). get_or x 0 0 < 256) (sym (mode_ac_lem e)) (bytes 53)) ∙ ap (λ (x : List ℕ). get_or x 0 0) (mode_ac_lem e)
      turned e (suc (suc k)) h = absurd (omega arith)

      straight : (type_of r ≡ 6 → ⊥) → shown_byte l k ≡ get_or r (52 + k) 0
      straight e =
          let size : length_of r ≤ 14 = omega (arith, i.size, type_at_most_14 (type_of r)) in
          let here : get_or (message_of r) k 0 ≡ get_or r (52 + k) 0 = ap (λ (x : List ℕ). get_or x k 0) (mode_s_lem e) ∙ get_or-take (length_of r) (take 14 (drop 52 r)) k 0 h ∙ get_or-take 14 (drop 52 r) k 0 (omega arith) ∙ get_or-drop 52 r k 0 in
          let w = i.whole in
          shown k (omega (arith, ap length (mode_s_lem e), length-take (length_of r) (take 14 (drop 52 r)), length-take 14 (drop 52 r), length-drop 52 r)) (subst (λ (x : ℕ). x < 256) (sym here) (bytes (52 + k))) ∙ here

      go : (b : Bool) → eqb (type_of r) 6 ≡ b → shown_byte l (cond b (1 - k) k) ≡ get_or r (52 + k) 0
      go true e = let z = eqb-true (type_of r) 6 e in turned z k (omega (arith, two z))
      go false e = straight (eqb-false (type_of r) 6 e)

  is_line : fields_of l ≡ Some (shown_fields l)
  unfolding fields_of is_type
  is_line =
      let low = i.type in
      ap (λ (b : Bool). cond b (cond (is_type (get_or l 17 0)) (Some (shown_fields l)) None) None) (eq-eqb (length l) 72 (length_line r i))
      ∙ ap (λ (b : Bool). cond b (Some (shown_fields l)) None)
      (ap is_type column ∙ ap (λ (b : Bool). cond b false (ltb (48 + type_of r) 55)) (le-ltb (48 + type_of r) 48 (omega arith)) ∙ lt-ltb (48 + type_of r) 55 (omega arith))

  read_back : ReadBack r
  unfolding shown_fields
  read_back = record {
    width = length_line r i;
    fields = shown_fields l;
    found = is_line;
    first = the_first;
    type = the_type;
    count = the_count;
    size = ap type_length the_type ∙ sym i.size;
    message = λ k h.
        ap (λ (type : ℕ). get_or (shown_message type l (type_length type)) k 0) the_type
        ∙ shown_at (type_of r) l (type_length (type_of r)) k (omega (arith, i.size))
        ∙ by_place k h;
  }

pub every_line : EveryLine
every_line = read_back
