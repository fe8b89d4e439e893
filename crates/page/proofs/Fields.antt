-- The fields of a line, put one behind the other, and their widths: a number field (`number_put`), the three (`numbers-put`), and the message with what follows it (`line-put`).
use Prim.Native.Nat.{ℕ, suc, ◌+◌, ◌-◌, ◌*◌, ◌/◌, ◌%◌, ◌^◌, ◌≤◌, ◌<◌}
use mathlib.Core.Path.{◌≡◌, sym, ap, ◌∙◌}
use mathlib.Core.Bool.{Bool, true, false, cond, ◌&&◌}
use mathlib.Core.List.{List, [], ◌∷◌, ◌++◌, append_assoc}
use native.Mathlib.Numerals.{add-one}
use native.Mathlib.Omega.{arith}
use lib.Dec.{eqb}
use lib.ListN.{length, get_or, take, drop, set, length-append, length-take, length-replicate, replicate-append-replicate}
use borrow.Author.Tests.{le-leb}
use Rattle.le_read.specs.LeBytes.{overwritten, number_at}
use Rattle.le_read.proofs.Halves.{overwritten_append}
use Rattle.le_read.proofs.RoundTrip.{length_overwritten}
use Rattle.reply_record.proofs.Overwritten.{next}
use Rattle.record_check.specs.Accepted.{first_sample, type_of, count_of}
use Rattle.record_check.specs.FaultLaws.{InRange}
use Rattle.record_check.proofs.Accepting.{number_is}
use Rattle.tape_text.specs.Text.{decimal, hex, hex_line, message_of, message_fits, message_at, message_end}
use Rattle.tape_text.proofs.Puts.{length_hex}
use Rattle.page.specs.Line.{blanks, right_aligned, left_aligned, number_field, numbers, message_field, page_line, with_feed}
use Rattle.page.specs.TensModel.{tens}
use Rattle.page.proofs.Aligned.{length_tens, aligned, length_aligned}
use Rattle.page.proofs.Columns.{byte_behind}
use Rattle.page.proofs.Laid.{laid_over}

-- the tens, the last digit, a space
pub number_put : (n u : ℕ) (s : List ℕ) (at : ℕ) (d : List ℕ) → n < 10 ^ (u + 1) → at + u + 2 ≤ length s → d ≡ overwritten s at (tens u (n / 10))
    → set (set d (at + u) (48 + n % 10)) (at + u + 1) 32 ≡ overwritten s at (number_field (u + 1) n)
unfolding number_field
number_put n u s at d h r p =
    let ones = tens u (n / 10) ++ ((48 + n % 10) ∷ []) in
    let l : length ones ≡ u + 1 = length-append (tens u (n / 10)) ((48 + n % 10) ∷ []) ∙ ap (λ (k : ℕ). k + 1) (length_tens u (n / 10)) in
    let e : u + 1 ≡ suc u = add-one u in
    let q : set d (at + u) (48 + n % 10) ≡ overwritten s at ones = byte_behind s at u (tens u (n / 10)) d (48 + n % 10) (length_tens u (n / 10)) (omega arith) p in
    let c : at + u + 1 ≡ at + (u + 1) = omega arith in
    let same : ones ≡ right_aligned (u + 1) (decimal n) = sym (ap (λ (k : ℕ). right_aligned k (decimal n)) e ∙ aligned u n (power u n h)) in
    ap (λ (k : ℕ). set (set d (at + u) (48 + n % 10)) k 32) c
    ∙ byte_behind s at (u + 1) ones (set d (at + u) (48 + n % 10)) 32 l (omega arith) q
    ∙ ap (λ (t : List ℕ). overwritten s at (t ++ (32 ∷ []))) same
  where
    power : (u n : ℕ) → n < 10 ^ (u + 1) → n < 10 ^ suc u
    power u n h = let e : 10 ^ (u + 1) ≡ 10 ^ suc u = ap (λ (k : ℕ). 10 ^ k) (add-one u) in omega arith

pub length_field : (w n : ℕ) → n < 10 ^ suc w → length (number_field (suc w) n) ≡ suc w + 1
unfolding number_field
length_field w n h = length-append (right_aligned (suc w) (decimal n)) (32 ∷ []) ∙ ap (λ (k : ℕ). k + 1) (length_aligned w n h)

module _ (first type count : ℕ) (a : first < 10 ^ 16) (b : type < 10) (c : count < 10 ^ 4) where
  two : length (number_field 16 first ++ number_field 1 type) ≡ 19
  two = length-append (number_field 16 first) (number_field 1 type) ∙ (λ i. length_field 15 first a i + length_field 0 type b i)

  pub length_numbers : length (numbers first type count) ≡ 24
  unfolding numbers
  length_numbers = length-append (number_field 16 first ++ number_field 1 type) (number_field 4 count) ∙ (λ i. two i + length_field 3 count c i)

  pub numbers_put : (s : List ℕ) (at : ℕ) {d e f : List ℕ} → at + 24 ≤ length s → d ≡ overwritten s at (number_field 16 first) → e ≡ overwritten d (at + 17) (number_field 1 type) → f ≡ overwritten e (at + 19) (number_field 4 count)
      → f ≡ overwritten s at (numbers first type count)
  unfolding numbers
  numbers_put s at {d} {e} {f} h p q r =
      next s at 19 (number_field 16 first ++ number_field 1 type) (number_field 4 count) e f two (omega arith)
      (next s at 17 (number_field 16 first) (number_field 1 type) d e (length_field 15 first a) (omega arith) p q)
      r

-- ---- the message
pub message_short : (r : List ℕ) → length (message_of r) ≤ 14
unfolding message_of
message_short r = go (eqb (get_or r 48 0) 6)
  where
    go : (b : Bool) → length (cond b (get_or r 53 0 ∷ get_or r 52 0 ∷ []) (take (get_or r 51 0) (take 14 (drop 52 r)))) ≤ 14
    go true = omega arith
    go false = omega (arith, length-take (get_or r 51 0) (take 14 (drop 52 r)), length-take 14 (drop 52 r))

module _ (m : List ℕ) (short : length m ≤ 14) where
  its_field : message_field m ++ (10 ∷ []) ≡ hex m ++ (blanks (48 - 2 * length m) ++ (10 ∷ []))
  unfolding message_field left_aligned
  its_field =
      let l = length_hex m in
      let e : 28 - length (hex m) + 20 ≡ 48 - 2 * length m = omega arith in
      append_assoc (hex m ++ blanks (28 - length (hex m))) (blanks 20) (10 ∷ [])
      ∙ append_assoc (hex m) (blanks (28 - length (hex m))) (blanks 20 ++ (10 ∷ []))
      ∙ ap (λ (l : List ℕ). hex m ++ l) (sym (append_assoc (blanks (28 - length (hex m))) (blanks 20) (10 ∷ [])) ∙ ap (λ (l : List ℕ). l ++ (10 ∷ [])) (replicate-append-replicate (28 - length (hex m)) 20 32 ∙ ap blanks e))

  pub length_message : length (message_field m) ≡ 48
  unfolding message_field left_aligned
  length_message =
      let l = length_hex m in
      length-append (hex m ++ blanks (28 - length (hex m))) (blanks 20)
      ∙ omega (arith, length-append (hex m) (blanks (28 - length (hex m))), length-replicate {A = ℕ} (28 - length (hex m)) 32, length-replicate {A = ℕ} 20 32)

  -- blanks and a line feed are put over the line feed of the message
  message_put : (d : List ℕ) (at : ℕ) {e g : List ℕ} → at + 49 ≤ length d → e ≡ overwritten d at (hex_line m) → g ≡ overwritten e (at + 2 * length m) (blanks (48 - 2 * length m) ++ (10 ∷ []))
      → g ≡ overwritten d at (message_field m ++ (10 ∷ []))
  unfolding hex_line
  message_put d at {e} {g} h p q =
      let l = length_hex m in
      let k : at + length (hex m) ≡ at + 2 * length m = omega arith in
      let tail = blanks (48 - 2 * length m) ++ (10 ∷ []) in
      let t : length tail ≡ 49 - 2 * length m = length-append (blanks (48 - 2 * length m)) (10 ∷ []) ∙ omega (arith, length-replicate {A = ℕ} (48 - 2 * length m) 32) in
      let z : length (overwritten d at (hex m)) ≡ length d = length_overwritten d at (hex m) (omega arith) in
      q
      ∙ (λ i. overwritten (p i) (sym k i) tail)
      ∙ ap (λ (x : List ℕ). overwritten x (at + length (hex m)) tail) (sym (overwritten_append d at (hex m) (10 ∷ []) (omega arith)))
      ∙ laid_over (overwritten d at (hex m)) (at + length (hex m)) (10 ∷ []) tail (omega arith) (omega arith)
      ∙ overwritten_append d at (hex m) tail (omega arith)
      ∙ ap (overwritten d at) (sym its_field)

-- ---- the line
module _ (r : List ℕ) (i : InRange r) where
  pub below : (first_sample r < 10 ^ 16) × (type_of r < 10) × (count_of r < 10 ^ 4)
  below = (omega (arith, i.first), omega (arith, i.type), omega (arith, i.count))

  pub fields_below : {first kind count : ℕ} → first ≡ number_at 8 r 40 → kind ≡ type_of r → count ≡ number_at 2 r 49 → (first < 10 ^ 16) × (kind < 10) × (count < 10 ^ 4)
  fields_below {first} {kind} {count} u b v =
      let w = i.whole in
      let x = number_is r 8 40 first (omega arith) u in
      let y = number_is r 2 49 count (omega arith) v in
      (omega (arith, below.0), omega (arith, below.1), omega (arith, below.2))

  -- exactly 72 bytes
  pub length_line : length (page_line r) ≡ 72
  unfolding page_line
  length_line =
      length-append (numbers (first_sample r) (type_of r) (count_of r)) (message_field (message_of r))
      ∙ (λ k. length_numbers (first_sample r) (type_of r) (count_of r) below.0 below.1 below.2 k + length_message (message_of r) (message_short r) k)

  -- the numbers that are read are the record's
  pub numbers_there : (s : List ℕ) (at : ℕ) {first kind count : ℕ} {d : List ℕ} → first ≡ number_at 8 r 40 → kind ≡ type_of r → count ≡ number_at 2 r 49 → d ≡ overwritten s at (numbers first kind count)
      → d ≡ overwritten s at (numbers (first_sample r) (type_of r) (count_of r))
  numbers_there s at {first} {kind} {count} u b v p =
      let w = i.whole in
      p ∙ (λ k. overwritten s at (numbers (number_is r 8 40 first (omega arith) u k) (b k) (number_is r 2 49 count (omega arith) v k)))

  module _ (s : List ℕ) (at : ℕ) (h : at + 73 ≤ length s) {d : List ℕ} (p : d ≡ overwritten s at (numbers (first_sample r) (type_of r) (count_of r))) where
    l : length (numbers (first_sample r) (type_of r) (count_of r)) ≡ 24
    l = length_numbers (first_sample r) (type_of r) (count_of r) below.0 below.1 below.2

    pub numbers_room : length d ≡ length s
    numbers_room = ap length p ∙ length_overwritten s at (numbers (first_sample r) (type_of r) (count_of r)) (omega (arith, l))

    fits : message_fits r d (at + 24) ≡ true
    unfolding message_fits
    fits = (λ k. le-leb 66 (length r) i.whole k && le-leb (at + 24 + 29) (length d) (omega (arith, numbers_room)) k)

    -- where the message's line feed ends
    pub ends : {end : ℕ} → end ≡ message_end r d (at + 24) → end ≡ at + 24 + 2 * length (message_of r) + 1
    unfolding message_end hex_line
    ends e =
        e ∙ ap (λ (t : Bool). cond t (at + 24 + length (hex_line (message_of r))) (at + 24)) fits
        ∙ omega (arith, length-append (hex (message_of r)) (10 ∷ []), length_hex (message_of r))

    pub line_put : {end n start : ℕ} {e g : List ℕ} → end ≡ message_end r d (at + 24) → e ≡ message_at r d (at + 24) → g ≡ overwritten e start (blanks n ++ (10 ∷ [])) → n ≡ at + 73 - end → start ≡ end - 1
        → g ≡ overwritten s at (with_feed (page_line r))
    unfolding message_at with_feed page_line
    line_put {end} {n} {start} {e} {g} o t q w x =
        let k = length (message_of r) in
        let z = ends o in
        let y = message_short r in
        let there : e ≡ overwritten d (at + 24) (hex_line (message_of r)) = t ∙ ap (λ (t : Bool). cond t (overwritten d (at + 24) (hex_line (message_of r))) d) fits in
        let size : n ≡ 48 - 2 * k = omega arith in
        let from : start ≡ at + 24 + 2 * k = omega arith in
        let body = message_put (message_of r) y d (at + 24) (omega (arith, numbers_room)) there (q ∙ (λ j. overwritten e (from j) (blanks (size j) ++ (10 ∷ [])))) in
        next s at 24 (numbers (first_sample r) (type_of r) (count_of r)) (message_field (message_of r) ++ (10 ∷ [])) d g l (omega arith) p body
        ∙ ap (overwritten s at) (sym (append_assoc (numbers (first_sample r) (type_of r) (count_of r)) (message_field (message_of r)) (10 ∷ [])))
