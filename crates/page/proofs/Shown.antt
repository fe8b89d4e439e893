-- What is put in columns is read from them: a right-aligned number (`read-aligned`), a byte in hexadecimal (`read_byte`), the bytes of a message (`shown-at`).
use Prim.Native.Nat.{ℕ, zero, suc, ◌+◌, ◌-◌, ◌*◌, ◌/◌, ◌%◌, ◌^◌, ◌<◌}
use mathlib.Core.Path.{◌≡◌, refl, sym, ap, ◌∙◌}
use mathlib.Core.Bool.{Bool, true, false, cond}
use mathlib.Core.List.{List, [], ◌∷◌, ◌++◌}
use native.Mathlib.Nat.{pow-suc, mod-lt}
use native.Mathlib.Omega.{arith}
use lib.Dec.{eqb, ltb}
use lib.ListN.{length, get_or, replicate, get_or-append}
use lib.Seq.{get_or_at, get_or-append-add}
use borrow.Author.Tests.{ltb-true, ltb-false, eqb-true}
use Rattle.tape_text.specs.Text.{decimal, hex_digit, hex}
use Rattle.tape_text.proofs.Puts.{length_hex}
use Rattle.page.specs.Line.{right_aligned}
use Rattle.page.specs.TensModel.{tens_digit, tens}
use Rattle.page.proofs.Aligned.{aligned}
use Rattle.page.specs.Fields.{digit_value, hex_value, read_from, read_number, shown_byte, place, shown_bytes, shown_message}
use Rattle.page.proofs.Values.{before_0, to_9, before_a, to_f, read_more, length_shown}

-- ---- numbers
pub read_digit : (d : ℕ) → d < 10 → digit_value (48 + d) ≡ d
read_digit d h = let e : 48 + d - 48 ≡ d = omega arith in sym (to_9 (48 + d) (omega arith) (omega arith)) ∙ e

read_tens_digit : (n : ℕ) → digit_value (tens_digit n) ≡ n % 10
unfolding tens_digit
read_tens_digit n = go (eqb n 0) refl
  where
    go : (b : Bool) → eqb n 0 ≡ b → digit_value (cond b 32 (48 + n % 10)) ≡ n % 10
    go true e = let z = eqb-true n 0 e in let y : 0 ≡ n % 10 = omega arith in sym (before_0 32 (omega arith)) ∙ y
    go false e = read_digit (n % 10) (mod-lt n (omega arith))

read_tens : (w n : ℕ) → n < 10 ^ w → read_from 0 (tens w n) ≡ n
unfolding tens read_from
read_tens zero n h = omega arith
read_tens (suc w) n h =
    read_more 0 (tens w (n / 10)) (tens_digit n)
    ∙ (λ i. read_tens w (n / 10) (omega (arith, pow-suc 10 w)) i * 10 + read_tens_digit n i)
    ∙ omega arith

pub read_aligned : (w n : ℕ) → n < 10 ^ suc w → read_number (right_aligned (suc w) (decimal n)) ≡ n
unfolding read_number
read_aligned w n h =
    ap (read_from 0) (aligned w n h)
    ∙ read_more 0 (tens w (n / 10)) (48 + n % 10)
    ∙ (λ i. read_tens w (n / 10) (omega (arith, pow-suc 10 w)) i * 10 + read_digit (n % 10) (mod-lt n (omega arith)) i)
    ∙ omega arith

-- ---- hexadecimal
read_hex : (d : ℕ) → d < 16 → hex_value (hex_digit d) ≡ d
unfolding hex_digit
read_hex d h = go (ltb d 10) refl
  where
    go : (b : Bool) → ltb d 10 ≡ b → hex_value (cond b (48 + d) (87 + d)) ≡ d
    go true e = let few = ltb-true d 10 e in sym (before_a (48 + d) (omega arith)) ∙ read_digit d few
    go false e = let many = ltb-false d 10 e in let z : 87 + d - 87 ≡ d = omega arith in sym (to_f (87 + d) (omega arith) (omega arith)) ∙ z

high_at : (m : List ℕ) (j : ℕ) → j < length m → get_or (hex m) (2 * j) 0 ≡ hex_digit (get_or m j 0 / 16)
unfolding hex
high_at [] j h = absurd (omega arith)
high_at (b ∷ m) zero h = refl
high_at (b ∷ m) (suc j) h = ap (λ (n : ℕ). get_or (hex (b ∷ m)) n 0) {x = 2 * suc j} {y = suc (suc (2 * j))} (omega arith) ∙ high_at m j (omega arith)

low_at : (m : List ℕ) (j : ℕ) → j < length m → get_or (hex m) (2 * j + 1) 0 ≡ hex_digit (get_or m j 0 % 16)
unfolding hex
low_at [] j h = absurd (omega arith)
low_at (b ∷ m) zero h = refl
low_at (b ∷ m) (suc j) h = ap (λ (n : ℕ). get_or (hex (b ∷ m)) n 0) {x = 2 * suc j + 1} {y = suc (suc (2 * j + 1))} (omega arith) ∙ low_at m j (omega arith)

-- the byte of a message m whose hexadecimal begins at column 24
pub read_byte : (front m more : List ℕ) (j : ℕ) → length front ≡ 24 → j < length m → get_or m j 0 < 256 → shown_byte (front ++ (hex m ++ more)) j ≡ get_or m j 0
unfolding shown_byte
read_byte front m more j f h b =
    (λ i. 16 * hex_value (column (2 * j) (24 + 2 * j) (omega arith) (omega (arith, length_hex m)) i) + hex_value (column (2 * j + 1) (24 + 2 * j + 1) (omega arith) (omega (arith, length_hex m)) i))
    ∙ (λ i. 16 * hex_value (high_at m j h i) + hex_value (low_at m j h i))
    ∙ (λ i. 16 * read_hex (get_or m j 0 / 16) (omega arith) i + read_hex (get_or m j 0 % 16) (omega arith) i)
    ∙ omega arith
  where
    column : (k at : ℕ) → at ≡ 24 + k → k < length (hex m) → get_or (front ++ (hex m ++ more)) at 0 ≡ get_or (hex m) k 0
    column k at e g =
        let p : at ≡ length front + k = omega arith in
        ap (λ (n : ℕ). get_or (front ++ (hex m ++ more)) n 0) p ∙ get_or-append-add front (hex m ++ more) k 0 ∙ get_or-append (hex m) more 0 k g

-- ---- the bytes of a message
shown_byte_at : (type : ℕ) (l : List ℕ) (n k : ℕ) → k < n → get_or (shown_bytes type l n) k 0 ≡ shown_byte l (place type k)
unfolding shown_bytes
shown_byte_at type l zero k h = absurd (omega arith)
shown_byte_at type l (suc n) k h = go (ltb k n) refl (shown_byte_at type l n k)
  where
    go : (b : Bool) → ltb k n ≡ b → (k < n → get_or (shown_bytes type l n) k 0 ≡ shown_byte l (place type k)) → get_or (shown_bytes type l n ++ (shown_byte l (place type n) ∷ [])) k 0 ≡ shown_byte l (place type k)
    go true e before =
        let g = ltb-true k n e in
        get_or-append (shown_bytes type l n) (shown_byte l (place type n) ∷ []) 0 k (omega (arith, length_shown type l n)) ∙ before g
    go false e before =
        let g = ltb-false k n e in
        let z : n ≡ k = omega arith in
        get_or_at (shown_bytes type l n) (shown_byte l (place type n)) [] 0 k (omega (arith, length_shown type l n)) ∙ ap (λ (j : ℕ). shown_byte l (place type j)) z

pub shown_at : (type : ℕ) (l : List ℕ) (n k : ℕ) → k < n → get_or (shown_message type l n) k 0 ≡ shown_byte l (place type k)
unfolding shown_message
shown_at type l n k h = get_or-append (shown_bytes type l n) (replicate (14 - n) 0) 0 k (omega (arith, length_shown type l n)) ∙ shown_byte_at type l n k h
