-- A number right-aligned, column by column: what the code puts is `right_aligned` of its decimal (`aligned`), in exactly its columns (`length-aligned`).
use Prim.Native.Nat.{ℕ, zero, suc, ◌+◌, ◌-◌, ◌/◌, ◌%◌, ◌^◌, ◌≤◌, ◌<◌}
use mathlib.Core.Path.{◌≡◌, refl, sym, ap, ◌∙◌}
use mathlib.Core.Bool.{Bool, true, false, cond}
use mathlib.Core.List.{List, [], ◌∷◌, ◌++◌, append_assoc}
use native.Mathlib.Nat.{pow-succ', mod-eq_of_lt}
use native.Mathlib.Omega.{arith}
use lib.Dec.{ltb}
use lib.ListN.{length, length-append, replicate-append-replicate}
use borrow.Author.Tests.{lt-ltb, ltb-true, ltb-false, ne_eqb}
use Rattle.tape_text.specs.Text.{decimal}
use Rattle.tape_text.proofs.Decimal.{decimal_is}
use Rattle.page.specs.Line.{blanks, right_aligned}
use Rattle.page.specs.TensModel.{tens_digit, tens}

pub length_tens : (w n : ℕ) → length (tens w n) ≡ w
unfolding tens
length_tens zero n = refl
length_tens (suc w) n = length-append (tens w (n / 10)) (tens_digit n ∷ []) ∙ omega (arith, length_tens w (n / 10))

one_more : (w : ℕ) → blanks w ++ (32 ∷ []) ≡ blanks (suc w)
one_more w = replicate-append-replicate w 1 32 ∙ ap blanks {x = w + 1} {y = suc w} (omega arith)

-- 0 is blank
no_tens : (w : ℕ) → tens w 0 ≡ blanks w
unfolding tens tens_digit
no_tens zero = refl
no_tens (suc w) = ap (λ (l : List ℕ). l ++ (32 ∷ [])) (no_tens w) ∙ one_more w

-- a last digit behind
behind : (w : ℕ) (xs : List ℕ) (d : ℕ) → right_aligned (suc w) (xs ++ (d ∷ [])) ≡ right_aligned w xs ++ (d ∷ [])
unfolding right_aligned
behind w xs d =
    ap (λ (n : ℕ). blanks n ++ (xs ++ (d ∷ []))) {x = suc w - length (xs ++ (d ∷ []))} {y = w - length xs} (omega (arith, length-append xs (d ∷ [])))
    ∙ sym (append_assoc (blanks (w - length xs)) xs (d ∷ []))

one_digit : (w n : ℕ) → n < 10 → right_aligned (suc w) ((48 + n) ∷ []) ≡ tens w (n / 10) ++ ((48 + n % 10) ∷ [])
unfolding right_aligned
one_digit w n h =
    let z : n / 10 ≡ 0 = omega arith in
    let m : n % 10 ≡ n = mod-eq_of_lt h in
    ap (λ (k : ℕ). blanks k ++ ((48 + n) ∷ [])) {x = suc w - 1} {y = w} (omega arith) ∙ (λ i. sym (ap (tens w) z ∙ no_tens w) i ++ ((48 + sym m i) ∷ []))

-- the decimal of the tenth is right-aligned in one column less
more_digits : (v n : ℕ) → 10 ≤ n → right_aligned (suc v) (decimal (n / 10)) ≡ tens v (n / 10 / 10) ++ ((48 + n / 10 % 10) ∷ [])
    → right_aligned (suc (suc v)) (decimal (n / 10) ++ ((48 + n % 10) ∷ [])) ≡ tens (suc v) (n / 10) ++ ((48 + n % 10) ∷ [])
unfolding tens tens_digit
more_digits v n g e =
    behind (suc v) (decimal (n / 10)) (48 + n % 10)
    ∙ ap (λ (l : List ℕ). l ++ ((48 + n % 10) ∷ []))
    (e ∙ ap (λ (b : Bool). tens v (n / 10 / 10) ++ (cond b 32 (48 + n / 10 % 10) ∷ [])) (sym (ne_eqb (n / 10) 0 (λ z. omega arith))))

pub aligned : (w n : ℕ) → n < 10 ^ suc w → right_aligned (suc w) (decimal n) ≡ tens w (n / 10) ++ ((48 + n % 10) ∷ [])
aligned zero n h = ap (right_aligned 1) (decimal_is n) ∙ ap (λ (b : Bool). right_aligned 1 (cond b ((48 + n) ∷ []) (decimal (n / 10) ++ ((48 + n % 10) ∷ [])))) (lt-ltb n 10 few) ∙ one_digit 0 n few
  where
    few : n < 10
    few = omega (arith, pow-succ' 10 0)
aligned (suc v) n h = ap (right_aligned (suc (suc v))) (decimal_is n) ∙ go (ltb n 10) refl (λ g. aligned v (n / 10) g)
  where
    go : (b : Bool) → ltb n 10 ≡ b → (n / 10 < 10 ^ suc v → right_aligned (suc v) (decimal (n / 10)) ≡ tens v (n / 10 / 10) ++ ((48 + n / 10 % 10) ∷ []))
        → right_aligned (suc (suc v)) (cond b ((48 + n) ∷ []) (decimal (n / 10) ++ ((48 + n % 10) ∷ []))) ≡ tens (suc v) (n / 10) ++ ((48 + n % 10) ∷ [])
    go true t e = one_digit (suc v) n (ltb-true n 10 t)
    go false t e = more_digits v n (ltb-false n 10 t) (e (omega (arith, pow-succ' 10 (suc v))))

pub length_aligned : (w n : ℕ) → n < 10 ^ suc w → length (right_aligned (suc w) (decimal n)) ≡ suc w
length_aligned w n h = ap length (aligned w n h) ∙ length-append (tens w (n / 10)) ((48 + n % 10) ∷ []) ∙ omega (arith, length_tens w (n / 10))
