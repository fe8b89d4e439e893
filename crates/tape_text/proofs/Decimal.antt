-- The decimal of a number has no bound on its digits (`decimal-is`), and is the number's fewest digits (`decimal-fewest`).
use Prim.Native.Nat.{ℕ, zero, suc, ◌+◌, ◌-◌, ◌/◌, ◌%◌, ◌^◌, ◌≤◌, ◌<◌}
use mathlib.Core.Path.{◌≡◌, refl, sym, ap, ◌∙◌, subst}
use mathlib.Core.Bool.{Bool, true, false, cond}
use mathlib.Core.List.{List, [], ◌∷◌, ◌++◌}
use native.Mathlib.Omega.{arith}
use native.Mathlib.Nat.{pow-succ', mod-lt, mod-eq_of_lt, pow-le-pow_right}
use lib.Dec.{ltb, leb}
use lib.ListN.{length, length-append}
use borrow.Author.Tests.{lt-ltb, le-ltb, ltb-false, leb-true, leb-false}
use Rattle.io.specs.Digits.{last_digits, hex_digit_ascii, IsDigitCount}
use Rattle.tape_text.specs.Text.{digits_of, decimal}

pub length_digits : (k n : ℕ) → length (last_digits 10 k n) ≡ k
length_digits zero n = refl
length_digits (suc k) n = length-append (last_digits 10 k (n / 10)) (hex_digit_ascii (n % 10) ∷ []) ∙ omega (arith, length_digits k (n / 10))

glyph_digit : (d : ℕ) → d < 10 → hex_digit_ascii d ≡ 48 + d
glyph_digit d h = ap (λ (b : Bool). cond b (48 + d) (87 + d)) (lt-ltb d 10 h)

one_digit : (m n : ℕ) → n < 10 → (hex_digit_ascii (n % 10) ∷ []) ≡ digits_of (suc m) n
unfolding digits_of
one_digit m n h =
    ap (λ (d : ℕ). d ∷ []) (ap hex_digit_ascii (mod-eq_of_lt h) ∙ glyph_digit n h)
    ∙ sym (ap (λ (b : Bool). cond b ((48 + n) ∷ []) (digits_of m (n / 10) ++ ((48 + n % 10) ∷ []))) (lt-ltb n 10 h))

more_digits : (m n : ℕ) (front : List ℕ) → 10 ≤ n → front ≡ digits_of m (n / 10) → front ++ (hex_digit_ascii (n % 10) ∷ []) ≡ digits_of (suc m) n
unfolding digits_of
more_digits m n front h e =
    (λ i. e i ++ (glyph_digit (n % 10) (mod-lt n (omega arith)) i ∷ []))
    ∙ sym (ap (λ (b : Bool). cond b ((48 + n) ∷ []) (digits_of m (n / 10) ++ ((48 + n % 10) ∷ []))) (le-ltb n 10 h))

power : (i : ℕ) → 1 ≤ 10 ^ i
power zero = omega arith
power (suc i) = omega (arith, pow-succ' 10 i, power i)

ap_le : (i n : ℕ) → 10 ^ (suc (suc i) - 1) ≤ n → 10 ^ suc i ≤ n
ap_le i n h = let e : suc (suc i) - 1 ≡ suc i = omega arith in subst (λ (k : ℕ). 10 ^ k ≤ n) e h

fewer : (i n : ℕ) → 10 ^ suc i ≤ n → 1 < suc i → 10 ^ (suc i - 1) ≤ n / 10
fewer i n h g = let e : suc i - 1 ≡ i = omega arith in subst (λ (k : ℕ). 10 ^ k ≤ n / 10) (sym e) (omega (arith, pow-succ' 10 i))

fewest_digits : (m k n : ℕ) → k ≤ m → IsDigitCount 10 1 n k → last_digits 10 k n ≡ digits_of m n
fewest_digits zero k n h f = absurd (omega (arith, f.0))
fewest_digits (suc m) zero n h f = absurd (omega (arith, f.0))
fewest_digits (suc m) (suc zero) n h f = one_digit m n (omega (arith, f.1, pow-succ' 10 0))
fewest_digits (suc m) (suc (suc i)) n h f =
    let low : 10 ^ suc i ≤ n = ap_le i n (f.2 (omega arith)) in
    more_digits m n _ (omega (arith, low, pow-succ' 10 i, power i))
    (fewest_digits m (suc i) (n / 10) (omega arith)
    (omega arith, omega (arith, f.1, pow-succ' 10 (suc i)), λ g. fewer i n low g))

-- ---- the number of digits that the definition allows is idle: with any two that are above the number, the digits are the same
enough : (k m n : ℕ) → n < k → n < m → digits_of k n ≡ digits_of m n
unfolding digits_of
enough zero m n h g = absurd (omega arith)
enough (suc k) zero n h g = absurd (omega arith)
enough (suc k) (suc m) n h g = go (ltb n 10) refl (enough k m (n / 10))
  where
    go : (b : Bool) → ltb n 10 ≡ b → (n / 10 < k → n / 10 < m → digits_of k (n / 10) ≡ digits_of m (n / 10))
        → cond b ((48 + n) ∷ []) (digits_of k (n / 10) ++ ((48 + n % 10) ∷ [])) ≡ cond b ((48 + n) ∷ []) (digits_of m (n / 10) ++ ((48 + n % 10) ∷ []))
    go true t same = refl
    go false t same =
        let large : 10 ≤ n = ltb-false n 10 t in
        ap (λ (front : List ℕ). front ++ ((48 + n % 10) ∷ [])) (same (omega arith) (omega arith))

pub decimal_is : (n : ℕ) → decimal n ≡ cond (ltb n 10) ((48 + n) ∷ []) (decimal (n / 10) ++ ((48 + n % 10) ∷ []))
unfolding decimal digits_of
decimal_is n = go (ltb n 10) refl
  where
    go : (b : Bool) → ltb n 10 ≡ b → cond b ((48 + n) ∷ []) (digits_of n (n / 10) ++ ((48 + n % 10) ∷ [])) ≡ cond b ((48 + n) ∷ []) (digits_of (suc (n / 10)) (n / 10) ++ ((48 + n % 10) ∷ []))
    go true t = refl
    go false t =
        let large : 10 ≤ n = ltb-false n 10 t in
        ap (λ (front : List ℕ). front ++ ((48 + n % 10) ∷ [])) (enough n (suc (n / 10)) (n / 10) (omega arith) (omega arith))

below_power : (i : ℕ) → i < 10 ^ i
below_power zero = omega arith
below_power (suc i) = omega (arith, pow-succ' 10 i, below_power i)

within_decimal : (k n : ℕ) → IsDigitCount 10 1 n k → k ≤ suc n
within_decimal zero n f = omega arith
within_decimal (suc zero) n f = omega arith
within_decimal (suc (suc i)) n f = omega (arith, ap_le i n (f.2 (omega arith)), below_power (suc i))

pub decimal_fewest : (k n : ℕ) → IsDigitCount 10 1 n k → last_digits 10 k n ≡ decimal n
unfolding decimal
decimal_fewest k n f = fewest_digits (suc n) k n (within_decimal k n f) f

-- a u64 has at most 20 digits
pub few_digits : (n k : ℕ) → n < 2 ^ 64 → IsDigitCount 10 1 n k → k ≤ 20
few_digits n k h f = go (leb k 20) refl
  where
    go : (b : Bool) → leb k 20 ≡ b → k ≤ 20
    go true e = leb-true k 20 e
    go false e =
        let g : 20 < k = leb-false k 20 e in
        let p : 10 ^ 20 ≤ 10 ^ (k - 1) = pow-le-pow_right (omega arith) {i = 20} {j = k - 1} (omega arith) in
        absurd (omega (arith, p, f.2 (omega arith)))
