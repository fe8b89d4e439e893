-- An `f32` in the normal range has the `f64` pattern m + 896 * 2 ^ 23 with 29 zeros after it (`widened`). So an `f64` pattern in that range, rounded to its upper 35 bits, is a value that `f32` holds, and the nearest there (`rounded`).
use Rattle.std.proofs.Common.{◌≡◌, ℕ, zero, suc, ◌+◌, ◌-◌, ◌*◌, ◌/◌, ◌%◌, ◌^◌, ◌<◌, ◌≤◌, Bool, true, false, cond, not, ◌&&◌, T, eqb, leb, pos, negsuc, sym, refl, ap, ◌∙◌, subst, inl, inr, lt_irrefl, eq-zero-or-pos, mul-one, mul-div_cancel, arith, le→leb, eqb→eq, leb→le, pow_pos, pow-add}
use native.Mathlib.Nat.{div-div-eq-div-mul}
use Prim.Native.Nat.{min}
use lib.Dec.{nleb→lt}
use lib.Arith.{lt→nleb}
use lib.Bits.{shifted_half, shifted_even}
use lib.Count.{count_trailing_zeros, under}
use lib.Ieee.{Float, nan, inf, fin, binary32, binary64, minus, odd, up, down, fits, neg, of_bits, of_fields, nan_bits, is_nan}
use lib.Ieee.Bits.{is_true, is_false, nan_bits_is}
use lib.Ieee.Fits.{round-fits, and_i}
use Rattle.float_rounding.proofs.Order.{bits_neg}
use Rattle.floats.specs.Narrow.{narrow}
use Rattle.floats.proofs.Nan.{no_nan_bits}
use Rattle.floats.proofs.Narrowing.{in_range}
use Rattle.floats.proofs.NarrowOrder.{narrow_neg}

-- ---- an odd number times a power of two, with 29 zeros more and the exponent counted from 2 ^ -1074
tz_more : (j d q : ℕ) → count_trailing_zeros (j + d) (q * 2 ^ j) ≡ j + count_trailing_zeros d q
unfolding count_trailing_zeros
tz_more zero d q = ap (λ (z : ℕ). count_trailing_zeros z (q * 2 ^ 0)) (none d) ∙ ap (count_trailing_zeros d) (mul-one q) ∙ sym (none (count_trailing_zeros d q))
  where
    none : (d : ℕ) → 0 + d ≡ d
    none d = omega arith
tz_more (suc j) d q =
    ap (λ (z : ℕ). count_trailing_zeros z (q * 2 ^ suc j)) (one j d)
    ∙ ap (λ (r : ℕ). under r (count_trailing_zeros (j + d) (q * 2 ^ suc j / 2))) (shifted_even q j)
    ∙ ap (λ (x : ℕ). suc (count_trailing_zeros (j + d) x)) (shifted_half q j)
    ∙ ap suc (tz_more j d q)
    ∙ sym (one j (count_trailing_zeros d q))
  where
    one : (j d : ℕ) → suc j + d ≡ suc (j + d)
    one j d = omega arith

minus_more : (a b c : ℕ) → minus (a + c) (b + c) ≡ minus a b
minus_more a b c = go (leb b a) (leb→le b a) (nleb→lt b a)
  where
    above : (a b c : ℕ) → b ≤ a → b + c ≤ a + c
    above a b c h = omega arith

    below : (a b c : ℕ) → a < b → a + c < b + c
    below a b c h = omega arith

    kept : (a b c : ℕ) → a + c - (b + c) ≡ a - b
    kept a b c = omega arith

    left : (a b c : ℕ) → b + c - suc (a + c) ≡ b - suc a
    left a b c = omega arith

    go : (t : Bool) → (T t → b ≤ a) → (T (not t) → a < b) → minus (a + c) (b + c) ≡ cond t (pos (a - b)) (negsuc (b - suc a))
    go true h g = ap (λ (t : Bool). cond t (pos (a + c - (b + c))) (negsuc (b + c - suc (a + c)))) (is_true (leb (b + c) (a + c)) (le→leb (b + c) (a + c) (above a b c (h tt)))) ∙ ap pos (kept a b c)
    go false h g = ap (λ (t : Bool). cond t (pos (a + c - (b + c))) (negsuc (b + c - suc (a + c)))) (is_false (leb (b + c) (a + c)) (lt→nleb (b + c) (a + c) (below a b c (g tt)))) ∙ ap negsuc (left a b c)

odd_pos : (d q k l : ℕ) → 0 < q → odd d false q k l ≡ fin false (q / 2 ^ count_trailing_zeros d q) (minus (k + count_trailing_zeros d q) l)
unfolding odd
odd_pos d zero k l h = absurd (lt_irrefl 0 h)
odd_pos d (suc q) k l h = refl

odd_more : (q k : ℕ) → 0 < q → odd 53 false (q * 2 ^ 29) (k + 896) 1074 ≡ odd 24 false q k 149
odd_more q k h =
    let t = count_trailing_zeros 24 q in
    odd_pos 53 (q * 2 ^ 29) (k + 896) 1074 (more q h)
    ∙ ap (λ (z : ℕ). fin false (q * 2 ^ 29 / 2 ^ z) (minus (k + 896 + z) 1074)) (tz_more 29 24 q)
    ∙ ap (λ (x : ℕ). fin false x (minus (k + 896 + (29 + t)) 1074)) (ap (λ (x : ℕ). q * 2 ^ 29 / x) (pow-add 2 29 t) ∙ sym (div-div-eq-div-mul (q * 2 ^ 29) (2 ^ 29) (2 ^ t)) ∙ ap (λ (x : ℕ). x / 2 ^ t) (mul-div_cancel q (pow_pos 29)))
    ∙ ap (λ (x : ℕ). fin false (q / 2 ^ t) (minus x 1074)) (at k t)
    ∙ ap (fin false (q / 2 ^ t)) (minus_more (k + t) 149 925)
    ∙ sym (odd_pos 24 q k 149 h)
  where
    more : (q : ℕ) → 0 < q → 0 < q * 536870912
    more q h = omega arith

    at : (k t : ℕ) → k + 896 + (29 + t) ≡ k + t + 925
    at k t = omega arith

-- ---- patterns of the normal range
unequal : (a b : ℕ) → a < b → eqb a b ≡ false
unequal a b h = go (eqb a b) (eqb→eq a b)
  where
    go : (t : Bool) → (T t → a ≡ b) → t ≡ false
    go true e = absurd (omega (arith, e tt))
    go false e = refl

fields_64 : (b x t : ℕ) → b < 9223372036854775808 → b / 4503599627370496 ≡ suc x → suc x < 2047 → b % 4503599627370496 ≡ t → of_bits binary64 b ≡ odd 53 false (4503599627370496 + t) x 1074
unfolding of_bits of_fields
fields_64 b x t h e g d =
    ap (λ (s : Bool). of_fields binary64 s (b % 9223372036854775808 / 4503599627370496) (b % 4503599627370496)) (is_false (leb 9223372036854775808 b) (lt→nleb 9223372036854775808 b h))
    ∙ ap (λ (z : ℕ). of_fields binary64 false z (b % 4503599627370496)) (whole b h ∙ e)
    ∙ ap (of_fields binary64 false (suc x)) d
    ∙ ap (λ (z : Bool). cond z (cond (eqb t 0) (inf false) nan) (odd 53 false (4503599627370496 + t) x 1074)) (unequal (suc x) 2047 g)
  where
    whole : (b : ℕ) → b < 9223372036854775808 → b % 9223372036854775808 / 4503599627370496 ≡ b / 4503599627370496
    whole b h = omega arith

fields_32 : (b x t : ℕ) → b < 2147483648 → b / 8388608 ≡ suc x → suc x < 255 → b % 8388608 ≡ t → of_bits binary32 b ≡ odd 24 false (8388608 + t) x 149
unfolding of_bits of_fields
fields_32 b x t h e g d =
    ap (λ (s : Bool). of_fields binary32 s (b % 2147483648 / 8388608) (b % 8388608)) (is_false (leb 2147483648 b) (lt→nleb 2147483648 b h))
    ∙ ap (λ (z : ℕ). of_fields binary32 false z (b % 8388608)) (whole b h ∙ e)
    ∙ ap (of_fields binary32 false (suc x)) d
    ∙ ap (λ (z : Bool). cond z (cond (eqb t 0) (inf false) nan) (odd 24 false (8388608 + t) x 149)) (unequal (suc x) 255 g)
  where
    whole : (b : ℕ) → b < 2147483648 → b % 2147483648 / 8388608 ≡ b / 8388608
    whole b h = omega arith

widened : (m : ℕ) → 8388608 ≤ m → m < 2139095040 → of_bits binary64 ((m + 7516192768) * 536870912) ≡ of_bits binary32 m
widened m lo hi =
    let x = m / 8388608 - 1 in
    let t = m % 8388608 in
    fields_64 ((m + 7516192768) * 536870912) (x + 896) (t * 536870912) (below m hi) (field m lo) (small m hi lo) (digits m)
    ∙ ap (λ (q : ℕ). odd 53 false q (x + 896) 1074) (factor t)
    ∙ odd_more (8388608 + t) x (positive t)
    ∙ sym (fields_32 m x t (less m hi) (own m lo) (small_32 m hi lo) refl)
  where
    below : (m : ℕ) → m < 2139095040 → (m + 7516192768) * 536870912 < 9223372036854775808
    below m h = omega arith

    field : (m : ℕ) → 8388608 ≤ m → (m + 7516192768) * 536870912 / 4503599627370496 ≡ suc (m / 8388608 - 1 + 896)
    field m h = omega arith

    small : (m : ℕ) → m < 2139095040 → 8388608 ≤ m → suc (m / 8388608 - 1 + 896) < 2047
    small m h l = omega arith

    digits : (m : ℕ) → (m + 7516192768) * 536870912 % 4503599627370496 ≡ m % 8388608 * 536870912
    digits m = omega arith

    factor : (t : ℕ) → 4503599627370496 + t * 536870912 ≡ (8388608 + t) * 536870912
    factor t = omega arith

    positive : (t : ℕ) → 0 < 8388608 + t
    positive t = omega arith

    less : (m : ℕ) → m < 2139095040 → m < 2147483648
    less m h = omega arith

    own : (m : ℕ) → 8388608 ≤ m → m / 8388608 ≡ suc (m / 8388608 - 1)
    own m h = omega arith

    small_32 : (m : ℕ) → m < 2139095040 → 8388608 ≤ m → suc (m / 8388608 - 1) < 255
    small_32 m h l = omega arith

-- ---- rounded to its upper 35 bits
unfoldable pub upper : ℕ → ℕ
upper b = (b + 268435455 + b / 536870912 % 2) / 536870912 * 536870912

below_top : (m : ℕ) → m ≤ 2139095040 → m ≡ min m 2139095040
below_top m h = omega arith

clear : (n : ℕ) → 4039728865751334912 ≤ n → n < 5179139571476070400 → of_bits binary64 (upper n) ≡ narrow (of_bits binary64 n)
unfolding upper
clear n lo hi =
    let m = (n + 268435455 + n / 536870912 % 2) / 536870912 - 7516192768 in
    ap (of_bits binary64) (back n lo) ∙ widened m (least n lo) (most n hi) ∙ in_range n m (finite n hi) lo (below_top m (under_top n hi))
  where
    back : (n : ℕ) → 4039728865751334912 ≤ n → (n + 268435455 + n / 536870912 % 2) / 536870912 * 536870912 ≡ ((n + 268435455 + n / 536870912 % 2) / 536870912 - 7516192768 + 7516192768) * 536870912
    back n h = omega arith

    least : (n : ℕ) → 4039728865751334912 ≤ n → 8388608 ≤ (n + 268435455 + n / 536870912 % 2) / 536870912 - 7516192768
    least n h = omega arith

    most : (n : ℕ) → n < 5179139571476070400 → (n + 268435455 + n / 536870912 % 2) / 536870912 - 7516192768 < 2139095040
    most n h = omega arith

    finite : (n : ℕ) → n < 5179139571476070400 → n ≤ 9218868437227405312
    finite n h = omega arith

    under_top : (n : ℕ) → n < 5179139571476070400 → (n + 268435455 + n / 536870912 % 2) / 536870912 - 7516192768 ≤ 2139095040
    under_top n h = omega arith

narrow_fits : (x : Float) → T (fits binary32 (narrow x))
unfolding narrow
narrow_fits nan = unfold fits in tt
narrow_fits (inf s) = unfold fits in tt
narrow_fits (fin s m e) = round-fits binary32 s (m * up e) (down e)

-- with the sign
pub rounded : (b : ℕ) → b < 18446744073709551616 → 4039728865751334912 ≤ b % 9223372036854775808 → b % 9223372036854775808 < 5179139571476070400 → of_bits binary64 (upper b) ≡ narrow (of_bits binary64 b)
rounded b B lo hi = elim (eq-zero-or-pos (b / 9223372036854775808)) [
  | inl z ↦ subst (λ (n : ℕ). of_bits binary64 (upper n) ≡ narrow (of_bits binary64 n)) (plain b z) (clear (b % 9223372036854775808) lo hi)
  | inr p ↦ ap (of_bits binary64) (signed b B p) ∙ bits_neg binary64 (upper (b % 9223372036854775808)) (room b hi) ∙ ap neg (clear (b % 9223372036854775808) lo hi) ∙ sym (narrow_neg (of_bits binary64 (b % 9223372036854775808)))
      ∙ ap narrow (sym (bits_neg binary64 (b % 9223372036854775808) (rest b)) ∙ ap (of_bits binary64) (whole b B p))
]
  where
    plain : (b : ℕ) → b / 9223372036854775808 ≡ 0 → b % 9223372036854775808 ≡ b
    plain b z = omega arith

    whole : (b : ℕ) → b < 18446744073709551616 → 0 < b / 9223372036854775808 → 9223372036854775808 + b % 9223372036854775808 ≡ b
    whole b h p = omega arith

    rest : (b : ℕ) → b % 9223372036854775808 < 9223372036854775808
    rest b = omega arith

    quotient : (n : ℕ) → (9223372036854775808 + n) / 536870912 ≡ 2 * 8589934592 + n / 536870912
    quotient n = omega arith

    even : (u : ℕ) → (2 * 8589934592 + u) % 2 ≡ u % 2
    even u = omega arith

    moved : (n r : ℕ) → (9223372036854775808 + n + 268435455 + r) / 536870912 * 536870912 ≡ 9223372036854775808 + (n + 268435455 + r) / 536870912 * 536870912
    moved n r = omega arith

    shifted : (n : ℕ) → (9223372036854775808 + n + 268435455 + (9223372036854775808 + n) / 536870912 % 2) / 536870912 * 536870912 ≡ 9223372036854775808 + (n + 268435455 + n / 536870912 % 2) / 536870912 * 536870912
    shifted n = ap (λ (r : ℕ). (9223372036854775808 + n + 268435455 + r) / 536870912 * 536870912) (ap (λ (x : ℕ). x % 2) (quotient n) ∙ even (n / 536870912)) ∙ moved n (n / 536870912 % 2)

    signed : (b : ℕ) → b < 18446744073709551616 → 0 < b / 9223372036854775808 → upper b ≡ 9223372036854775808 + upper (b % 9223372036854775808)
    signed b h p = ap upper (sym (whole b h p)) ∙ (unfold upper in shifted (b % 9223372036854775808))

    room : (b : ℕ) → b % 9223372036854775808 < 5179139571476070400 → upper (b % 9223372036854775808) < 9223372036854775808
    room b h = unfold upper in most (b % 9223372036854775808) h
      where
        most : (n : ℕ) → n < 5179139571476070400 → (n + 268435455 + n / 536870912 % 2) / 536870912 * 536870912 < 9223372036854775808
        most n h = omega arith

-- so the cast loses nothing
kept : (b : ℕ) → b < 18446744073709551616 → 4039728865751334912 ≤ b % 9223372036854775808 → b % 9223372036854775808 < 5179139571476070400 → T (fits binary32 (of_bits binary64 (upper b)))
kept b B lo hi = subst (λ (x : Float). T (fits binary32 x)) (sym (rounded b B lo hi)) (narrow_fits (of_bits binary64 b))

pub no_nan : (b : ℕ) → b % 9223372036854775808 < 5179139571476070400 → T (not (nan_bits binary64 (upper b)))
no_nan b h = no_nan_bits binary64 (upper b) (unfold upper in size b h)
  where
    size : (b : ℕ) → b % 9223372036854775808 < 5179139571476070400 → (b + 268435455 + b / 536870912 % 2) / 536870912 * 536870912 % 9223372036854775808 ≤ 9218868437227405312
    size b h = split b (b / 536870912 % 2) (bit (b / 536870912)) h
      where
        bit : (u : ℕ) → u % 2 ≤ 1
        bit u = omega arith

        split : (b r : ℕ) → r ≤ 1 → b % 9223372036854775808 < 5179139571476070400 → (b + 268435455 + r) / 536870912 * 536870912 % 9223372036854775808 ≤ 9218868437227405312
        split b r e h = omega arith

pub holds : (b : ℕ) → b < 18446744073709551616 → 4039728865751334912 ≤ b % 9223372036854775808 → b % 9223372036854775808 < 5179139571476070400 → T (fits binary32 (of_bits binary64 (upper b)) && not (is_nan (of_bits binary64 (upper b))))
holds b B lo hi =
    and_i (fits binary32 (of_bits binary64 (upper b))) (not (is_nan (of_bits binary64 (upper b)))) (kept b B lo hi)
    (subst (λ (t : Bool). T (not t)) (nan_bits_is binary64 (upper b)) (no_nan b hi))
