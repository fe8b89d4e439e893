-- The long division a byte at a time, and parity in these terms.
use Prim.Native.Nat.{ℕ, ◌+◌, ◌*◌, ◌/◌, ◌%◌, ◌<◌}
use mathlib.Core.Path.{◌≡◌, refl, sym, ap, ap₂, ◌∙◌}
use mathlib.Core.List.{List, [], ◌∷◌, ◌++◌}
use native.Mathlib.Nat.{mod-lt, mod-eq_of_lt}
use native.Mathlib.Omega.{arith}
use lib.ListN.{replicate}
use lib.Bits.{bit_xor, xor_block, xor_mod, xor_lt}
use Rattle.mode_s.specs.Parity.{divisor, reduced, brought, remainder, bits, parity_of}
use Rattle.mode_s.proofs.Xor.{bit_lt, xor_swap, xor_bit_mul, xor_bit}

-- the remainder with the eight bits of a byte brought down
unfoldable pub byte_over : ℕ → ℕ → ℕ
byte_over r b =
    brought (brought (brought (brought (brought (brought (brought (brought r
    (b / 128 % 2)) (b / 64 % 2)) (b / 32 % 2)) (b / 16 % 2)) (b / 8 % 2)) (b / 4 % 2)) (b / 2 % 2)) (b % 2)

-- and with a list of bytes
unfoldable pub over : ℕ → List ℕ → ℕ
over r [] = r
over r (b ∷ bs) = over (byte_over r b) bs

zeros_over : (r : ℕ) (bs : List ℕ) → remainder r (bits bs ++ replicate 24 0) ≡ over r (bs ++ (0 ∷ 0 ∷ 0 ∷ []))
unfolding remainder bits over byte_over
zeros_over r [] = refl
zeros_over r (b ∷ bs) = zeros_over (byte_over r b) bs

-- 24 zero bits are three zero bytes
pub parity_over : (bs : List ℕ) → parity_of bs ≡ over 0 (bs ++ (0 ∷ 0 ∷ 0 ∷ []))
unfolding parity_of
parity_over bs = zeros_over 0 bs

pub over_append : (r : ℕ) (xs ys : List ℕ) → over r (xs ++ ys) ≡ over (over r xs) ys
unfolding over
over_append r [] ys = refl
over_append r (x ∷ xs) ys = over_append (byte_over r x) xs ys

-- ---- exclusive or passes through

reduced_xor : (n m : ℕ) → reduced (bit_xor n m) ≡ bit_xor (reduced n) (reduced m)
unfolding reduced
reduced_xor n m =
    ap₂ (λ (x y : ℕ). bit_xor (x * divisor) y) (xor_bit n m 24) (xor_mod n m 24)
    ∙ ap (λ (x : ℕ). bit_xor x (bit_xor (n % 0x1000000) (m % 0x1000000)))
    (xor_bit_mul (n / 0x1000000 % 2) (m / 0x1000000 % 2) divisor (bit_lt (n / 0x1000000)) (bit_lt (m / 0x1000000)))
    ∙ xor_swap (n / 0x1000000 % 2 * divisor) (m / 0x1000000 % 2 * divisor) (n % 0x1000000) (m % 0x1000000)

-- one more bit, d of the one and e of the other
more : {x f : ℕ} (r s d e : ℕ) → x ≡ bit_xor r s → f ≡ bit_xor d e → d < 2 → e < 2
    → brought x f ≡ bit_xor (brought r d) (brought s e)
unfolding brought
more r s d e p q hd he =
    ap reduced (ap₂ (λ (x y : ℕ). x * 2 + y) p q ∙ sym (xor_block 1 r s d e hd he)) ∙ reduced_xor (r * 2 + d) (s * 2 + e)

pub byte_over_xor : (r s b c : ℕ) → byte_over (bit_xor r s) (bit_xor b c) ≡ bit_xor (byte_over r b) (byte_over s c)
unfolding byte_over
byte_over_xor r s b c =
    more _ _ (b % 2) (c % 2)
    (more _ _ (b / 2 % 2) (c / 2 % 2)
    (more _ _ (b / 4 % 2) (c / 4 % 2)
    (more _ _ (b / 8 % 2) (c / 8 % 2)
    (more _ _ (b / 16 % 2) (c / 16 % 2)
    (more _ _ (b / 32 % 2) (c / 32 % 2)
    (more _ _ (b / 64 % 2) (c / 64 % 2)
    (more r s (b / 128 % 2) (c / 128 % 2) refl
    (xor_bit b c 7) (bit_lt _) (bit_lt _))
    (xor_bit b c 6) (bit_lt _) (bit_lt _))
    (xor_bit b c 5) (bit_lt _) (bit_lt _))
    (xor_bit b c 4) (bit_lt _) (bit_lt _))
    (xor_bit b c 3) (bit_lt _) (bit_lt _))
    (xor_bit b c 2) (bit_lt _) (bit_lt _))
    (xor_bit b c 1) (bit_lt _) (bit_lt _))
    (xor_mod b c 1) (bit_lt _) (bit_lt _)

-- ---- bounds, and bits brought down below x^24

pub reduced_lt : (n : ℕ) → reduced n < 0x1000000
unfolding reduced
reduced_lt n = xor_lt 24 (n / 0x1000000 % 2 * divisor) (n % 0x1000000) (omega (arith, bit_lt (n / 0x1000000))) (mod-lt n (omega arith))

pub over_lt : (r : ℕ) (bs : List ℕ) → r < 0x1000000 → over r bs < 0x1000000
unfolding over byte_over brought
over_lt r [] h = h
over_lt r (b ∷ bs) h = over_lt (byte_over r b) bs (reduced_lt _)

brought_small : (r d : ℕ) → r < 0x800000 → d < 2 → brought r d ≡ r * 2 + d
unfolding brought reduced
brought_small r d hr hd =
    let q : (r * 2 + d) / 0x1000000 % 2 ≡ 0 = omega arith in
    ap₂ (λ (x y : ℕ). bit_xor (x * divisor) y) q (mod-eq_of_lt (omega arith))

next : {x : ℕ} (y z d : ℕ) → x ≡ y → y < 0x800000 → d < 2 → y * 2 + d ≡ z → brought x d ≡ z
next y z d p h hd q = ap (λ (n : ℕ). brought n d) p ∙ brought_small y d h hd ∙ q

pub byte_over_small : (r b : ℕ) → r < 0x10000 → b < 256 → byte_over r b ≡ r * 256 + b
unfolding byte_over
byte_over_small r b hr hb =
    next (r * 128 + b / 2) (r * 256 + b) (b % 2)
    (next (r * 64 + b / 4) (r * 128 + b / 2) (b / 2 % 2)
    (next (r * 32 + b / 8) (r * 64 + b / 4) (b / 4 % 2)
    (next (r * 16 + b / 16) (r * 32 + b / 8) (b / 8 % 2)
    (next (r * 8 + b / 32) (r * 16 + b / 16) (b / 16 % 2)
    (next (r * 4 + b / 64) (r * 8 + b / 32) (b / 32 % 2)
    (next (r * 2 + b / 128) (r * 4 + b / 64) (b / 64 % 2)
    (next r (r * 2 + b / 128) (b / 128 % 2) refl
    (omega arith) (bit_lt _) (omega arith))
    (omega arith) (bit_lt _) (omega arith))
    (omega arith) (bit_lt _) (omega arith))
    (omega arith) (bit_lt _) (omega arith))
    (omega arith) (bit_lt _) (omega arith))
    (omega arith) (bit_lt _) (omega arith))
    (omega arith) (bit_lt _) (omega arith))
    (omega arith) (bit_lt _) (omega arith)
