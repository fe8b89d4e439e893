-- A flipped bit changes the parity of a message of any length by the remainder of a power of x, which depends on its place alone (`any-change`).
use Prim.Native.Nat.{ℕ, zero, suc, ◌+◌, ◌-◌, ◌*◌, ◌/◌, ◌%◌, ◌^◌, ◌<◌}
use mathlib.Core.Path.{◌≡◌, refl, sym, ap, ap₂, ◌∙◌}
use mathlib.Core.Bool.{Bool}
use mathlib.Core.List.{List, [], ◌∷◌, ◌++◌}
use native.Mathlib.Nat.{zero-add, suc-add}
use native.Mathlib.Omega.{arith}
use lib.Dec.{T, eqb, eqb→eq}
use lib.ListN.{length, get_or, set, replicate, length-set, length-replicate}
use lib.Bits.{bit_xor, xor_zero_r}
use Rattle.mode_s.specs.Parity.{reduced, brought, parity_of, laid}
use Rattle.mode_s.proofs.Below.{every, below}
use Rattle.mode_s.proofs.ByBytes.{byte_over, over}
use Rattle.mode_s.proofs.Laws.{shifted, parity_shifted, parity_laid}
use Rattle.mode_s.specs.Change.{flipped, power_remainder}

-- ---- flipping is laying a message over it that has this bit alone

-- n bytes with that one bit
unfoldable lone : ℕ → ℕ → List ℕ
lone n place = set (replicate n 0) (n - 1 - place / 8) (2 ^ (place % 8))

over_zeros : (bs : List ℕ) → laid bs (replicate (length bs) 0) ≡ bs
unfolding laid
over_zeros [] = refl
over_zeros (b ∷ bs) = ap₂ ◌∷◌ (xor_zero_r b) (over_zeros bs)

set_laid : (bs : List ℕ) (i v : ℕ) → set bs i (bit_xor (get_or bs i 0) v) ≡ laid bs (set (replicate (length bs) 0) i v)
unfolding laid
set_laid [] i v = refl
set_laid (b ∷ bs) zero v = ap (λ (l : List ℕ). bit_xor b v ∷ l) (sym (over_zeros bs))
set_laid (b ∷ bs) (suc i) v = ap₂ ◌∷◌ (sym (xor_zero_r b)) (set_laid bs i v)

flipped_lone : (place : ℕ) (bs : List ℕ) → flipped place bs ≡ laid bs (lone (length bs) place)
unfolding flipped lone
flipped_lone place bs = set_laid bs (length bs - 1 - place / 8) (2 ^ (place % 8))

lone_length : (n place : ℕ) → n ≡ length (lone n place)
unfolding lone
lone_length n place = simp (length-set, length-replicate)

-- ---- zero bytes before the bit, and behind it

-- eight bits more
power_byte : (p : ℕ) → byte_over (power_remainder p) 0 ≡ power_remainder (8 + p)
unfolding byte_over power_remainder
power_byte p =
    let e : suc (suc (suc (suc (suc (suc (suc (suc p))))))) ≡ 8 + p = omega arith in
    ap power_remainder e

zeros_behind : (k p : ℕ) → over (power_remainder p) (replicate k 0) ≡ power_remainder (8 * k + p)
unfolding over
zeros_behind zero p = let e : p ≡ 8 * 0 + p = omega arith in ap power_remainder e
zeros_behind (suc k) p =
    let e : 8 * k + (8 + p) ≡ 8 * suc k + p = omega arith in
    ap (λ (r : ℕ). over r (replicate k 0)) (power_byte p) ∙ zeros_behind k (8 + p) ∙ ap power_remainder e

-- a zero byte before zero bytes or after them
zero_moves : (k r : ℕ) → over (byte_over r 0) (replicate k 0) ≡ byte_over (over r (replicate k 0)) 0
unfolding over
zero_moves zero r = refl
zero_moves (suc k) r = zero_moves k (byte_over r 0)

shifted_moves : (k r : ℕ) → shifted (over r (replicate k 0)) ≡ over (shifted r) (replicate k 0)
unfolding shifted over
shifted_moves k r =
    sym
    (zero_moves k (byte_over (byte_over r 0) 0)
    ∙ ap (λ (x : ℕ). byte_over x 0) (zero_moves k (byte_over r 0) ∙ ap (λ (x : ℕ). byte_over x 0) (zero_moves k r)))

-- zero bytes in front change nothing
zeros_before : (i : ℕ) (bs : List ℕ) → over 0 (replicate i 0 ++ bs) ≡ over 0 bs
unfolding over byte_over brought reduced
zeros_before zero bs = refl
zeros_before (suc i) bs = zeros_before i bs

set_zeros : (i q v : ℕ) → set (replicate (i + suc q) 0) i v ≡ replicate i 0 ++ (v ∷ replicate q 0)
set_zeros zero q v = ap (λ (n : ℕ). set (replicate n 0) 0 v) (zero-add (suc q))
set_zeros (suc i) q v =
    ap (λ (n : ℕ). set (replicate n 0) (suc i) v) (suc-add i (suc q)) ∙ ap (λ (l : List ℕ). 0 ∷ l) (set_zeros i q v)

-- ---- the bit in its byte

one_bit : ℕ → Bool
one_bit j = eqb (shifted (byte_over 0 (2 ^ j))) (power_remainder j)

one_bits_lem : T (every one_bit 8)
unfolding one_bit shifted over byte_over brought reduced power_remainder
one_bits_lem = tt

bit_power : (j : ℕ) → j < 8 → shifted (byte_over 0 (2 ^ j)) ≡ power_remainder j
unfolding one_bit
bit_power j h = eqb→eq (shifted (byte_over 0 (2 ^ j))) (power_remainder j) (below one_bit 8 one_bits_lem j h)

first_byte : (v : ℕ) (bs : List ℕ) → over 0 (v ∷ bs) ≡ over (byte_over 0 v) bs
unfolding over
first_byte v bs = refl

lone_power : (n place : ℕ) → place < 8 * n → parity_of (lone n place) ≡ power_remainder place
unfolding lone
lone_power n place h =
    let q = place / 8 in
    let v = 2 ^ (place % 8) in
    let i = n - 1 - place / 8 in
    let e : n ≡ (n - 1 - place / 8) + suc (place / 8) = omega arith in
    let f : 8 * (place / 8) + place % 8 ≡ place = omega arith in
    let g : place % 8 < 8 = omega arith in
    parity_shifted (set (replicate n 0) i v)
    ∙ ap (λ (l : List ℕ). shifted (over 0 l)) (ap (λ (m : ℕ). set (replicate m 0) i v) e ∙ set_zeros i q v)
    ∙ ap shifted (zeros_before i (v ∷ replicate q 0) ∙ first_byte v (replicate q 0))
    ∙ shifted_moves q (byte_over 0 v)
    ∙ ap (λ (r : ℕ). over r (replicate q 0)) (bit_power (place % 8) g)
    ∙ zeros_behind q (place % 8)
    ∙ ap power_remainder f

pub any_change : (bs : List ℕ) (place : ℕ) → place < 8 * length bs → parity_of (flipped place bs) ≡ bit_xor (parity_of bs) (power_remainder place)
any_change bs place h =
    ap parity_of (flipped_lone place bs) ∙ parity_laid bs (lone (length bs) place) (lone_length (length bs) place)
    ∙ ap (bit_xor (parity_of bs)) (lone_power (length bs) place h)
