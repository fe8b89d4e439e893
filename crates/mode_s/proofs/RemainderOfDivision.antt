-- Parity is the remainder of the message's polynomial times x^24 by the Annex's generator, and the only one, for a message of any length (`parity-is-the-remainder`).
use Prim.Native.Nat.{ℕ, zero, suc, ◌+◌, ◌*◌, ◌/◌, ◌%◌, ◌^◌, ◌<◌}
use mathlib.Core.Path.{◌≡◌, refl, sym, ap, ap₂, ◌∙◌, subst}
use mathlib.Core.List.{List, [], ◌∷◌, ◌++◌}
use native.Mathlib.Nat.{zero-add, add-zero, mod-lt}
use native.Mathlib.Omega.{arith}
use lib.ListN.{replicate}
use lib.Bits.{bit_xor, xor_block, xor_self, xor_lt}
use Rattle.mode_s.specs.Parity.{divisor, reduced, brought, remainder, bits, parity_of}
use Rattle.mode_s.specs.Division.{generator, behind, message_polynomial, times, IsRemainder, ParityIsTheRemainder}
use Rattle.mode_s.proofs.Xor.{bit_lt, xor_swap}
use Rattle.mode_s.proofs.ByBytes.{reduced_lt}
use Rattle.mode_s.proofs.Laws.{parity_lt}
use Rattle.mode_s.proofs.Product.{times_zero, times_more, times_xor, alike, none_below}

-- ---- one step of the long division

-- where x^24 stands in s, the generator is taken off
taken_off : (s : ℕ) → s < 0x2000000 → reduced s ≡ bit_xor (s / 0x1000000 % 2 * generator) s
unfolding reduced
taken_off s h =
    let t = s / 0x1000000 % 2 in
    let l : t < 2 = bit_lt (s / 0x1000000) in
    let e : t * generator ≡ t * 0x1000000 + t * divisor = omega arith in
    let f : s ≡ t * 0x1000000 + s % 0x1000000 = omega arith in
    sym
    (ap₂ bit_xor e f
    ∙ xor_block 24 t t (t * divisor) (s % 0x1000000) (omega (arith, l)) (mod-lt s (omega arith))
    ∙ ap (λ (x : ℕ). x * 0x1000000 + bit_xor (t * divisor) (s % 0x1000000)) (xor_self t)
    ∙ zero-add (bit_xor (t * divisor) (s % 0x1000000)))

-- what stands before is n, with the quotient q and the remainder r; one more bit is brought down
one_more : (n q r d : ℕ) → r < 0x1000000 → d < 2 → bit_xor (times q generator) r ≡ n
    → bit_xor (times (q * 2 + (r * 2 + d) / 0x1000000 % 2) generator) (brought r d) ≡ n * 2 + d
unfolding brought
one_more n q r d hr hd e =
    let s = r * 2 + d in
    let t = s / 0x1000000 % 2 in
    let Q = times q generator in
    ap₂ bit_xor (times_more q t generator (bit_lt (s / 0x1000000))) (taken_off s (omega arith))
    ∙ xor_swap (t * generator) (Q * 2) (t * generator) s
    ∙ ap₂ bit_xor (xor_self (t * generator)) (ap (λ (x : ℕ). bit_xor x s) (sym (add-zero (Q * 2))))
    ∙ xor_block 1 Q r 0 d (omega arith) hd
    ∙ ap (λ (x : ℕ). x * 2 + d) e

-- ---- all of them

abbrev Bits : List ℕ → Type 0
Bits [] = 0 < 1
Bits (d ∷ ds) = (d < 2) × Bits ds

bits_zeros : (n : ℕ) → Bits (replicate n 0)
bits_zeros zero = omega arith
bits_zeros (suc n) = (omega arith, bits_zeros n)

bits_of : (bs : List ℕ) → Bits (bits bs ++ replicate 24 0)
unfolding bits
bits_of [] = bits_zeros 24
bits_of (b ∷ bs) = (bit_lt _, (bit_lt _, (bit_lt _, (bit_lt _, (bit_lt _, (bit_lt _, (bit_lt _, (bit_lt _, bits_of bs))))))))

-- the quotient of long division, behind q
quotient_of : ℕ → ℕ → List ℕ → ℕ
quotient_of q r [] = q
quotient_of q r (d ∷ ds) = quotient_of (q * 2 + (r * 2 + d) / 0x1000000 % 2) (brought r d) ds

divided : (n q r : ℕ) (ds : List ℕ) → Bits ds → r < 0x1000000 → bit_xor (times q generator) r ≡ n
    → bit_xor (times (quotient_of q r ds) generator) (remainder r ds) ≡ behind n ds
unfolding quotient_of remainder behind
divided n q r [] b h e = e
divided n q r (d ∷ ds) (hd, b) h e =
    divided (n * 2 + d) (q * 2 + (r * 2 + d) / 0x1000000 % 2) (brought r d) ds b (unfold brought in reduced_lt (r * 2 + d)) (one_more n q r d h hd e)

-- ---- times x^24

behind_append : (n : ℕ) (xs ys : List ℕ) → behind n (xs ++ ys) ≡ behind (behind n xs) ys
unfolding behind
behind_append n [] ys = refl
behind_append n (x ∷ xs) ys = behind_append (n * 2 + x) xs ys

behind_zeros : (n : ℕ) → behind n (replicate 24 0) ≡ n * 2 ^ 24
unfolding behind
behind_zeros n = omega arith

is_remainder : (bs : List ℕ) → IsRemainder bs (parity_of bs)
unfolding message_polynomial parity_of
is_remainder bs = record {
  below = parity_lt bs;
  quotient = quotient_of 0 0 (bits bs ++ replicate 24 0);
  whole =
      divided 0 0 0 (bits bs ++ replicate 24 0) (bits_of bs) (omega arith) (ap (λ (x : ℕ). bit_xor x 0) (times_zero generator))
      ∙ behind_append 0 (bits bs) (replicate 24 0)
      ∙ behind_zeros (behind 0 (bits bs));
}

-- ---- no other

only : (q s p r : ℕ) → p < 0x1000000 → r < 0x1000000 → bit_xor (times q generator) p ≡ bit_xor (times s generator) r → p ≡ r
only q s p r hp hr e =
    let Q = times q generator in
    let S = times s generator in
    let z : bit_xor (bit_xor Q S) (bit_xor p r) ≡ 0 = xor_swap Q S p r ∙ ap (λ (x : ℕ). bit_xor x (bit_xor S r)) e ∙ xor_self (bit_xor S r) in
    let f : times (bit_xor q s) generator ≡ bit_xor p r = times_xor q s generator ∙ alike (bit_xor Q S) (bit_xor p r) z in
    let k : bit_xor q s ≡ 0 = none_below (bit_xor q s) (subst (λ (x : ℕ). x < 0x1000000) (sym f) (xor_lt 24 p r hp hr)) in
    alike p r (sym f ∙ ap (λ (x : ℕ). times x generator) k ∙ times_zero generator)

pub parity_is_the_remainder : ParityIsTheRemainder
parity_is_the_remainder bs = (
  is_remainder bs,
  λ p R.
      let P = is_remainder bs in
      only R.quotient P.quotient p (parity_of bs) R.below P.below (R.whole ∙ sym P.whole),
)
