-- Laws of parity, for messages of any length: below 2^24; the parity of an exclusive or; a message that ends in its parity has parity 0;
-- and one with an overlay does not.
use Prim.Native.Nat.{ℕ, zero, suc, ◌+◌, ◌*◌, ◌/◌, ◌%◌, ◌<◌}
use mathlib.Core.Path.{◌≡◌, refl, sym, ap, ap₂, ◌∙◌, subst}
use mathlib.Core.Bool.{Bool, not}
use mathlib.Core.List.{List, [], ◌∷◌, ◌++◌}
use native.Mathlib.Nat.{mod-lt}
use native.Mathlib.Omega.{arith}
use lib.Dec.{T, eqb}
use lib.ListN.{length, replicate}
use lib.Bits.{bit_xor, xor_block, xor_lt, xor_zero_r, xor_comm}
use Rattle.mode_s.specs.Parity.{reduced, brought, remainder, bits, parity_of, parity_bytes, with_parity, laid}
use Rattle.mode_s.proofs.Below.{every, below}
use Rattle.mode_s.proofs.ByBytes.{byte_over, over, parity_over, over_append, byte_over_xor, byte_over_small, over_lt}
use Rattle.mode_s.proofs.Xor.{xor_twice}

pub parity_lt : (bs : List ℕ) → parity_of bs < 0x1000000
parity_lt bs = subst (λ (n : ℕ). n < 0x1000000) (sym (parity_over bs)) (over_lt 0 (bs ++ (0 ∷ 0 ∷ 0 ∷ [])) (omega arith))

pub over_xor : (r s : ℕ) (xs ys : List ℕ) → length xs ≡ length ys
    → over (bit_xor r s) (laid xs ys) ≡ bit_xor (over r xs) (over s ys)
unfolding over laid
over_xor r s [] [] h = refl
over_xor r s [] (y ∷ ys) h = absurd (omega arith)
over_xor r s (x ∷ xs) [] h = absurd (omega arith)
over_xor r s (x ∷ xs) (y ∷ ys) h =
    ap (λ (n : ℕ). over n (laid xs ys)) (byte_over_xor r s x y)
    ∙ over_xor (byte_over r x) (byte_over s y) xs ys (omega arith)

-- times x^24
unfoldable pub shifted : ℕ → ℕ
shifted r = over r (0 ∷ 0 ∷ 0 ∷ [])

pub shifted_xor : (r s : ℕ) → shifted (bit_xor r s) ≡ bit_xor (shifted r) (shifted s)
unfolding shifted laid
shifted_xor r s = over_xor r s (0 ∷ 0 ∷ 0 ∷ []) (0 ∷ 0 ∷ 0 ∷ []) refl

pub parity_shifted : (bs : List ℕ) → parity_of bs ≡ shifted (over 0 bs)
unfolding shifted
parity_shifted bs = parity_over bs ∙ over_append 0 bs (0 ∷ 0 ∷ 0 ∷ [])

-- the parity of an exclusive or is the exclusive or of the parities
pub parity_laid : (xs ys : List ℕ) → length xs ≡ length ys → parity_of (laid xs ys) ≡ bit_xor (parity_of xs) (parity_of ys)
parity_laid xs ys h =
    parity_shifted (laid xs ys) ∙ ap shifted (over_xor 0 0 xs ys h) ∙ shifted_xor (over 0 xs) (over 0 ys)
    ∙ ap₂ bit_xor (sym (parity_shifted xs)) (sym (parity_shifted ys))

over_zeros : (n : ℕ) → over 0 (replicate n 0) ≡ 0
unfolding over byte_over brought reduced
over_zeros zero = refl
over_zeros (suc n) = over_zeros n

pub shifted_zero : shifted 0 ≡ 0
unfolding shifted over byte_over brought reduced
shifted_zero = refl

-- zero bytes have parity 0
pub parity_zeros : (n : ℕ) → parity_of (replicate n 0) ≡ 0
parity_zeros n = parity_shifted (replicate n 0) ∙ ap shifted (over_zeros n) ∙ shifted_zero

-- ---- the last three bytes

-- the number that three bytes make, high first
pub three : (a b c : ℕ) → a < 256 → b < 256 → c < 256 → over 0 (a ∷ b ∷ c ∷ []) ≡ (a * 256 + b) * 256 + c
unfolding over
three a b c ha hb hc =
    ap (λ (x : ℕ). byte_over (byte_over x b) c) (byte_over_small 0 a (omega arith) ha)
    ∙ ap (λ (x : ℕ). byte_over x c) (byte_over_small (0 * 256 + a) b (omega arith) hb)
    ∙ byte_over_small ((0 * 256 + a) * 256 + b) c (omega arith) hc
    ∙ omega arith

-- what three more bytes leave: the parity of what stands before them, laid over by the number they make
pub ended : (bs : List ℕ) (a b c : ℕ) → a < 256 → b < 256 → c < 256
    → over 0 (bs ++ (a ∷ b ∷ c ∷ [])) ≡ bit_xor (parity_of bs) ((a * 256 + b) * 256 + c)
unfolding laid shifted
ended bs a b c ha hb hc =
    over_append 0 bs (a ∷ b ∷ c ∷ [])
    ∙ ap (λ (x : ℕ). over x (a ∷ b ∷ c ∷ [])) (sym (xor_zero_r (over 0 bs)))
    ∙ over_xor (over 0 bs) 0 (0 ∷ 0 ∷ 0 ∷ []) (a ∷ b ∷ c ∷ []) refl
    ∙ ap₂ bit_xor (sym (parity_shifted bs)) (three a b c ha hb hc)

lone_byte : (o : ℕ) → o < 256 → over 0 (o ∷ []) ≡ o
unfolding over
lone_byte o h = byte_over_small 0 o (omega arith) h ∙ omega arith

-- the three bytes of a parity with an overlay, as one number
pub overlay_number : (p o : ℕ) → p < 0x1000000 → o < 256
    → ((p / 65536 % 256 * 256) + p / 256 % 256) * 256 + bit_xor o (p % 256) ≡ bit_xor p o
overlay_number p o hp h =
    let e : p / 256 * 256 + p % 256 ≡ p = omega arith in
    let f : 0 * 256 + o ≡ o = omega arith in
    ap (λ (x : ℕ). x * 256 + bit_xor o (p % 256)) (omega arith)
    ∙ sym (xor_block 8 0 (p / 256) o (p % 256) h (mod-lt p (omega arith)))
    ∙ xor_comm (0 * 256 + o) (p / 256 * 256 + p % 256)
    ∙ ap₂ bit_xor e f

-- a message that ends in its parity, with an overlay on the last byte, has the parity of the overlay alone
pub overlaid : (bs : List ℕ) (o : ℕ) → o < 256 → parity_of (with_parity bs o) ≡ parity_of (o ∷ [])
unfolding with_parity parity_bytes
overlaid bs o h =
    let p = parity_of bs in
    let hp : p < 0x1000000 = parity_lt bs in
    parity_shifted (with_parity bs o)
    ∙ ap shifted
    (ended bs (p / 65536 % 256) (p / 256 % 256) (bit_xor o (p % 256)) (omega arith) (omega arith)
    (xor_lt 8 o (p % 256) h (mod-lt p (omega arith)))
    ∙ ap (bit_xor p) (overlay_number p o hp h) ∙ xor_twice p o ∙ sym (lone_byte o h))
    ∙ sym (parity_shifted (o ∷ []))

-- one that ends in its parity alone has parity 0
pub sealed_parity : (bs : List ℕ) → parity_of (with_parity bs 0) ≡ 0
unfolding parity_of remainder bits brought reduced
sealed_parity bs = overlaid bs 0 (omega arith)

-- the parity of the byte k + 1 alone is not 0
seen : ℕ → Bool
seen k = not (eqb (parity_of (suc k ∷ [])) 0)

all_seen : T (every seen 255)
unfolding seen parity_of remainder bits brought reduced
all_seen = tt

byte_seen : (o : ℕ) → 0 < o → o < 256 → parity_of (o ∷ []) ≡ 0 → ⊥
unfolding seen
byte_seen zero h l e = omega arith
byte_seen (suc k) h l e = subst (λ (n : ℕ). T (not (eqb n 0))) e (below seen 255 all_seen k (omega arith))

-- and one with an overlay has not
pub overlay_seen : (bs : List ℕ) (o : ℕ) → 0 < o → o < 256 → parity_of (with_parity bs o) ≡ 0 → ⊥
overlay_seen bs o h l e = byte_seen o h l (sym (overlaid bs o l) ∙ e)
