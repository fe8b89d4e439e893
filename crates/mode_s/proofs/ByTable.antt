-- The routine by a table: a message's parity from that of the bytes before and one looked-up parity, and the rule of the table by one computed test.
use Prim.Native.Nat.{ℕ, ◌+◌, ◌*◌, ◌/◌, ◌%◌, ◌<◌, ◌≤◌}
use mathlib.Core.Path.{◌≡◌, refl, sym, ap, ap₂, ◌∙◌, subst}
use mathlib.Core.Bool.{Bool}
use mathlib.Core.List.{List, [], ◌∷◌}
use native.Mathlib.Numerals.{add-one}
use native.Mathlib.Omega.{arith}
use lib.Dec.{T, eqb, eqb→eq}
use lib.ListN.{length, get_or, drop, drop_of_length-le}
use lib.Seq.{drop-cons}
use lib.Bits.{bit_xor, xor_lt, xor_zero_r, xor_comm, xor_shifted}
use Rattle.mode_s.specs.Parity.{reduced, brought, remainder, bits, parity_of, laid}
use Rattle.mode_s.proofs.Below.{every, below}
use Rattle.mode_s.proofs.ByBytes.{byte_over, over, parity_over, byte_over_xor, byte_over_small, reduced_lt}
use Rattle.mode_s.proofs.Laws.{parity_lt, parity_laid, shifted, shifted_xor, shifted_zero, parity_shifted, three}
use Rattle.mode_s.proofs.Xor.{xor_assoc}

first : (r : ℕ) → shifted (byte_over r 0) ≡ byte_over (shifted r) 0
unfolding shifted over
first r = refl

second : (b : ℕ) → shifted (byte_over 0 b) ≡ parity_of (b ∷ [])
unfolding shifted over
second b = sym (parity_over (b ∷ []))

shifted_lt : (r : ℕ) → shifted r < 0x1000000
unfolding shifted over byte_over brought
shifted_lt r = reduced_lt _

high_byte : (h : ℕ) → h < 256 → byte_over (h * 65536) 0 ≡ parity_of (h ∷ [])
unfolding over
high_byte h hh =
    let e : h * 65536 ≡ (h * 256 + 0) * 256 + 0 = omega arith in
    ap (λ (x : ℕ). byte_over x 0) (e ∙ sym (three h 0 0 hh (omega arith) (omega arith))) ∙ sym (parity_over (h ∷ []))

-- the parity of eight zero bits more
high_low : (c : ℕ) → c < 0x1000000 → byte_over c 0 ≡ bit_xor (parity_of (c / 65536 ∷ [])) (c % 65536 * 256)
high_low c hc =
    let hl : c % 65536 < 65536 = omega arith in
    let e : c ≡ c / 65536 * 65536 + c % 65536 = omega arith in
    let z : c % 65536 * 256 + 0 ≡ c % 65536 * 256 = omega arith in
    ap (λ (x : ℕ). byte_over x 0) (e ∙ sym (xor_shifted (c / 65536) 16 (c % 65536) hl))
    ∙ byte_over_xor (c / 65536 * 65536) (c % 65536) 0 0
    ∙ ap₂ bit_xor (high_byte (c / 65536) (omega arith)) (byte_over_small (c % 65536) 0 hl (omega arith) ∙ z)

pair_up_lem : (a b : ℕ) → bit_xor (parity_of (a ∷ [])) (parity_of (b ∷ [])) ≡ parity_of (bit_xor a b ∷ [])
unfolding laid
pair_up_lem a b = sym (parity_laid (a ∷ []) (b ∷ []) refl)

-- the parity with one more byte, from the parity before it
pub byte_step : (r b : ℕ)
    → shifted (byte_over r b)
    ≡ bit_xor (shifted r % 65536 * 256) (parity_of (bit_xor (shifted r / 65536) b ∷ []))
byte_step r b =
    ap shifted (ap (λ (x : ℕ). byte_over x b) (sym (xor_zero_r r)) ∙ byte_over_xor r 0 0 b)
    ∙ shifted_xor (byte_over r 0) (byte_over 0 b)
    ∙ ap₂ bit_xor (first r) (second b)
    ∙ ap (λ (x : ℕ). bit_xor x (parity_of (b ∷ []))) (high_low (shifted r) (shifted_lt r) ∙ xor_comm (parity_of (shifted r / 65536 ∷ [])) (shifted r % 65536 * 256))
    ∙ xor_assoc (shifted r % 65536 * 256) (parity_of (shifted r / 65536 ∷ [])) (parity_of (b ∷ []))
    ∙ ap (bit_xor (shifted r % 65536 * 256)) (pair_up_lem (shifted r / 65536) b)

-- the parity with one more byte, in the form of a program that looks the parity of a byte up
abbrev pub with_byte : ℕ → ℕ → ℕ
with_byte c b = bit_xor (c % 65536 * 256) (parity_of (bit_xor (c / 65536) b ∷ []))

-- the parity of the rest, from the parity c of what stands before it: the form of a program that goes a byte at a time
unfoldable pub onward : ℕ → List ℕ → ℕ
onward c [] = c
onward c (b ∷ bs) = onward (with_byte c b) bs

onward_right : (r : ℕ) (bs : List ℕ) → onward (shifted r) bs ≡ shifted (over r bs)
unfolding onward over
onward_right r [] = refl
onward_right r (b ∷ bs) = ap (λ (c : ℕ). onward c bs) (sym (byte_step r b)) ∙ onward_right (byte_over r b) bs

pub onward_whole : (bs : List ℕ) → onward 0 bs ≡ parity_of bs
onward_whole bs = ap (λ (c : ℕ). onward c bs) (sym shifted_zero) ∙ onward_right 0 bs ∙ sym (parity_shifted bs)

-- one step of the loop, and its end
pub turn : (bs : List ℕ) (i c : ℕ) → i < length bs → onward (with_byte c (get_or bs i 0)) (drop (i + 1) bs) ≡ onward c (drop i bs)
unfolding onward
turn bs i c h = ap (λ (n : ℕ). onward (with_byte c (get_or bs i 0)) (drop n bs)) (add-one i) ∙ ap (onward c) (sym (drop-cons bs i 0 h))

pub done : (bs : List ℕ) (i c : ℕ) → length bs ≤ i → onward c (drop i bs) ≡ c
unfolding onward
done bs i c h = ap (onward c) (drop_of_length-le bs h)

-- ---- the table

unfoldable pub parities : List ℕ
parities =
    0x000000 ∷ 0xfff409 ∷ 0x001c1b ∷ 0xffe812 ∷ 0x003836 ∷ 0xffcc3f ∷ 0x00242d ∷ 0xffd024 ∷
    0x00706c ∷ 0xff8465 ∷ 0x006c77 ∷ 0xff987e ∷ 0x00485a ∷ 0xffbc53 ∷ 0x005441 ∷ 0xffa048 ∷
    0x00e0d8 ∷ 0xff14d1 ∷ 0x00fcc3 ∷ 0xff08ca ∷ 0x00d8ee ∷ 0xff2ce7 ∷ 0x00c4f5 ∷ 0xff30fc ∷
    0x0090b4 ∷ 0xff64bd ∷ 0x008caf ∷ 0xff78a6 ∷ 0x00a882 ∷ 0xff5c8b ∷ 0x00b499 ∷ 0xff4090 ∷
    0x01c1b0 ∷ 0xfe35b9 ∷ 0x01ddab ∷ 0xfe29a2 ∷ 0x01f986 ∷ 0xfe0d8f ∷ 0x01e59d ∷ 0xfe1194 ∷
    0x01b1dc ∷ 0xfe45d5 ∷ 0x01adc7 ∷ 0xfe59ce ∷ 0x0189ea ∷ 0xfe7de3 ∷ 0x0195f1 ∷ 0xfe61f8 ∷
    0x012168 ∷ 0xfed561 ∷ 0x013d73 ∷ 0xfec97a ∷ 0x01195e ∷ 0xfeed57 ∷ 0x010545 ∷ 0xfef14c ∷
    0x015104 ∷ 0xfea50d ∷ 0x014d1f ∷ 0xfeb916 ∷ 0x016932 ∷ 0xfe9d3b ∷ 0x017529 ∷ 0xfe8120 ∷
    0x038360 ∷ 0xfc7769 ∷ 0x039f7b ∷ 0xfc6b72 ∷ 0x03bb56 ∷ 0xfc4f5f ∷ 0x03a74d ∷ 0xfc5344 ∷
    0x03f30c ∷ 0xfc0705 ∷ 0x03ef17 ∷ 0xfc1b1e ∷ 0x03cb3a ∷ 0xfc3f33 ∷ 0x03d721 ∷ 0xfc2328 ∷
    0x0363b8 ∷ 0xfc97b1 ∷ 0x037fa3 ∷ 0xfc8baa ∷ 0x035b8e ∷ 0xfcaf87 ∷ 0x034795 ∷ 0xfcb39c ∷
    0x0313d4 ∷ 0xfce7dd ∷ 0x030fcf ∷ 0xfcfbc6 ∷ 0x032be2 ∷ 0xfcdfeb ∷ 0x0337f9 ∷ 0xfcc3f0 ∷
    0x0242d0 ∷ 0xfdb6d9 ∷ 0x025ecb ∷ 0xfdaac2 ∷ 0x027ae6 ∷ 0xfd8eef ∷ 0x0266fd ∷ 0xfd92f4 ∷
    0x0232bc ∷ 0xfdc6b5 ∷ 0x022ea7 ∷ 0xfddaae ∷ 0x020a8a ∷ 0xfdfe83 ∷ 0x021691 ∷ 0xfde298 ∷
    0x02a208 ∷ 0xfd5601 ∷ 0x02be13 ∷ 0xfd4a1a ∷ 0x029a3e ∷ 0xfd6e37 ∷ 0x028625 ∷ 0xfd722c ∷
    0x02d264 ∷ 0xfd266d ∷ 0x02ce7f ∷ 0xfd3a76 ∷ 0x02ea52 ∷ 0xfd1e5b ∷ 0x02f649 ∷ 0xfd0240 ∷
    0x0706c0 ∷ 0xf8f2c9 ∷ 0x071adb ∷ 0xf8eed2 ∷ 0x073ef6 ∷ 0xf8caff ∷ 0x0722ed ∷ 0xf8d6e4 ∷
    0x0776ac ∷ 0xf882a5 ∷ 0x076ab7 ∷ 0xf89ebe ∷ 0x074e9a ∷ 0xf8ba93 ∷ 0x075281 ∷ 0xf8a688 ∷
    0x07e618 ∷ 0xf81211 ∷ 0x07fa03 ∷ 0xf80e0a ∷ 0x07de2e ∷ 0xf82a27 ∷ 0x07c235 ∷ 0xf8363c ∷
    0x079674 ∷ 0xf8627d ∷ 0x078a6f ∷ 0xf87e66 ∷ 0x07ae42 ∷ 0xf85a4b ∷ 0x07b259 ∷ 0xf84650 ∷
    0x06c770 ∷ 0xf93379 ∷ 0x06db6b ∷ 0xf92f62 ∷ 0x06ff46 ∷ 0xf90b4f ∷ 0x06e35d ∷ 0xf91754 ∷
    0x06b71c ∷ 0xf94315 ∷ 0x06ab07 ∷ 0xf95f0e ∷ 0x068f2a ∷ 0xf97b23 ∷ 0x069331 ∷ 0xf96738 ∷
    0x0627a8 ∷ 0xf9d3a1 ∷ 0x063bb3 ∷ 0xf9cfba ∷ 0x061f9e ∷ 0xf9eb97 ∷ 0x060385 ∷ 0xf9f78c ∷
    0x0657c4 ∷ 0xf9a3cd ∷ 0x064bdf ∷ 0xf9bfd6 ∷ 0x066ff2 ∷ 0xf99bfb ∷ 0x0673e9 ∷ 0xf987e0 ∷
    0x0485a0 ∷ 0xfb71a9 ∷ 0x0499bb ∷ 0xfb6db2 ∷ 0x04bd96 ∷ 0xfb499f ∷ 0x04a18d ∷ 0xfb5584 ∷
    0x04f5cc ∷ 0xfb01c5 ∷ 0x04e9d7 ∷ 0xfb1dde ∷ 0x04cdfa ∷ 0xfb39f3 ∷ 0x04d1e1 ∷ 0xfb25e8 ∷
    0x046578 ∷ 0xfb9171 ∷ 0x047963 ∷ 0xfb8d6a ∷ 0x045d4e ∷ 0xfba947 ∷ 0x044155 ∷ 0xfbb55c ∷
    0x041514 ∷ 0xfbe11d ∷ 0x04090f ∷ 0xfbfd06 ∷ 0x042d22 ∷ 0xfbd92b ∷ 0x043139 ∷ 0xfbc530 ∷
    0x054410 ∷ 0xfab019 ∷ 0x05580b ∷ 0xfaac02 ∷ 0x057c26 ∷ 0xfa882f ∷ 0x05603d ∷ 0xfa9434 ∷
    0x05347c ∷ 0xfac075 ∷ 0x052867 ∷ 0xfadc6e ∷ 0x050c4a ∷ 0xfaf843 ∷ 0x051051 ∷ 0xfae458 ∷
    0x05a4c8 ∷ 0xfa50c1 ∷ 0x05b8d3 ∷ 0xfa4cda ∷ 0x059cfe ∷ 0xfa68f7 ∷ 0x0580e5 ∷ 0xfa74ec ∷
    0x05d4a4 ∷ 0xfa20ad ∷ 0x05c8bf ∷ 0xfa3cb6 ∷ 0x05ec92 ∷ 0xfa189b ∷ 0x05f089 ∷ 0xfa0480 ∷ []

right : ℕ → Bool
right k = eqb (get_or parities k 0) (parity_of (k ∷ []))

passes : T (every right 256)
unfolding right parities parity_of remainder bits brought reduced
passes = tt

-- each entry is the parity of its place, as a byte
pub parities_at : (k : ℕ) → k < 256 → get_or parities k 0 ≡ parity_of (k ∷ [])
unfolding right
parities_at k h = eqb→eq (get_or parities k 0) (parity_of (k ∷ [])) (below right 256 passes k h)

-- the place in the table, and what stands there
pub place_lt : {k b' : ℕ} (c b : ℕ) → k ≡ bit_xor (c / 65536) b' → b' ≡ b → c < 0x1000000 → b' < 256 → k < 256
place_lt c b p q hc hb = subst (λ (x : ℕ). x < 256) (sym p) (xor_lt 8 (c / 65536) _ (omega arith) hb)

pub looked_up : {k b' : ℕ} (c b : ℕ) → k ≡ bit_xor (c / 65536) b' → b' ≡ b → c < 0x1000000 → b' < 256
    → bit_xor (c % 65536 * 256) (get_or parities k 0) ≡ with_byte c b
looked_up c b p q hc hb =
    ap (bit_xor (c % 65536 * 256))
    (parities_at _ (place_lt c b p q hc hb)
    ∙ ap (λ (x : ℕ). parity_of (x ∷ [])) (p ∙ ap (bit_xor (c / 65536)) q))

pub with_byte_lt : (c b : ℕ) → with_byte c b < 0x1000000
with_byte_lt c b = xor_lt 24 (c % 65536 * 256) _ (omega arith) (parity_lt (bit_xor (c / 65536) b ∷ []))
