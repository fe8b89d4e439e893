-- Laws of the product of polynomials: its own equation, a sum times a polynomial, and that a multiple of the generator other than 0 has a degree of 24 or more.
use Prim.Native.Nat.{ℕ, zero, suc, ◌+◌, ◌*◌, ◌/◌, ◌%◌, ◌≤◌, ◌<◌}
use mathlib.Core.Path.{◌≡◌, refl, sym, ap, ap₂, ◌∙◌}
use native.Mathlib.Nat.{zero-mul, add-zero, le_refl, not-suc-le-zero, div-eq_of_lt}
use native.Mathlib.Decide.{le_ind}
use native.Mathlib.Omega.{arith}
use lib.Arith.{half_le, bin_ind, digits_div, digits_mod}
use lib.Bits.{bit_xor, xor_block, xor_shr, xor_mod, xor_zero_r}
use Rattle.mode_s.specs.Division.{generator, terms_times, times}
use Rattle.mode_s.proofs.Xor.{bit_lt, xor_swap, xor_twice, xor_bit_mul}

-- ---- the product's own equation

none : (n b : ℕ) → terms_times n 0 b ≡ 0
unfolding terms_times
none zero b = refl
none (suc n) b = ap₂ (λ (x y : ℕ). bit_xor x (y * 2)) (zero-mul b) (none n b)

more : (n a b : ℕ) → a ≤ n → terms_times (suc n) a b ≡ terms_times n a b
unfolding terms_times
more zero zero b h = none 1 b
more zero (suc a) b h = absurd (not-suc-le-zero h)
more (suc n) a b h = ap (λ (x : ℕ). bit_xor (a % 2 * b) (x * 2)) (more n (a / 2) b (half_le h))

enough : (n a b : ℕ) → a ≤ n → terms_times n a b ≡ times a b
unfolding times
enough n a b h = le_ind (λ (m : ℕ). terms_times m a b ≡ terms_times a a b) refl (λ m k e. more m a b k ∙ e) n h

pub times_zero : (b : ℕ) → times 0 b ≡ 0
unfolding times terms_times
times_zero b = refl

-- the lowest term of a times b, and the rest of a times b, one place up
pub times_step : (a b : ℕ) → times a b ≡ bit_xor (a % 2 * b) (times (a / 2) b * 2)
unfolding times terms_times
times_step zero b = sym (none 1 b)
times_step (suc a) b = ap (λ (x : ℕ). bit_xor (suc a % 2 * b) (x * 2)) (enough a (suc a / 2) b (half_le (le_refl (suc a))))

pub times_more : (q t b : ℕ) → t < 2 → times (q * 2 + t) b ≡ bit_xor (t * b) (times q b * 2)
times_more q t b h =
    times_step (q * 2 + t) b ∙ ap₂ (λ (x y : ℕ). bit_xor (x * b) (times y b * 2)) (digits_mod q h) (digits_div q h)

-- ---- a sum times a polynomial

twice_xor : (a b : ℕ) → bit_xor a b * 2 ≡ bit_xor (a * 2) (b * 2)
twice_xor a b =
    sym (add-zero (bit_xor a b * 2)) ∙ sym (xor_block 1 a b 0 0 (omega arith) (omega arith)) ∙ ap₂ bit_xor (add-zero (a * 2)) (add-zero (b * 2))

pub times_xor : (a b c : ℕ) → times (bit_xor a b) c ≡ bit_xor (times a c) (times b c)
times_xor a b c =
    bin_ind (λ (n : ℕ). (m : ℕ) → times (bit_xor n m) c ≡ bit_xor (times n c) (times m c))
    (λ m. ap (λ (x : ℕ). bit_xor x (times m c)) (sym (times_zero c)))
    (λ n ih m.
    times_step (bit_xor n m) c
    ∙ ap₂ (λ (x y : ℕ). bit_xor (x * c) (times y c * 2)) (xor_mod n m 1) (xor_shr n m 1)
    ∙ ap₂ bit_xor (xor_bit_mul (n % 2) (m % 2) c (bit_lt n) (bit_lt m))
    (ap (λ (x : ℕ). x * 2) (ih (m / 2)) ∙ twice_xor (times (n / 2) c) (times (m / 2) c))
    ∙ xor_swap (n % 2 * c) (m % 2 * c) (times (n / 2) c * 2) (times (m / 2) c * 2)
    ∙ ap₂ bit_xor (sym (times_step n c)) (sym (times_step m c))) a b

-- ---- degrees

pub alike : (a b : ℕ) → bit_xor a b ≡ 0 → a ≡ b
alike a b e = sym (xor_zero_r a) ∙ ap (bit_xor a) (sym e) ∙ xor_twice a b

-- a multiple of the generator below x^24 is 0 times it
pub none_below : (k : ℕ) → times k generator < 0x1000000 → k ≡ 0
none_below =
    bin_ind (λ (k : ℕ). times k generator < 0x1000000 → k ≡ 0) (λ h. refl)
    (λ k ih h.
    let T = times (k / 2) generator in
    let t = k % 2 in
    let l : t < 2 = bit_lt k in
    let e : bit_xor (t * generator / 0x1000000) (T * 2 / 0x1000000) ≡ 0 =
    sym (xor_shr (t * generator) (T * 2) 24) ∙ ap (λ (x : ℕ). x / 0x1000000) (sym (times_step k generator)) ∙ div-eq_of_lt h in
    let f : t * generator / 0x1000000 ≡ t = omega (arith, l) in
    let g : t ≡ T * 2 / 0x1000000 = sym f ∙ alike (t * generator / 0x1000000) (T * 2 / 0x1000000) e in
    let z : k / 2 ≡ 0 = ih (omega (arith, l, g)) in
    let o : T ≡ 0 = ap (λ (x : ℕ). times x generator) z ∙ times_zero generator in
    omega (arith, g, z, o))
