-- Narrowing keeps the order (`narrow-mono`) and the sign (`narrow-neg`). So a value within a limit that `f32` holds stays within it, finite, and one from 0 to 1 stays there.
use Rattle.std.proofs.Common.{◌≡◌, ℕ, ◌+◌, ◌*◌, ◌^◌, ◌<◌, ◌≤◌, Bool, true, false, not, T, ℤ, pos, sym, refl, ap, ◌∙◌, subst, le_of_eq, lt_of_lt_of_le, lt_of_le_of_lt, zero-lt-suc, mul_assoc, one-mul, zero-mul, mul-one, arith, lt→ltb, pow_pos, pow-add}
use lib.Pow.{pow-lt}
use lib.Ieee.{Float, nan, inf, fin, binary32, up, down, round, neg, le, fits, is_nan}
use lib.Ieee.Back.{whole_unique}
use lib.Ieee.Exact.{HasValue, round_exact}
use lib.Ieee.Fits.{round-fits, down_pos}
use lib.Ieee.Order.{round_mono}
use lib.Ieee.Scale.{finite}
use Rattle.float_rounding.proofs.Units.{first_zero}
use Rattle.float_rounding.proofs.Order.{Le, Signed, le_fin, fin_le, le_neg, le_signed, round_signed, round_neg}
use Rattle.floats.specs.Narrow.{narrow}
use Rattle.floats.specs.Range.{abs, within}
use Rattle.floats.proofs.Ranges.{within_finite}

pub narrow_neg : (x : Float) → narrow (neg x) ≡ neg (narrow x)
unfolding narrow neg
narrow_neg nan = refl
narrow_neg (inf s) = refl
narrow_neg (fin s m e) = round_neg binary32 s (m * up e) (down e)

-- zero is exact, so the sign that it has does not matter
zeros : (x y : Float) (s t : Bool) (c d : ℕ) → 0 < c → 0 < d → HasValue x s 0 c → HasValue y t 0 d → T (le x y)
zeros nan y s t c d C D p q = absurd p
zeros (inf r) y s t c d C D p q = absurd p
zeros (fin r m e) nan s t c d C D p q = absurd q
zeros (fin r m e) (inf u) s t c d C D p q = absurd q
zeros (fin r m e) (fin u n f) s t c d C D p q = fin_le r m e u n f (all r u (m * up e * down f) (n * up f * down e) (none (m * up e) c (down e) (down f) C p.1) (none (n * up f) d (down f) (down e) D q.1))
  where
    none : (a c d f : ℕ) → 0 < c → a * c ≡ 0 * d → a * f ≡ 0
    none a c d f C e = ap (λ (x : ℕ). x * f) (first_zero a c C (e ∙ zero-mul d)) ∙ zero-mul f

    all : (r u : Bool) (a b : ℕ) → a ≡ 0 → b ≡ 0 → Le r a u b
    all false false a b A B = omega arith
    all true false a b A B = tt
    all false true a b A B = (A, B)
    all true true a b A B = omega arith

zero_narrow : (s : Bool) (m : ℕ) (e : ℤ) (d : ℕ) → 0 < d → m * up e * d ≡ 0 → HasValue (narrow (fin s m e)) s 0 (down e)
unfolding narrow
zero_narrow s m e d D h = subst (λ (a : ℕ). HasValue (round binary32 s a (down e)) s 0 (down e)) (sym (first_zero (m * up e) d D h)) (round_exact binary32 s 0 (down e) 0 0 (down_pos e) (pow_pos 24) (pow_pos 277) (zero-mul (2 ^ 149) ∙ sym (zero-mul (down e))))

mono_fin : (m : ℕ) (e : ℤ) (n : ℕ) (d : ℤ) → m * up e * down d ≤ n * up d * down e → T (le (narrow (fin false m e)) (narrow (fin false n d)))
unfolding narrow
mono_fin m e n d h = round_mono binary32 (m * up e) (down e) (n * up d) (down d) (down_pos e) (down_pos d) h

infinite : (s : Bool) (m : ℕ) (e : ℤ) → T (le (inf true) (narrow (fin s m e))) × T (le (narrow (fin s m e)) (inf false))
infinite s m e = ((ends (narrow (fin s m e))).0 some, (ends (narrow (fin s m e))).1 some)
  where
    ends : (x : Float) → ((T (not (is_nan x)) → T (le (inf true) x)) × (T (not (is_nan x)) → T (le x (inf false))))
    ends nan = (λ n. absurd (unfold is_nan in n), λ n. absurd (unfold is_nan in n))
    ends (inf true) = (λ n. unfold le in tt, λ n. unfold le in tt)
    ends (inf false) = (λ n. unfold le in tt, λ n. unfold le in tt)
    ends (fin t n d) = (λ n. unfold le in tt, λ n. unfold le in tt)

    some : T (not (is_nan (narrow (fin s m e))))
    some = unfold narrow in signed_some (round binary32 s (m * up e) (down e)) (round_signed binary32 s (m * up e) (down e))
      where
        signed_some : (x : Float) → Signed x s → T (not (is_nan x))
        signed_some nan p = absurd p
        signed_some (inf t) p = unfold is_nan in tt
        signed_some (fin t n d) p = unfold is_nan in tt

pub narrow_mono : (x y : Float) → T (le x y) → T (le (narrow x) (narrow y))
narrow_mono nan y h = absurd (unfold le in h)
narrow_mono (inf s) nan h = absurd (unfold le in h)
narrow_mono (inf s) (inf t) h = unfold narrow in h
narrow_mono (inf true) (fin t n d) h = unfold narrow in (infinite t n d).0
narrow_mono (inf false) (fin t n d) h = absurd (unfold le in h)
narrow_mono (fin s m e) nan h = absurd (unfold le in h)
narrow_mono (fin s m e) (inf true) h = absurd (unfold le in h)
narrow_mono (fin s m e) (inf false) h = unfold narrow in (infinite s m e).1
narrow_mono (fin false m e) (fin false n d) h = mono_fin m e n d (le_fin false m e false n d h)
narrow_mono (fin true m e) (fin false n d) h = unfold narrow in le_signed (round binary32 true (m * up e) (down e)) (round binary32 false (n * up d) (down d)) (round_signed binary32 true (m * up e) (down e)) (round_signed binary32 false (n * up d) (down d))
narrow_mono (fin false m e) (fin true n d) h =
    let z = le_fin false m e true n d h in
    zeros (narrow (fin false m e)) (narrow (fin true n d)) false true (down e) (down d) (down_pos e) (down_pos d) (zero_narrow false m e (down d) (down_pos d) z.0) (zero_narrow true n d (down e) (down_pos e) z.1)
narrow_mono (fin true m e) (fin true n d) h = subst (λ (z : Float). T (le z (narrow (fin true n d)))) (turn m e) (subst (λ (z : Float). T (le (neg (narrow (fin false m e))) z)) (turn n d) (le_neg (narrow (fin false n d)) (narrow (fin false m e)) (mono_fin n d m e (le_fin true m e true n d h))))
  where
    turn : (m : ℕ) (e : ℤ) → neg (narrow (fin false m e)) ≡ narrow (fin true m e)
    turn m e = sym (narrow_neg (fin false m e)) ∙ ap narrow (flip m e)
      where
        flip : (m : ℕ) (e : ℤ) → neg (fin false m e) ≡ fin true m e
        flip m e = unfold neg in refl

-- ---- limits. `narrow l ≡ l` says that `f32` holds the limit: `refl` for a literal
pub narrow_at_most : (x l : Float) → narrow l ≡ l → T (le x l) → T (le (narrow x) l)
narrow_at_most x l L h = subst (λ (z : Float). T (le (narrow x) z)) L (narrow_mono x l h)

pub narrow_at_least : (x l : Float) → narrow l ≡ l → T (le l x) → T (le l (narrow x))
narrow_at_least x l L h = subst (λ (z : Float). T (le z (narrow x))) L (narrow_mono l x h)

abs_narrow : (x : Float) → abs (narrow x) ≡ narrow (abs x)
unfolding abs narrow
abs_narrow nan = refl
abs_narrow (inf s) = refl
abs_narrow (fin false m e) = plain (round binary32 false (m * up e) (down e)) (round_signed binary32 false (m * up e) (down e))
  where
    plain : (x : Float) → Signed x false → abs x ≡ x
    plain nan p = absurd p
    plain (inf t) p = ap inf (sym p)
    plain (fin t n d) p = ap (λ (b : Bool). fin b n d) (sym p)
abs_narrow (fin true m e) = ap abs (round_neg binary32 false (m * up e) (down e)) ∙ turned (round binary32 false (m * up e) (down e)) (round_signed binary32 false (m * up e) (down e))
  where
    turned : (x : Float) → Signed x false → abs (neg x) ≡ x
    turned nan p = absurd p
    turned (inf t) p = unfold neg in ap inf (sym p)
    turned (fin t n d) p = unfold neg in ap (λ (b : Bool). fin b n d) (sym p)

pub narrow_within : (x l : Float) → narrow l ≡ l → T (within x l) → T (within (narrow x) l)
unfolding within
narrow_within x l L h = subst (λ (z : Float). T (le z l)) (sym (abs_narrow x)) (narrow_at_most (abs x) l L h)

-- `f32` holds the powers of two up to 2 ^ 127
pub narrow_pow : (k : ℕ) → k ≤ 127 → narrow (fin false 1 (pos k)) ≡ fin false 1 (pos k)
unfolding narrow
narrow_pow k h =
    whole_unique binary32 (round binary32 false (1 * 2 ^ k) 1) (fin false 1 (pos k)) false (2 ^ k) (round-fits binary32 false (1 * 2 ^ k) 1) (held k h)
    (subst (λ (c : ℕ). HasValue (round binary32 false (1 * 2 ^ k) 1) false c 1) (one-mul (2 ^ k)) (round_exact binary32 false (1 * 2 ^ k) 1 1 (k + 149) (zero-lt-suc 0) (pow-lt (zero-lt-suc 23)) (lt_of_le_of_lt (le_of_eq (one-mul (2 ^ (k + 149)))) (pow-lt (room k h))) (mul_assoc 1 (2 ^ k) (2 ^ 149) ∙ ap (λ (x : ℕ). 1 * x) (sym (pow-add 2 k 149)) ∙ sym (mul-one (1 * 2 ^ (k + 149))))))
    (refl, ap (λ (x : ℕ). x * 1) (one-mul (2 ^ k)))
  where
    room : (k : ℕ) → k ≤ 127 → k + 149 < 277
    room k h = omega arith

    next : (k : ℕ) → k ≤ 127 → k < 128
    next k h = omega arith

    held : (k : ℕ) → k ≤ 127 → T (fits binary32 (fin false 1 (pos k)))
    held k h = unfold fits in lt→ltb (1 * 2 ^ k) (2 ^ 128 * 1) (lt_of_le_of_lt (le_of_eq (one-mul (2 ^ k))) (lt_of_lt_of_le (pow-lt (next k h)) (le_of_eq (sym (mul-one (2 ^ 128))))))

-- so a size of at most such a power stays so, and finite
pub narrow_within_pow : (x : Float) (k : ℕ) → k ≤ 127 → T (within x (fin false 1 (pos k))) → T (finite (narrow x)) × T (within (narrow x) (fin false 1 (pos k)))
narrow_within_pow x k K h =
    let g = narrow_within x (fin false 1 (pos k)) (narrow_pow k K) h in
    (within_finite (narrow x) false 1 (pos k) g, g)

-- and a value from 0 to 1 stays there
pub narrow_unit : (x : Float) → T (le (fin false 0 (pos 0)) x) → T (le x (fin false 1 (pos 0))) → T (le (fin false 0 (pos 0)) (narrow x)) × T (le (narrow x) (fin false 1 (pos 0)))
narrow_unit x lo hi = (narrow_at_least x (fin false 0 (pos 0)) (unfold narrow in refl) lo, narrow_at_most x (fin false 1 (pos 0)) (unfold narrow in refl) hi)
