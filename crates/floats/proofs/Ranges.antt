-- `within_test`: a value is within a limit in size where it is neither above the limit nor below its negation; std's tests are the definitions'; and what being within a finite limit says.
use Rattle.std.proofs.Common.{◌≡◌, ℕ, ◌*◌, ◌≤◌, Bool, true, false, not, T, ℤ, sym, refl, ◌∙◌, subst, true≢false, le_of_eq}
use mathlib.Core.Bool.{false≢true}
use lib.Ieee.{Float, nan, inf, fin, up, down, le, neg}
use lib.Ieee.Scale.{finite}
use Rattle.std.specs.Float.{float_is_finite, float_with_sign}
use Rattle.float_rounding.proofs.Order.{Le, le_fin, fin_le}
use Rattle.float_rounding.proofs.Val.{Val, le_val, val_le}
use Rattle.float_rounding.proofs.Compared.{same_test}
use Rattle.floats.specs.Range.{abs, within}

-- ±a ≤ ±b, by the signs: with the first, the second says what the size alone says
second : (s : Bool) (a : ℕ) (t : Bool) (b : ℕ) → Le s a t b → Le (not t) b s a → Le false a t b
second false a false b h k = h
second true a false b h k = k
second false a true b h k = h
second true a true b h k = (k.1, k.0)

back : (s : Bool) (a : ℕ) (t : Bool) (b : ℕ) → Le false a t b → Le s a t b × Le (not t) b s a
back false a false b h = (h, tt)
back true a false b h = (tt, h)
back false a true b h = (h, le_of_eq (h.1 ∙ sym h.0))
back true a true b h = (le_of_eq (h.1 ∙ sym h.0), (h.1, h.0))

pub within_test : (x l : Float) → (le x l ≡ true → le (neg l) x ≡ within x l) × (le x l ≡ false → false ≡ within x l)
unfolding within abs neg
within_test nan l = (λ e. absurd (false≢true (unfold le in e)), λ e. unfold le in refl)
within_test (inf s) nan = (λ e. absurd (false≢true (unfold le in e)), λ e. unfold le in refl)
within_test (inf true) (inf true) = (λ e. unfold le in refl, λ e. absurd (true≢false (unfold le in e)))
within_test (inf true) (inf false) = (λ e. unfold le in refl, λ e. absurd (true≢false (unfold le in e)))
within_test (inf false) (inf true) = (λ e. absurd (false≢true (unfold le in e)), λ e. unfold le in refl)
within_test (inf false) (inf false) = (λ e. unfold le in refl, λ e. absurd (true≢false (unfold le in e)))
within_test (inf true) (fin t n d) = (λ e. unfold le in refl, λ e. absurd (true≢false (unfold le in e)))
within_test (inf false) (fin t n d) = (λ e. absurd (false≢true (unfold le in e)), λ e. unfold le in refl)
within_test (fin s m e) nan = (λ h. absurd (false≢true (unfold le in h)), λ h. unfold le in refl)
within_test (fin s m e) (inf true) = (λ h. absurd (false≢true (unfold le in h)), λ h. unfold le in refl)
within_test (fin s m e) (inf false) = (λ h. unfold le in refl, λ h. absurd (true≢false (unfold le in h)))
within_test (fin s m e) (fin t n d) =
    let a = m * up e * down d in
    let b = n * up d * down e in (
      λ h. same_test (le (fin (not t) n d) (fin s m e)) (le (fin false m e) (fin t n d))
          (λ k. fin_le false m e t n d (second s a t b (le_fin s m e t n d (subst T (sym h) tt)) (le_fin (not t) n d s m e k)))
          (λ k. fin_le (not t) n d s m e (back s a t b (le_fin false m e t n d k)).1),
      λ h. same_test false (le (fin false m e) (fin t n d))
          (λ k. absurd k)
          (λ k. subst T h (fin_le s m e t n d (back s a t b (le_fin false m e t n d k)).0)),
    )

-- std's test is the same one
pub finite_is : (x : Float) → float_is_finite x ≡ finite x
unfolding float_is_finite
finite_is nan = refl
finite_is (inf s) = refl
finite_is (fin s m e) = refl

-- and its size is the definition's
pub within_is : (x l : Float) → le (float_with_sign false x) l ≡ within x l
unfolding float_with_sign within abs
within_is nan l = refl
within_is (inf s) l = refl
within_is (fin s m e) l = refl

-- a law for each branch of two tests
pub within_low : (x l : Float) → le x l ≡ true → le (neg l) x ≡ within x l
within_low x l = (within_test x l).0

pub within_no : (x l : Float) → le x l ≡ false → le x l ≡ within x l
within_no x l e = e ∙ (within_test x l).1 e

-- ---- for the crates above
pub within_finite : (x : Float) (t : Bool) (n : ℕ) (d : ℤ) → T (within x (fin t n d)) → T (finite x)
unfolding within abs le
within_finite nan t n d h = h
within_finite (inf s) t n d h = h
within_finite (fin s m e) t n d h = tt

-- the sizes, over their denominators
pub within_size : (s : Bool) (m : ℕ) (e : ℤ) (n : ℕ) (d : ℤ) → T (within (fin s m e) (fin false n d)) → m * up e * down d ≤ n * up d * down e
unfolding within abs
within_size s m e n d h = le_fin false m e false n d h

-- and in units of 2 ^ -1074
abs_val : (x : Float) (s : Bool) (n : ℕ) → Val x s n → Val (abs x) false n
unfolding abs
abs_val nan s n v = v
abs_val (inf t) s n v = v
abs_val (fin t m e) s n v = (refl, v.1)

pub within_val : (x l : Float) (s : Bool) (n k : ℕ) → Val x s n → Val l false k → T (within x l) → n ≤ k
unfolding within
within_val x l s n k v w h = le_val (abs x) l false false n k (abs_val x s n v) w h

pub val_within : (x l : Float) (s : Bool) (n k : ℕ) → Val x s n → Val l false k → n ≤ k → T (within x l)
unfolding within
val_within x l s n k v w h = val_le (abs x) l false false n k (abs_val x s n v) w h
