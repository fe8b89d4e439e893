-- The series, term by term, are the nested fractions.
use mathlib.Core.Path.{◌≡◌, sym, ap, ◌∙◌, subst}
use Prim.Native.Nat.{ℕ, zero, suc, ◌+◌, ◌-◌, ◌*◌, ◌≤◌}
use native.Mathlib.Nat.{zero-add, zero-mul, mul-zero, add-zero, add-mul}
use native.Mathlib.Omega.{arith}
use Rattle.math_series.specs.Fraction.{Fraction, over, nought, one, opposite, ◌⊕◌, ◌⊗◌}
use Rattle.math_series.specs.Series.{power, alternating, inverse_factorial, sine_term, cosine_term, sum_of, sine_series, cosine_series}
use Rattle.math_series.proofs.Ratio.{Ratio, ◌≤r◌, ◌-r◌, ◌*r◌}
use Rattle.math_series.proofs.Ratio as R
use Rattle.math_series.proofs.Nested.{nested, no_cut}
use Rattle.math_series.proofs.Signed.{◌≈◌, ≈-refl, ≈-sym, ≈-trans, ⊕-cong, opposite_cong, ⊗-cong, ⊗-comm, ⊗-assoc, ⊗-nought, ⊗-opposite, ⊗-over-⊕, first_term_lem, next_term}

-- ---- nested, with signs
unfoldable pub nest : (ℕ → Fraction) → ℕ → ℕ → Fraction → Fraction
nest a zero n w = nought
nest a (suc j) n w = a n ⊕ opposite (nest a j (suc n) w ⊗ w)

pub nest_cong : (a : ℕ → Fraction) (j n : ℕ) {w v : Fraction} → w ≈ v → nest a j n w ≈ nest a j n v
unfolding nest
nest_cong a zero n e = ≈-refl nought
nest_cong a (suc j) n e = ⊕-cong (≈-refl (a n)) (opposite_cong (⊗-cong (nest_cong a j (suc n) e) e))

-- a fraction that is not negative, as one with a sign
abbrev pub plain : Ratio → Fraction
plain x = over x.num x.den x.pos

plain_minus : (x y : Ratio) → y ≤r x → plain (x -r y) ≈ (plain x ⊕ opposite (plain y))
plain_minus x y h = record { same = go x.num x.den y.num y.den h.le }
  where
    go : (a b c d : ℕ) → c * b ≤ a * d → (a * d - c * b) * (b * d) + (0 * d + c * b) * (b * d) ≡ (a * d + 0 * b) * (b * d) + 0 * (b * d)
    go a b c d h = ap (λ (t : ℕ). (a * d - c * b) * (b * d) + t * (b * d)) (none d (c * b)) ∙ sym (add-mul (a * d - c * b) (c * b) (b * d)) ∙ ap (λ (t : ℕ). t * (b * d)) (back (a * d) (c * b) h ∙ plus b (a * d)) ∙ end ((a * d + 0 * b) * (b * d)) (b * d)
      where
        none : (d e : ℕ) → 0 * d + e ≡ e
        none d e = ap (λ (t : ℕ). t + e) (zero-mul d) ∙ zero-add e

        back : (p q : ℕ) → q ≤ p → p - q + q ≡ p
        back p q h = omega arith

        plus : (b p : ℕ) → p ≡ p + 0 * b
        plus b p = sym (ap (λ (t : ℕ). p + t) (zero-mul b) ∙ add-zero p)

        end : (p q : ℕ) → p ≡ p + 0 * q
        end p q = plus q p

pub plain_times : (x y : Ratio) → plain (x *r y) ≈ (plain x ⊗ plain y)
plain_times x y = record { same = go x.num x.den y.num y.den }
  where
    go : (a b c d : ℕ) → a * c * (b * d) + (a * 0 + 0 * c) * (b * d) ≡ (a * c + 0 * 0) * (b * d) + 0 * (b * d)
    go a b c d = simp (mul-zero, zero-mul, add-zero)

module _ (inverse : ℕ → Ratio) (falls : (n : ℕ) → inverse (suc n) ≤r inverse n) (w : Ratio) (W : w ≤r R.one) where
  pub plain_nested : (j n : ℕ) → plain (nested inverse j n w) ≈ nest (λ (m : ℕ). plain (inverse m)) j n (plain w)
  unfolding nested nest
  plain_nested zero n = ≈-refl nought
  plain_nested (suc j) n =
      let t = nested inverse j (suc n) w in
      ≈-trans (plain_minus (inverse n) (t *r w) (no_cut inverse falls j n w W))
      (⊕-cong (≈-refl (plain (inverse n))) (opposite_cong (≈-trans (plain_times t w) (⊗-cong (plain_nested j (suc n)) (≈-refl (plain w))))))

-- ---- (-1)^n
alternating_cong : (n : ℕ) {x y : Fraction} → x ≈ y → alternating n x ≈ alternating n y
unfolding alternating
alternating_cong zero e = e
alternating_cong (suc n) e = opposite_cong (alternating_cong n e)

times_alternating : (n : ℕ) (x y : Fraction) → (x ⊗ alternating n y) ≈ alternating n (x ⊗ y)
unfolding alternating
times_alternating zero x y = ≈-refl (x ⊗ y)
times_alternating (suc n) x y = ≈-trans (⊗-opposite x (alternating n y)) (opposite_cong (times_alternating n x y))

-- ---- one term more
nest_last : (a : ℕ → Fraction) (w : Fraction) (j n : ℕ) → nest a (suc j) n w ≈ (nest a j n w ⊕ alternating j (a (n + j) ⊗ power w j))
unfolding nest alternating power
nest_last a w zero n = subst (λ (m : ℕ). (a n ⊕ opposite (nought ⊗ w)) ≈ (nought ⊕ (a m ⊗ one))) (sym (add-zero n)) (first_term_lem (a n) w)
nest_last a w (suc j) n =
    subst (λ (m : ℕ). (a n ⊕ opposite (nest a (suc j) (suc n) w ⊗ w)) ≈ (nest a (suc j) n w ⊕ opposite (alternating j (a m ⊗ (power w j ⊗ w))))) (e n j)
    (≈-trans (⊕-cong (≈-refl (a n)) (opposite_cong (⊗-cong (nest_last a w j (suc n)) (≈-refl w))))
    (≈-trans (next_term (a n) (nest a j (suc n) w) (alternating j (a (suc n + j) ⊗ power w j)) w)
    (⊕-cong (≈-refl (nest a (suc j) n w)) (opposite_cong (moved (a (suc n + j)))))))
  where
    e : (n j : ℕ) → suc n + j ≡ n + suc j
    e n j = omega arith

    moved : (c : Fraction) → (alternating j (c ⊗ power w j) ⊗ w) ≈ alternating j (c ⊗ (power w j ⊗ w))
    moved c = ≈-trans (⊗-comm (alternating j (c ⊗ power w j)) w) (≈-trans (times_alternating j w (c ⊗ power w j)) (alternating_cong j (≈-trans (⊗-comm w (c ⊗ power w j)) (⊗-assoc c (power w j) w))))

-- ---- sums of terms
sum_cong : (t u : ℕ → Fraction) → ((n : ℕ) → t n ≈ u n) → (N : ℕ) → sum_of t N ≈ sum_of u N
unfolding sum_of
sum_cong t u e zero = ≈-refl nought
sum_cong t u e (suc N) = ⊕-cong (sum_cong t u e N) (e N)

times_sum : (x : Fraction) (t : ℕ → Fraction) (N : ℕ) → (x ⊗ sum_of t N) ≈ sum_of (λ (n : ℕ). x ⊗ t n) N
unfolding sum_of
times_sum x t zero = ⊗-nought x
times_sum x t (suc N) = ≈-trans (⊗-over-⊕ x (sum_of t N) (t N)) (⊕-cong (times_sum x t N) (≈-refl (x ⊗ t N)))

sum_nest : (a : ℕ → Fraction) (w : Fraction) (N : ℕ) → sum_of (λ (n : ℕ). alternating n (a n ⊗ power w n)) N ≈ nest a N 0 w
unfolding sum_of nest
sum_nest a w zero = ≈-refl nought
sum_nest a w (suc N) = ≈-trans (⊕-cong (sum_nest a w N) (≈-refl (alternating N (a N ⊗ power w N)))) (≈-sym (subst (λ (m : ℕ). nest a (suc N) 0 w ≈ (nest a N 0 w ⊕ alternating N (a m ⊗ power w N))) (zero-add N) (nest_last a w N 0)))

-- ---- powers
power_double : (x : Fraction) (n : ℕ) → power x (2 * n) ≈ power (x ⊗ x) n
unfolding power
power_double x zero = ≈-refl one
power_double x (suc n) = subst (λ (m : ℕ). power x m ≈ (power (x ⊗ x) n ⊗ (x ⊗ x))) (e n) (≈-trans (⊗-assoc (power x (2 * n)) x x) (⊗-cong (power_double x n) (≈-refl (x ⊗ x))))
  where
    e : (n : ℕ) → suc (suc (2 * n)) ≡ 2 * suc n
    e n = omega arith

power_double_one : (x : Fraction) (n : ℕ) → power x (2 * n + 1) ≈ (x ⊗ power (x ⊗ x) n)
unfolding power
power_double_one x n = subst (λ (m : ℕ). power x m ≈ (x ⊗ power (x ⊗ x) n)) (e n) (≈-trans (⊗-comm (power x (2 * n)) x) (⊗-cong (≈-refl x) (power_double x n)))
  where
    e : (n : ℕ) → suc (2 * n) ≡ 2 * n + 1
    e n = omega arith

-- ---- the two series
cosine_term_lem : (x : Fraction) (n : ℕ) → cosine_term x n ≈ alternating n (inverse_factorial (2 * n) ⊗ power (x ⊗ x) n)
unfolding cosine_term
cosine_term_lem x n = alternating_cong n (≈-trans (⊗-comm (power x (2 * n)) (inverse_factorial (2 * n))) (⊗-cong (≈-refl (inverse_factorial (2 * n))) (power_double x n)))

sine_term_lem : (x : Fraction) (n : ℕ) → sine_term x n ≈ (x ⊗ alternating n (inverse_factorial (2 * n + 1) ⊗ power (x ⊗ x) n))
unfolding sine_term
sine_term_lem x n =
    let c = inverse_factorial (2 * n + 1) in
    let p = power (x ⊗ x) n in
    ≈-trans (alternating_cong n (≈-trans (⊗-cong (power_double_one x n) (≈-refl c)) (≈-trans (⊗-assoc x p c) (⊗-cong (≈-refl x) (⊗-comm p c))))) (≈-sym (times_alternating n x (c ⊗ p)))

pub cosine_nest : (x : Fraction) (N : ℕ) → cosine_series N x ≈ nest (λ (n : ℕ). inverse_factorial (2 * n)) N 0 (x ⊗ x)
unfolding cosine_series
cosine_nest x N = ≈-trans (sum_cong (cosine_term x) _ (cosine_term_lem x) N) (sum_nest (λ (n : ℕ). inverse_factorial (2 * n)) (x ⊗ x) N)

pub sine_nest : (x : Fraction) (N : ℕ) → sine_series N x ≈ (x ⊗ nest (λ (n : ℕ). inverse_factorial (2 * n + 1)) N 0 (x ⊗ x))
unfolding sine_series
sine_nest x N =
    let t : ℕ → Fraction = λ (n : ℕ). alternating n (inverse_factorial (2 * n + 1) ⊗ power (x ⊗ x) n) in
    ≈-trans (sum_cong (sine_term x) (λ (n : ℕ). x ⊗ t n) (sine_term_lem x) N) (≈-trans (≈-sym (times_sum x t N)) (⊗-cong (≈-refl x) (sum_nest (λ (n : ℕ). inverse_factorial (2 * n + 1)) (x ⊗ x) N)))
