-- A guess at the branch is right where what is left of the scaled phase has a pattern from 0.0 to below 1.0.
use Rattle.std.proofs.Common.{◌≡◌, ℕ, suc, ◌+◌, ◌-◌, ◌*◌, ◌/◌, ◌^◌, ◌<◌, ◌≤◌, min, Bool, true, false, not, ◌&&◌, T, List, [], ◌∷◌, get_or, pos, sym, refl, ap, ◌∙◌, subst, true≢false, inl, inr, one-mul, suc-mul, ◌⊎◌, zero, eq-or-lt_of_le, le_trans, le_of_eq, le_of_lt, lt_of_lt_of_le, lt_of_le_of_lt, mul-le-mul_right, mul_assoc, mul_comm, mul-div_cancel, div-lt_iff_lt-mul, arith, lit<, lit≤, pow_pos, pow-add}
use native.Mathlib.Nat.{le-div_iff_mul-le, lt_of_not-le, lt_irrefl, le_antisymm, le_of_suc-le-suc}
use lib.Pow.{pow_mono}
use lib.Ieee.{Float, nan, inf, fin, binary64, up, down, size, of_bits, to_bits, of_int, is_nan, nan_bits, mul, add, sub, lt, le, fits}
use lib.Ieee.Fits.{down_pos}
use lib.Ieee.Bits.{to_bits-lt}
use Rattle.std.proofs.lemmas.Float.{not_nan_f64_bits}
use Rattle.block_values.specs.BlockValuesModel.{in_unit}
use lib.Ieee.Exact.{HasValue}
use lib.Ieee.Digits.{size-lt, size_reaches}
use Rattle.float_rounding.proofs.Units.{G, G-ge, G-le, Units, units_of, lt_units, lt_finite, add_units}
use Rattle.float_rounding.proofs.More.{mul_all, sub_all, sub_negative, of_int_lem, to_unsigned_lem, no_nan}
use Rattle.float_rounding.proofs.Size.{le_or_lt}
use Rattle.constants.specs.declared.SamplesPerPulse.{SamplesPerPulse}
use Rattle.constants.specs.Setting.{per_pulse}
use Rattle.constants.specs.Rate.{branches}
use Rattle.filterbank.specs.Taps.{scaled, branch_of}
use Rattle.filterbank.proofs.BranchWithin.{branch_in_bank}

-- ---- patterns
-- the pattern of 1.0
abbrev pub one_bits : ℕ
one_bits = 4607182418800017408

above : (c n : ℕ) → c ≤ c + n
above c n = omega arith

-- a negative number's has the sign
negative_bits : (x : Float) (n c : ℕ) → HasValue x true n c → 9223372036854775808 ≤ to_bits binary64 x
unfolding to_bits
negative_bits nan n c v = absurd v
negative_bits (inf true) n c v = absurd v
negative_bits (inf false) n c v = absurd v
negative_bits (fin true m e) n c v =
    let u = m * up e * 2 ^ 1074 / down e in
    let k = size u - 53 in
    sum_above 9223372036854775808 (k * 4503599627370496) (u / 2 ^ k)
  where
    sum_above : (c a b : ℕ) → c ≤ c + a + b
    sum_above c a b = omega arith
negative_bits (fin false m e) n c v = absurd (no v.0)
  where
    no : false ≡ true → ⊥
    no e = cc

-- a number's from 1.0 on is that of 1.0 at least
large_size : (n : ℕ) → 2 ^ 1074 ≤ n → 1074 < size n
large_size n h = lt_of_not-le (λ (g : size n ≤ 1074). lt_irrefl (2 ^ 1074) (lt_of_le_of_lt h (lt_of_lt_of_le (size-lt n) (pow_mono g))))

large_bits : (n : ℕ) → 2 ^ 1074 ≤ n → one_bits ≤ 0 + (size n - 53) * 4503599627370496 + n / 2 ^ (size n - 53)
large_bits n h =
    let k = size n - 53 in
    let z = large_size n h in
    let lead : 2 ^ 52 * 2 ^ k ≤ n = le_trans (le_of_eq (sym (pow-add 2 52 k))) (size_reaches n (52 + k) (inside (size n) z)) in
    total k (n / 2 ^ k) (many (size n) z) ((le-div_iff_mul-le (pow_pos k)).1 lead)
  where
    inside : (z : ℕ) → 1074 < z → 52 + (z - 53) < z
    inside z h = omega arith

    many : (z : ℕ) → 1074 < z → 1022 ≤ z - 53
    many z h = omega arith

    total : (k q : ℕ) → 1022 ≤ k → 4503599627370496 ≤ q → 4607182418800017408 ≤ 0 + k * 4503599627370496 + q
    total k q h g = omega arith

units_bits : (x : Float) (n : ℕ) → Units x n → 2 ^ 1074 ≤ n → one_bits ≤ to_bits binary64 x
unfolding to_bits
units_bits nan n u h = absurd u
units_bits (inf s) n u h = absurd u
units_bits (fin true m e) n u h = absurd (none n (2 ^ 1074) (pow_pos 1074) h u.1)
  where
    none : (n p : ℕ) → 0 < p → p ≤ n → n ≡ 0 → ⊥
    none n p P h e = omega arith
units_bits (fin false m e) n u h =
    subst (λ (w : ℕ). one_bits ≤ 0 + (size w - 53) * 4503599627370496 + w / 2 ^ (size w - 53)) (sym (ap (λ (x : ℕ). x / down e) u ∙ mul-div_cancel n (down_pos e))) (large_bits n h)

-- ---- the scaled phase
abbrev zero_f : Float
zero_f = fin false 0 (pos 0)

abbrev one_f : Float
one_f = fin false 1 (pos 0)

few : (s : SamplesPerPulse) → branches (per_pulse s) ≤ 512
few SamplesPerPulse.Four = lit≤ tt
few SamplesPerPulse.Eight = lit≤ tt

product : (w b p : ℕ) → w ≤ p → w * (b * p) * p ≤ b * p * (p * p)
product w b p h = le_trans (mul-le-mul_right p (mul-le-mul_right (b * p) h)) (le_of_eq (mul_assoc p (b * p) p ∙ mul_comm p (b * p * p) ∙ mul_assoc (b * p) p p))

-- a scaled phase is finite, below 512 or 512, and its branch is its whole part
pub record Scaled (s : SamplesPerPulse) (p : Float) : Type 0 where
  pub count : ℕ
  pub is : Units (scaled (per_pulse s) p) count
  pub under : count ≤ 512 * 2 ^ 1074
  pub whole : count / 2 ^ 1074 ≡ branch_of (per_pulse s) p

scaled_lem : (s : SamplesPerPulse) (p : Float) → T (fits binary64 p) → T (le zero_f p) → T (lt p one_f) → Scaled s p
unfolding scaled
scaled_lem s p F lo hi =
    let b = branches (per_pulse s) in
    let u = units_of p F lo (lt_finite p 1 (pos 0) hi) in
    let L = (lt_units p 1 (pos 0) u.0 (2 ^ 1074) u.1 refl).0 hi in
    let B = few s in
    let g = G-le (u.0 * (b * 2 ^ 1074)) (2 ^ 1074 * 2 ^ 1074) b 1074 (pow_pos 2148) (lt_of_le_of_lt B (lit< tt)) (product u.0 b (2 ^ 1074) (le_of_lt L)) in
    let w = G (u.0 * (b * 2 ^ 1074)) (2 ^ 1074 * 2 ^ 1074) in
    let top = le_trans g (mul-le-mul_right (2 ^ 1074) B) in
    let U = mul_all p (of_int binary64 (pos b)) u.0 (b * 2 ^ 1074) u.1 (of_int_lem b (le_trans B (lit≤ tt))) (lt_of_le_of_lt top (lit< tt)) in
    let in_bank = branch_in_bank s p F lo hi in
    record { count = w; is = U; under = top; whole = cut (branch_of (per_pulse s) p) b (w / 2 ^ 1074) in_bank.0 B (in_bank.1 ∙ to_unsigned_lem 64 (scaled (per_pulse s) p) w U) }
  where
    cut : (a b q : ℕ) → a < b → b ≤ 512 → a ≡ min q (2 ^ 64 - 1) → q ≡ a
    cut a b q h l e = omega arith

-- ---- the guess
floor_is : (w p a : ℕ) → 0 < p → a * p ≤ w → w < suc a * p → w / p ≡ a
floor_is w p a P lo hi = le_antisymm (le_of_suc-le-suc ((div-lt_iff_lt-mul P).1 hi)) ((le-div_iff_mul-le P).1 lo)

room : (w a p : ℕ) → a * p ≤ w → w - a * p < p → w < suc a * p
room w a p h l = lt_of_lt_of_le (less w (a * p) p h l) (le_of_eq (sym (suc-mul a p)))
  where
    less : (w x p : ℕ) → x ≤ w → w - x < p → w < x + p
    less w x p h l = omega arith

-- what is left of t over a is no NaN, and where its pattern is below that of 1.0, a is the whole part of t
pub record Rest (d : Float) (w a : ℕ) : Type 0 where
  pub number : T (not (is_nan d))
  pub right : to_bits binary64 d < one_bits → w / 2 ^ 1074 ≡ a

valued : (x : Float) (n c : ℕ) → HasValue x true n c → T (not (is_nan x))
unfolding is_nan
valued nan n c v = absurd v
valued (inf s) n c v = tt
valued (fin s m e) n c v = tt

top_of : (w : ℕ) → w ≤ 512 * 2 ^ 1074 → (x : ℕ) → x ≤ w → G x (2 ^ 1074) ≤ 512 * 2 ^ 1074
top_of w h x l = G-le x (2 ^ 1074) 512 1074 (pow_pos 1074) (lit< tt) (mul-le-mul_right (2 ^ 1074) (le_trans l h))

less_le : (a b : ℕ) → a - b ≤ a
less_le a b = omega arith

rest_lem : (t y : Float) (w a : ℕ) → Units t w → Units y (a * 2 ^ 1074) → w ≤ 512 * 2 ^ 1074 → a < 512 → Rest (sub binary64 t y) w a
rest_lem t y w a U V W A = elim (le_or_lt (a * 2 ^ 1074) w) [
  | inl h ↦
      let r = w - a * 2 ^ 1074 in
      let u = sub_all t y w (a * 2 ^ 1074) U V h (lt_of_le_of_lt (top_of w W r (less_le w (a * 2 ^ 1074))) (lit< tt)) in
      record { number = no_nan (sub binary64 t y) (G r (2 ^ 1074)) u; right = λ l. kept h u l (le_or_lt (2 ^ 1074) r) }
  | inr h ↦
      let r = a * 2 ^ 1074 - w in
      let v = sub_negative t y w (a * 2 ^ 1074) U V h (lt_of_le_of_lt (top_of (512 * 2 ^ 1074) (le_of_eq refl) r (le_trans (less_le (a * 2 ^ 1074) w) (mul-le-mul_right (2 ^ 1074) (le_of_lt A)))) (lit< tt)) in
      record { number = valued (sub binary64 t y) (G r (2 ^ 1074)) (2 ^ 1074) v; right = λ l. absurd (clash (to_bits binary64 (sub binary64 t y)) l (negative_bits (sub binary64 t y) (G r (2 ^ 1074)) (2 ^ 1074) v)) }
]
  where
    clash : (x : ℕ) → x < 4607182418800017408 → 9223372036854775808 ≤ x → ⊥
    clash x l h = omega arith

    none : (x : ℕ) → x < 4607182418800017408 → 4607182418800017408 ≤ x → ⊥
    none x l h = omega arith

    one_unit : (r : ℕ) → 2 ^ 1074 ≤ r → 2 ^ 1074 ≤ G r (2 ^ 1074)
    one_unit r h = le_trans (le_of_eq (sym (one-mul (2 ^ 1074)))) (G-ge r (2 ^ 1074) 1 1074 (pow_pos 1074) (lit< tt) (mul-le-mul_right (2 ^ 1074) (le_trans (le_of_eq (one-mul (2 ^ 1074))) h)))

    kept : a * 2 ^ 1074 ≤ w → Units (sub binary64 t y) (G (w - a * 2 ^ 1074) (2 ^ 1074)) → to_bits binary64 (sub binary64 t y) < one_bits → (2 ^ 1074 ≤ w - a * 2 ^ 1074) ⊎ (w - a * 2 ^ 1074 < 2 ^ 1074) → w / 2 ^ 1074 ≡ a
    kept h u l (inl g) = absurd (none (to_bits binary64 (sub binary64 t y)) l (units_bits (sub binary64 t y) (G (w - a * 2 ^ 1074) (2 ^ 1074)) u (one_unit (w - a * 2 ^ 1074) g)))
    kept h u l (inr g) = floor_is w (2 ^ 1074) a (pow_pos 1074) h (room w a (2 ^ 1074) h g)

-- ---- whole numbers below 512 by their patterns
listed : ℕ → (ℕ → Float) → List Float
listed zero f = []
listed (suc n) f = f n ∷ listed n f

listed_at : (n k : ℕ) (f : ℕ → Float) → k < n → get_or (listed n f) (n - suc k) nan ≡ f k
unfolding listed
listed_at zero k f h = absurd (omega arith)
listed_at (suc n) k f h = elim (eq-or-lt_of_le (le_of_suc-le-suc h)) [
  | inl e ↦ ap (λ (i : ℕ). get_or (listed (suc n) f) i nan) (first n k e) ∙ ap f (sym e)
  | inr l ↦ ap (λ (i : ℕ). get_or (listed (suc n) f) i nan) (later n k l) ∙ listed_at n k f l
]
  where
    first : (n k : ℕ) → k ≡ n → suc n - suc k ≡ 0
    first n k e = omega arith

    later : (n k : ℕ) → k < n → suc n - suc k ≡ suc (n - suc k)
    later n k l = omega arith

abbrev by_pattern : ℕ → Float
by_pattern a = sub binary64 (of_bits binary64 (4841369599423283200 + a)) (of_bits binary64 4841369599423283200)

all_listed : listed 512 by_pattern ≡ listed 512 (λ a. of_int binary64 (pos a))
unfolding sub of_bits of_int listed
all_listed = refl

pub pattern_lem : (a : ℕ) → a < 512 → by_pattern a ≡ of_int binary64 (pos a)
pattern_lem a h = sym (listed_at 512 a by_pattern h) ∙ ap (λ (l : List Float). get_or l (512 - suc a) nan) all_listed ∙ listed_at 512 a (λ a. of_int binary64 (pos a)) h

pub pattern_number : (a : ℕ) → a < 512 → T (not (nan_bits binary64 (4841369599423283200 + a)))
pattern_number a h = not_nan_f64_bits (4841369599423283200 + a) (omega arith)

-- ---- for the code
pub bits_fit : (x : Float) → fits binary64 x ≡ true → to_bits binary64 x < 18446744073709551616
bits_fit x F = to_bits-lt binary64 x (subst T (sym F) tt)

both : (a b : Bool) → (a && b) ≡ true → T a × T b
both true true e = (tt, tt)
both true false e = absurd (true≢false (sym e))
both false b e = absurd (true≢false (sym e))

zero_is : of_bits binary64 0 ≡ zero_f
unfolding of_bits
zero_is = refl

one_is : of_bits binary64 one_bits ≡ one_f
unfolding of_bits
one_is = refl

most_is : of_bits binary64 4647714815446351872 ≡ fin false 1 (pos 9)
unfolding of_bits
most_is = refl

of_phase : (s : SamplesPerPulse) (p : Float) → fits binary64 p ≡ true → in_unit p ≡ true → Scaled s p
of_phase s p F e =
    let t = both (le (of_bits binary64 0) p) (lt p (of_bits binary64 one_bits)) e in
    scaled_lem s p (subst T (sym F) tt) (subst (λ (z : Float). T (le z p)) zero_is t.0) (subst (λ (z : Float). T (lt p z)) one_is t.1)

scaled_is : (s : SamplesPerPulse) (p : Float) → scaled (per_pulse s) p ≡ mul binary64 p (of_int binary64 (pos (branches (per_pulse s))))
unfolding scaled
scaled_is s p = refl

pub sum_number : (s : SamplesPerPulse) (p scale : Float) → fits binary64 p ≡ true → in_unit p ≡ true → scale ≡ of_int binary64 (pos (branches (per_pulse s))) → T (not (is_nan (add binary64 (mul binary64 p scale) (of_bits binary64 4647714815446351872))))
sum_number s p scale F e h =
    let z = of_phase s p F e in
    subst (λ (y : Float). T (not (is_nan (add binary64 (mul binary64 p y) (of_bits binary64 4647714815446351872))))) (sym h)
    (subst (λ (t : Float). T (not (is_nan (add binary64 t (of_bits binary64 4647714815446351872))))) (scaled_is s p)
    (subst (λ (y : Float). T (not (is_nan (add binary64 (scaled (per_pulse s) p) y)))) (sym most_is)
    (no_nan (add binary64 (scaled (per_pulse s) p) (fin false 1 (pos 9))) (G (z.count + 512 * 2 ^ 1074) (2 ^ 1074))
    (add_units (scaled (per_pulse s) p) (fin false 1 (pos 9)) z.count (512 * 2 ^ 1074) z.is refl (lt_of_le_of_lt (double z.count (2 ^ 1074) (pow_pos 1074) z.under) (lit< tt))))))
  where
    double : (w p : ℕ) → 0 < p → w ≤ 512 * 2 ^ 1074 → G (w + 512 * 2 ^ 1074) (2 ^ 1074) ≤ 1024 * 2 ^ 1074
    double w p P h = G-le (w + 512 * 2 ^ 1074) (2 ^ 1074) 1024 1074 (pow_pos 1074) (lit< tt) (mul-le-mul_right (2 ^ 1074) (twice w (2 ^ 1074) h))
      where
        twice : (w p : ℕ) → w ≤ 512 * p → w + 512 * p ≤ 1024 * p
        twice w p h = omega arith

rest_of : (s : SamplesPerPulse) (p scale y : Float) (a : ℕ) → fits binary64 p ≡ true → in_unit p ≡ true → scale ≡ of_int binary64 (pos (branches (per_pulse s))) → a < 512 → y ≡ of_int binary64 (pos a)
    → T (not (is_nan (sub binary64 (mul binary64 p scale) y))) × (to_bits binary64 (sub binary64 (mul binary64 p scale) y) < one_bits → (a ≡ branch_of (per_pulse s) p) × (sub binary64 (mul binary64 p scale) y ≡ sub binary64 (scaled (per_pulse s) p) (of_int binary64 (pos (branch_of (per_pulse s) p)))))
rest_of s p scale y a F e h l g =
    let z = of_phase s p F e in
    let d = sub binary64 (scaled (per_pulse s) p) (of_int binary64 (pos a)) in
    let same : sub binary64 (mul binary64 p scale) y ≡ d = ap (λ (x : Float). sub binary64 (mul binary64 p x) y) h ∙ ap (λ (x : Float). sub binary64 x y) (sym (scaled_is s p)) ∙ ap (sub binary64 (scaled (per_pulse s) p)) g in
    let r = rest_lem (scaled (per_pulse s) p) (of_int binary64 (pos a)) z.count a z.is (of_int_lem a (le_trans (le_of_lt l) (lit≤ tt))) z.under l in (
      subst (λ (x : Float). T (not (is_nan x))) (sym same) r.number,
      λ q.
          let k : a ≡ branch_of (per_pulse s) p = sym (r.right (subst (λ (x : Float). to_bits binary64 x < one_bits) same q)) ∙ z.whole in
          (k, same ∙ ap (λ (n : ℕ). sub binary64 (scaled (per_pulse s) p) (of_int binary64 (pos n))) k),
    )

pub rest_number : (s : SamplesPerPulse) (p scale y : Float) (a : ℕ) → fits binary64 p ≡ true → in_unit p ≡ true → scale ≡ of_int binary64 (pos (branches (per_pulse s))) → a < 512 → y ≡ of_int binary64 (pos a) → T (not (is_nan (sub binary64 (mul binary64 p scale) y)))
rest_number s p scale y a F e h l g = (rest_of s p scale y a F e h l g).0

pub placed : (s : SamplesPerPulse) (p scale y : Float) (a : ℕ) → fits binary64 p ≡ true → in_unit p ≡ true → scale ≡ of_int binary64 (pos (branches (per_pulse s))) → a < 512 → y ≡ of_int binary64 (pos a)
    → to_bits binary64 (sub binary64 (mul binary64 p scale) y) < one_bits → (a ≡ branch_of (per_pulse s) p) × (sub binary64 (mul binary64 p scale) y ≡ sub binary64 (scaled (per_pulse s) p) (of_int binary64 (pos (branch_of (per_pulse s) p))))
placed s p scale y a F e h l g = (rest_of s p scale y a F e h l g).1
