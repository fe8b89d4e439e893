-- A delay lies within its prototype: where values of at most 16 in size cross a positive level, the delay is finite, at least 0 and below 7 * sps samples, which is 28 at 4 samples per pulse and 56 at 8.
-- The quotient is of a smaller difference by a larger one, and rounding keeps order.
use Rattle.std.specs.Prelude.{Option, Some, None}
use Rattle.std.proofs.Common.{◌≡◌, ℕ, zero, suc, ◌+◌, ◌-◌, ◌*◌, ◌^◌, ◌<◌, ◌≤◌, Bool, true, false, ◌&&◌, T, List, [], ◌∷◌, length, get_or, ℤ, pos, sym, refl, ap, ◌∙◌, subst, zero-le, le_trans, le_of_eq, lt_of_lt_of_le, lt_of_le_of_lt, le_of_lt, mul-le-mul_right, mul_assoc, mul_comm, add-mul, mul-le-mul_left, mul-lt-mul_of_pos_right, one-mul, zero-mul, arith, lit<, lit≤, pow_pos}
use lib.Ieee.{Float, nan, inf, fin, binary32, binary64, up, down, neg, add, sub, div, lt, le, eq, fits, of_int, of_bits}
use lib.Ieee.Fits.{and_l, and_r, down_pos, fits_widens}
use lib.Ieee.Scale.{overflow}
use Rattle.float_rounding.proofs.Units.{G, G-mono, G-zero, G-ge, G-le, Units, no_less, add_units, units_of, cross_back, lt_units}
use Rattle.float_rounding.proofs.More.{sub_all, of_int_lem, lt_from, nonneg}
use Rattle.float_rounding.proofs.Order.{le_out, zero_le_fin}
use Rattle.float_rounding.proofs.Val.{Val, val_units, minus_zero_lem, div_val}
use Rattle.constants.specs.declared.SamplesPerPulse.{SamplesPerPulse}
use Rattle.constants.specs.declared.SamplesPerPulse.TheVariants.{Four, Eight}
use Rattle.constants.specs.Setting.{per_pulse}
use Rattle.constants.specs.Rate.{branches_per_sample, prototype_length}
use Rattle.constants.proofs.Settings.{rate_pos, rate_few}
use Rattle.pulse_shape.specs.Accepted.{within16, all_within16}
use Rattle.pulse_shape.specs.GroupDelay.{crosses, delay_at, choose, delay_from, group_delay, mode_ac_ratio, over, mode_ac_group_delay}

abbrev zero_f : Float
zero_f = fin false 0 (pos 0)

-- ---- units of a finite value, by its size
finite_lt : (s : Bool) (m : ℕ) (e : ℤ) → T (lt (fin s m e) (inf false))
unfolding lt
finite_lt s m e = tt

size_fits : (s : Bool) (m : ℕ) (e : ℤ) → T (fits binary64 (fin s m e)) → T (fits binary64 (fin false m e))
unfolding fits
size_fits s zero e F = F
size_fits s (suc m) e F = F

size_units : (s : Bool) (m : ℕ) (e : ℤ) → T (fits binary64 (fin s m e)) → (n : ℕ) × Units (fin false m e) n
size_units s m e F = units_of (fin false m e) (size_fits s m e F) (zero_le_fin m e) (finite_lt false m e)

-- ---- a quotient of values that are not negative
pub div_units : (x y : Float) (n k : ℕ) → Units x n → Units y k → 0 < k → G n k < overflow binary64 → Units (div binary64 x y) (G n k)
div_units nan y n k p q K l = absurd p
div_units (inf s) y n k p q K l = absurd p
div_units (fin s m e) nan n k p q K l = absurd q
div_units (fin s m e) (inf t) n k p q K l = absurd q
div_units (fin s m e) (fin true i d) n k p q K l = absurd (no_less k K q.1)
div_units (fin false m e) (fin false i d) n k p q K l = val_units (div binary64 (fin false m e) (fin false i d)) (G n k) (div_val (fin false m e) (fin false i d) false false n k (refl, p) (refl, q) K l)
div_units (fin true m e) (fin false i d) n k p q K l =
    subst (λ (g : ℕ). Units (div binary64 (fin true m e) (fin false i d)) g) (sym (ap (λ (x : ℕ). G x k) p.1 ∙ G-zero k K))
    (minus_zero_lem (div binary64 (fin true m e) (fin false i d))
    (subst (λ (g : ℕ). Val (div binary64 (fin true m e) (fin false i d)) true g) (G-zero k K)
    (div_val (fin true m e) (fin false i d) true false 0 k (refl, nothing) (refl, q) K (subst (λ (x : ℕ). G x k < overflow binary64) p.1 l))))
  where
    nothing : m * up e * 2 ^ 1074 ≡ 0 * down e
    nothing = ap (λ (x : ℕ). x * up e * 2 ^ 1074) p.0 ∙ ap (λ (x : ℕ). x * 2 ^ 1074) (zero-mul (up e)) ∙ sym (zero-mul (down e))

-- ---- the two differences, of which the first is not the larger
abbrev Differences : Float → Float → Float → Type 0
Differences level a b = (x : ℕ) × (y : ℕ) × Units (sub binary64 level a) x × Units (sub binary64 b a) y × (x ≤ y) × (0 < y) × (y ≤ 32 * 2 ^ 1074)

-- values n of at most 32, exactly or rounded
small : (n : ℕ) → n ≤ 32 * 2 ^ 1074 → G n (2 ^ 1074) ≤ 32 * 2 ^ 1074
small n h = G-le n (2 ^ 1074) 32 1074 (pow_pos 1074) (lit< tt) (mul-le-mul_right (2 ^ 1074) h)

under : (n : ℕ) → n ≤ 32 * 2 ^ 1074 → n < overflow binary64
under n h = lt_of_le_of_lt h (lit< {m = 32 * 2 ^ 1074} {n = overflow binary64} tt)

some : (n : ℕ) → 0 < n → 0 < G n (2 ^ 1074)
some n h = G-ge n (2 ^ 1074) 1 0 (pow_pos 1074) (lit< tt) (mul-le-mul_right (2 ^ 1074) h)

ordered : (m n : ℕ) → m ≤ n → G m (2 ^ 1074) ≤ G n (2 ^ 1074)
ordered m n h = G-mono m (2 ^ 1074) n (2 ^ 1074) (pow_pos 1074) (pow_pos 1074) (mul-le-mul_right (2 ^ 1074) h)

together : (level a b : Float) (x y : ℕ) → x < y → y ≤ 32 * 2 ^ 1074 → (G x (2 ^ 1074) < overflow binary64 → Units (sub binary64 level a) (G x (2 ^ 1074))) → (G y (2 ^ 1074) < overflow binary64 → Units (sub binary64 b a) (G y (2 ^ 1074))) → Differences level a b
together level a b x y l h p q =
    (G x (2 ^ 1074), G y (2 ^ 1074), p (under (G x (2 ^ 1074)) (small x (le_trans (le_of_lt l) h))), q (under (G y (2 ^ 1074)) (small y h)), ordered x y (le_of_lt l), some y (lt_of_le_of_lt zero-le l), small y h)

sub_negative : (x : Float) (m : ℕ) (e : ℤ) → sub binary64 x (fin true m e) ≡ add binary64 x (fin false m e)
unfolding sub neg
sub_negative x m e = refl

-- a is not negative
module _ (ml : ℕ) (el : ℤ) (ma : ℕ) (ea : ℤ) (mb : ℕ) (eb : ℤ) (nl na nb : ℕ) (L : Units (fin false ml el) nl) (A : Units (fin false ma ea) na) (B : Units (fin false mb eb) nb) (lb : nl < nb) (b16 : nb ≤ 16 * 2 ^ 1074) where
  above_zero : na ≤ nl → Differences (fin false ml el) (fin false ma ea) (fin false mb eb)
  above_zero al =
      together (fin false ml el) (fin false ma ea) (fin false mb eb) (nl - na) (nb - na) (less nl na nb al lb) (most nb na b16)
      (sub_all (fin false ml el) (fin false ma ea) nl na L A al)
      (sub_all (fin false mb eb) (fin false ma ea) nb na B A (le_trans al (le_of_lt lb)))
    where
      less : (l a b : ℕ) → a ≤ l → l < b → l - a < b - a
      less l a b h k = omega arith

      most_of : (b a u : ℕ) → b ≤ 16 * u → b - a ≤ 32 * u
      most_of b a u h = omega arith

      most : (b a : ℕ) → b ≤ 16 * 2 ^ 1074 → b - a ≤ 32 * 2 ^ 1074
      most b a h = most_of b a (2 ^ 1074) h

  below_zero : na ≤ 16 * 2 ^ 1074 → Differences (fin false ml el) (fin true ma ea) (fin false mb eb)
  below_zero a16 =
      together (fin false ml el) (fin true ma ea) (fin false mb eb) (nl + na) (nb + na) (less nl na nb lb) (most nb na b16 a16)
      (λ l. subst (λ (z : Float). Units z (G (nl + na) (2 ^ 1074))) (sym (sub_negative (fin false ml el) ma ea)) (add_units (fin false ml el) (fin false ma ea) nl na L A l))
      (λ l. subst (λ (z : Float). Units z (G (nb + na) (2 ^ 1074))) (sym (sub_negative (fin false mb eb) ma ea)) (add_units (fin false mb eb) (fin false ma ea) nb na B A l))
    where
      less : (l a b : ℕ) → l < b → l + a < b + a
      less l a b k = omega arith

      most_of : (b a u : ℕ) → b ≤ 16 * u → a ≤ 16 * u → b + a ≤ 32 * u
      most_of b a u h k = omega arith

      most : (b a : ℕ) → b ≤ 16 * 2 ^ 1074 → a ≤ 16 * 2 ^ 1074 → b + a ≤ 32 * 2 ^ 1074
      most b a h k = most_of b a (2 ^ 1074) h k

at_most_16 : (m : ℕ) (e : ℤ) (n : ℕ) → Units (fin false m e) n → T (le (fin false m e) (fin false 1 (pos 4))) → n ≤ 16 * 2 ^ 1074
unfolding le
at_most_16 m e n U t = cross_back n (16 * 2 ^ 1074) (down e) 1 (m * up e) 16 (down_pos e) (lit< tt) U refl (le_out false (m * up e * 1) false (16 * down e) t)

at_least_minus_16 : (m : ℕ) (e : ℤ) (n : ℕ) → Units (fin false m e) n → T (le (fin true 1 (pos 4)) (fin true m e)) → n ≤ 16 * 2 ^ 1074
unfolding le
at_least_minus_16 m e n U t = cross_back n (16 * 2 ^ 1074) (down e) 1 (m * up e) 16 (down_pos e) (lit< tt) U refl (le_out true (16 * down e) true (m * up e * 1) t)

no_more : (m : ℕ) (e : ℤ) (k : ℕ) (d : ℤ) (n l : ℕ) → Units (fin false m e) n → Units (fin false k d) l → T (le (fin false m e) (fin false k d)) → n ≤ l
unfolding le
no_more m e k d n l U W t = cross_back n l (down e) (down d) (m * up e) (k * up d) (down_pos e) (down_pos d) U W (le_out false (m * up e * down d) false (k * up d * down e) t)

-- the test of 16 in size, as two comparisons with finite numbers
within_tests : (x : Float) → T (within16 x) → T (le (fin true 1 (pos 4)) x) × T (le x (fin false 1 (pos 4)))
unfolding within16 of_bits neg
within_tests x t = (and_l (le (fin true 1 (pos 4)) x) (le x (fin false 1 (pos 4))) t, and_r (le (fin true 1 (pos 4)) x) (le x (fin false 1 (pos 4))) t)

crossing_tests : (level a b : Float) → T (crosses level a b) → T (le a level) × T (lt level b)
unfolding crosses
crossing_tests level a b t = (and_l (le a level) (lt level b) t, and_r (le a level) (lt level b) t)

differences : (level a b : Float) → T (fits binary64 level) → T (fits binary64 a) → T (fits binary64 b) → T (lt zero_f level) → T (le (fin true 1 (pos 4)) a) → T (le b (fin false 1 (pos 4))) → T (le a level) → T (lt level b) → Differences level a b
unfolding lt le eq
differences nan a b FL FA FB z a16 b16 al lb = absurd z
differences (inf true) a b FL FA FB z a16 b16 al lb = absurd z
differences (inf false) a nan FL FA FB z a16 b16 al lb = absurd lb
differences (inf false) a (inf t) FL FA FB z a16 b16 al lb = absurd lb
differences (inf false) a (fin t k d) FL FA FB z a16 b16 al lb = absurd lb
differences (fin true m e) a b FL FA FB z a16 b16 al lb = absurd z
differences (fin false m e) nan b FL FA FB z a16 b16 al lb = absurd al
differences (fin false m e) (inf true) b FL FA FB z a16 b16 al lb = absurd a16
differences (fin false m e) (inf false) b FL FA FB z a16 b16 al lb = absurd al
differences (fin false m e) (fin s k d) nan FL FA FB z a16 b16 al lb = absurd lb
differences (fin false m e) (fin s k d) (inf true) FL FA FB z a16 b16 al lb = absurd lb
differences (fin false m e) (fin s k d) (inf false) FL FA FB z a16 b16 al lb = absurd b16
differences (fin false m e) (fin s k d) (fin true i c) FL FA FB z a16 b16 al lb = absurd lb
differences (fin false m e) (fin false k d) (fin false i c) FL FA FB z a16 b16 al lb =
    let L = size_units false m e FL in
    let A = size_units false k d FA in
    let B = size_units false i c FB in
    above_zero m e k d i c L.0 A.0 B.0 L.1 A.1 B.1 ((lt_units (fin false m e) i c L.0 B.0 L.1 B.1).0 lb) (at_most_16 i c B.0 B.1 b16) (no_more k d m e A.0 L.0 A.1 L.1 al)
differences (fin false m e) (fin true k d) (fin false i c) FL FA FB z a16 b16 al lb =
    let L = size_units false m e FL in
    let A = size_units true k d FA in
    let B = size_units false i c FB in
    below_zero m e k d i c L.0 A.0 B.0 L.1 A.1 B.1 ((lt_units (fin false m e) i c L.0 B.0 L.1 B.1).0 lb) (at_most_16 i c B.0 B.1 b16) (at_least_minus_16 k d A.0 A.1 a16)

-- ---- the quotient is at most 1, j more at most j + 1, and a 64th of that
one_at_most : (x y : ℕ) → x ≤ y → 0 < y → G x y ≤ 1 * 2 ^ 1074
one_at_most x y h Y = G-le x y 1 1074 Y (lit< tt) (at (2 ^ 1074) x y h)
  where
    at : (u x y : ℕ) → x ≤ y → x * u ≤ 1 * u * y
    at u x y h = le_trans (mul-le-mul_right u h) (le_of_eq (mul_comm y u ∙ ap (λ (z : ℕ). z * y) (sym (one-mul u))))

room_53 : (j : ℕ) → j < 2 ^ 52 → suc j < 2 ^ 53
room_53 j h = omega arith

sum_at_most : (j t : ℕ) → j < 2 ^ 52 → t ≤ 1 * 2 ^ 1074 → G (j * 2 ^ 1074 + t) (2 ^ 1074) ≤ suc j * 2 ^ 1074
sum_at_most j t J h = G-le (j * 2 ^ 1074 + t) (2 ^ 1074) (suc j) 1074 (pow_pos 1074) (room_53 j J) (mul-le-mul_right (2 ^ 1074) (at (2 ^ 1074) j t h))
  where
    at : (u j t : ℕ) → t ≤ 1 * u → j * u + t ≤ suc j * u
    at u j t h = le_trans (more (j * u) t (1 * u) h) (le_of_eq (sym (add-mul j 1 u) ∙ ap (λ (z : ℕ). z * u) (next j)))
      where
        more : (a t u : ℕ) → t ≤ u → a + t ≤ a + u
        more a t u h = omega arith

        next : (j : ℕ) → j + 1 ≡ suc j
        next j = omega arith

part_at_most : (j s : ℕ) → j < 2 ^ 52 → s ≤ suc j * 2 ^ 1074 → G s (64 * 2 ^ 1074) ≤ suc j * 2 ^ 1068
part_at_most j s J h = G-le s (64 * 2 ^ 1074) (suc j) 1068 (lit< tt) (room_53 j J) (le_trans (mul-le-mul_right (2 ^ 1074) h) (le_of_eq (at (suc j))))
  where
    at : (q : ℕ) → q * 2 ^ 1074 * 2 ^ 1074 ≡ q * 2 ^ 1068 * (64 * 2 ^ 1074)
    at q = mul_assoc q (2 ^ 1074) (2 ^ 1074) ∙ sym (mul_assoc q (2 ^ 1068) (64 * 2 ^ 1074))

-- the delay of a crossing between indices j and j + 1: at most (j + 1) / 64
pub delay_units : (level : Float) (j : ℕ) (a b : Float) → j < 2 ^ 40 → T (fits binary64 level) → T (fits binary64 a) → T (fits binary64 b) → T (lt zero_f level) → T (within16 a) → T (within16 b) → T (crosses level a b)
    → (n : ℕ) × Units (delay_at level j a b) n × (n ≤ suc j * 2 ^ 1068)
unfolding delay_at
delay_units level j a b J FL FA FB z a16 b16 t =
    let c = crossing_tests level a b t in
    let w = differences level a b FL FA FB z (within_tests a a16).0 (within_tests b b16).1 c.0 c.1 in
    let x = w.0 in
    let y = w.1 in
    let q-most = one_at_most x y w.4 w.5 in
    let q = div_units (sub binary64 level a) (sub binary64 b a) x y w.2 w.3 w.5 (lt_of_le_of_lt q-most (lit< {m = 1 * 2 ^ 1074} {n = overflow binary64} tt)) in
    let i = of_int_lem j (under_53 j J) in
    let s = G (j * 2 ^ 1074 + G x y) (2 ^ 1074) in
    let s_most : s ≤ suc j * 2 ^ 1074 = sum_at_most j (G x y) (under_52 j J) q-most in
    let sum = add_units (of_int binary64 (pos j)) (div binary64 (sub binary64 level a) (sub binary64 b a)) (j * 2 ^ 1074) (G x y) i q (lt_of_le_of_lt s_most (big j J 1074 (lit< tt))) in
    let k = of_int_lem branches_per_sample (lit≤ tt) in
    let d-most = part_at_most j s (under_52 j J) s_most in
    (G s (64 * 2 ^ 1074), div_units (add binary64 (of_int binary64 (pos j)) (div binary64 (sub binary64 level a) (sub binary64 b a))) (of_int binary64 (pos branches_per_sample)) s (64 * 2 ^ 1074) sum k (lit< tt) (lt_of_le_of_lt d-most (big j J 1068 (lit< tt))), d-most)
  where
    under_53 : (j : ℕ) → j < 2 ^ 40 → j ≤ 2 ^ 53
    under_53 j h = omega arith

    under_52 : (j : ℕ) → j < 2 ^ 40 → j < 2 ^ 52
    under_52 j h = omega arith

    big : (j : ℕ) → j < 2 ^ 40 → (p : ℕ) → 2 ^ 40 * 2 ^ p < overflow binary64 → suc j * 2 ^ p < overflow binary64
    big j h p l = lt_of_le_of_lt (mul-le-mul_right (2 ^ p) h) l

-- ---- along the list
-- each value is an f32's
abbrev pub Held : List Float → Type 0
Held p = (k : ℕ) → T (fits binary32 (get_or p k nan))

true_is : (b : Bool) → b ≡ true → T b
true_is b e = subst T (sym e) tt

module _ (level : Float) (FL : T (fits binary64 level)) (z : T (lt zero_f level)) (places : ℕ) (few : places ≤ 2 ^ 40) (d : Float) where
  abbrev Reached : Type 0
  Reached = (n : ℕ) × Units d n × (n ≤ (places - 1) * 2 ^ 1068)

  found : (j : ℕ) (a b : Float) → j + 1 < places → T (fits binary32 a) → T (fits binary32 b) → T (within16 a) → T (within16 b) → T (crosses level a b) → delay_at level j a b ≡ d → Reached
  found j a b h FA FB a16 b16 t e =
      let w = delay_units level j a b (room j places h few) FL (fits_widens a FA) (fits_widens b FB) z a16 b16 t in
      (w.0, subst (λ (x : Float). Units x w.0) e w.1, le_trans w.2 (mul-le-mul_right (2 ^ 1068) (last j places h)))
    where
      room : (j n : ℕ) → j + 1 < n → n ≤ 2 ^ 40 → j < 2 ^ 40
      room j n h k = omega arith

      last : (j n : ℕ) → j + 1 < n → suc j ≤ n - 1
      last j n h = omega arith

  along : (l : List Float) (j : ℕ) → Held l → T (all_within16 l) → j + length l ≤ places → delay_from level j l ≡ Some d → Reached
  unfolding delay_from all_within16
  along [] j H w h e = let y : ◌≡◌ {A = ℕ} 0 1 = cc in absurd (omega arith)
  along (a ∷ []) j H w h e = let y : ◌≡◌ {A = ℕ} 0 1 = cc in absurd (omega arith)
  along (a ∷ b ∷ l) j H w h e = go (crosses level a b) refl e (λ f. along (b ∷ l) (j + 1) (λ k. H (suc k)) rest (on j (length l) places h) f)
    where
      rest : T (all_within16 (b ∷ l))
      rest = and_r (within16 a) (within16 b && all_within16 l) w

      inside : (j n m : ℕ) → j + suc (suc n) ≤ m → j + 1 < m
      inside j n m h = omega arith

      on : (j n m : ℕ) → j + suc (suc n) ≤ m → j + 1 + suc n ≤ m
      on j n m h = omega arith

      go : (t : Bool) → crosses level a b ≡ t → choose t (Some (delay_at level j a b)) (delay_from level (j + 1) (b ∷ l)) ≡ Some d → (delay_from level (j + 1) (b ∷ l) ≡ Some d → Reached) → Reached
      go true c f later = found j a b (inside j (length l) places h) (H 0) (H 1) (and_l (within16 a) (within16 b && all_within16 l) w) (and_l (within16 b) (all_within16 l) rest) (true_is (crosses level a b) c) (cc)
      go false c f later = later f

-- ---- the law, at any rate: the delay is at most that of the last two indices
pub below_7 : (sps n : ℕ) → 0 < sps → n ≤ (prototype_length sps - 1) * 2 ^ 1068 → n < 7 * sps * 2 ^ 1074
below_7 sps n S h = lt_of_le_of_lt h (lt_of_lt_of_le (mul-lt-mul_of_pos_right (less sps S) (pow_pos 1068)) (le_of_eq (mul_assoc (7 * sps) 64 (2 ^ 1068))))
  where
    less : (s : ℕ) → 0 < s → 64 * s * 7 - 1 < 7 * s * 64
    less s h = omega arith

pub delay_most : (sps : ℕ) (level : Float) (p : List Float) (d : Float) → sps ≤ 2 ^ 30 → T (fits binary32 level) → T (lt zero_f level) → Held p → all_within16 p ≡ true → length p ≤ prototype_length sps → group_delay level p ≡ Some d
    → (n : ℕ) × Units d n × (n ≤ (prototype_length sps - 1) * 2 ^ 1068)
unfolding group_delay
delay_most sps level p d few FL z H w h e =
    along level (fits_widens level FL) z (prototype_length sps) (room sps few) d p 0 H (true_is (all_within16 p) w) (le_trans (le_of_eq (none (length p))) h) e
  where
    room : (s : ℕ) → s ≤ 2 ^ 30 → 64 * s * 7 ≤ 2 ^ 40
    room s h = omega arith

    none : (n : ℕ) → 0 + n ≡ n
    none n = omega arith

-- at both settings: at least 0, and below 28 samples at 4 samples per pulse, 56 at 8
abbrev pub seven_pulses : SamplesPerPulse → Float
seven_pulses Four = fin false 7 (pos 2)
seven_pulses Eight = fin false 7 (pos 3)

below : (s : SamplesPerPulse) (d : Float) (n : ℕ) → Units d n → n < 7 * per_pulse s * 2 ^ 1074 → T (lt d (seven_pulses s))
below Four d n u h = lt_from d 7 (pos 2) n (28 * 2 ^ 1074) u refl h
below Eight d n u h = lt_from d 7 (pos 3) n (56 * 2 ^ 1074) u refl h

-- by the law for either prototype
within_of : (s : SamplesPerPulse) (d : Float) → (n : ℕ) × Units d n × (n ≤ (prototype_length (per_pulse s) - 1) * 2 ^ 1068) → T (le zero_f d) × T (lt d (seven_pulses s))
within_of s d r = (nonneg d r.0 r.1, below s d r.0 r.1 (below_7 (per_pulse s) r.0 (rate_pos s) r.2))

pub delay_within : (s : SamplesPerPulse) (level : Float) (p : List Float) (d : Float) → T (fits binary32 level) → T (lt zero_f level) → Held p → all_within16 p ≡ true → length p ≤ prototype_length (per_pulse s) → group_delay level p ≡ Some d → T (le zero_f d) × T (lt d (seven_pulses s))
delay_within s level p d FL z H w h e = within_of s d (delay_most (per_pulse s) level p d (rate_few s) FL z H w h e)

-- ---- Mode A/C: the ratio is from 1 to 2, so its delay is no larger
ratio_low : 1 * 2 ^ 1074 ≤ G (1500 * 2 ^ 1074) (1450 * 2 ^ 1074)
ratio_low = G-ge (1500 * 2 ^ 1074) (1450 * 2 ^ 1074) 1 1074 (lit< tt) (lit< tt) (lit≤ tt)

ratio_high : G (1500 * 2 ^ 1074) (1450 * 2 ^ 1074) ≤ 2 * 2 ^ 1074
ratio_high = G-le (1500 * 2 ^ 1074) (1450 * 2 ^ 1074) 2 1074 (lit< tt) (lit< tt) (lit≤ tt)

ratio_units : Units mode_ac_ratio (G (1500 * 2 ^ 1074) (1450 * 2 ^ 1074))
unfolding mode_ac_ratio
ratio_units = div_units (of_int binary64 (pos 1500)) (of_int binary64 (pos 1450)) (1500 * 2 ^ 1074) (1450 * 2 ^ 1074) (of_int_lem 1500 (lit≤ tt)) (of_int_lem 1450 (lit≤ tt)) (lit< tt) (lt_of_le_of_lt ratio_high (lit< {m = 2 * 2 ^ 1074} {n = overflow binary64} tt))

smaller : (x n q k : ℕ) → n ≤ q * x → 1 * 2 ^ 1074 ≤ k → n * 2 ^ 1074 ≤ q * x * k
smaller x n q k h l = le_trans (mul-le-mul_right (2 ^ 1074) h) (mul-le-mul_left (q * x) (le_trans (le_of_eq (sym (one-mul (2 ^ 1074)))) l))

-- the delay that a Mode A/C delay comes from
from_ratio : (c : Option Float) (d : Float) → over mode_ac_ratio c ≡ Some d → (x : Float) × (c ≡ Some x) × (div binary64 x mode_ac_ratio ≡ d)
from_ratio (Some x) d e = (x, refl, cc)
from_ratio None d e = let y : ◌≡◌ {A = ℕ} 0 1 = cc in absurd (omega arith)

pub mode_ac_delay_most : (sps : ℕ) (level : Float) (p : List Float) (d : Float) → sps ≤ 2 ^ 30 → T (fits binary32 level) → T (lt zero_f level) → Held p → all_within16 p ≡ true → length p ≤ prototype_length sps → mode_ac_group_delay level p ≡ Some d
    → (n : ℕ) × Units d n × (n ≤ (prototype_length sps - 1) * 2 ^ 1068)
unfolding mode_ac_group_delay
mode_ac_delay_most sps level p d few FL z H w h e =
    let f = from_ratio (group_delay level p) d e in
    let r = delay_most sps level p f.0 few FL z H w h f.1 in
    let k = G (1500 * 2 ^ 1074) (1450 * 2 ^ 1074) in
    let K : 0 < k = lt_of_lt_of_le (lit< {m = 0} {n = 1 * 2 ^ 1074} tt) ratio_low in
    let most : G r.0 k ≤ (prototype_length sps - 1) * 2 ^ 1068 = G-le r.0 k (prototype_length sps - 1) 1068 K (room sps few) (smaller (2 ^ 1068) r.0 (prototype_length sps - 1) k r.2 ratio_low) in
    (G r.0 k, subst (λ (x : Float). Units x (G r.0 k)) f.2 (div_units f.0 mode_ac_ratio r.0 k r.1 ratio_units K (lt_of_le_of_lt (le_trans most (mul-le-mul_right (2 ^ 1068) (le_of_lt (room sps few)))) (lit< {m = 2 ^ 53 * 2 ^ 1068} {n = overflow binary64} tt))), most)
  where
    room : (s : ℕ) → s ≤ 2 ^ 30 → 64 * s * 7 - 1 < 2 ^ 53
    room s h = omega arith

pub mode_ac_delay_within : (s : SamplesPerPulse) (level : Float) (p : List Float) (d : Float) → T (fits binary32 level) → T (lt zero_f level) → Held p → all_within16 p ≡ true → length p ≤ prototype_length (per_pulse s) → mode_ac_group_delay level p ≡ Some d → T (le zero_f d) × T (lt d (seven_pulses s))
mode_ac_delay_within s level p d FL z H w h e = within_of s d (mode_ac_delay_most (per_pulse s) level p d (rate_few s) FL z H w h e)
