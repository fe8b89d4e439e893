-- For a clock error within 0.1, a step times the samples per pulse is at least 117,960 cells of 2 ^ -17, 0.9 being 117,964.8, and a step is at most a half. One grid serves both settings: a step is 29,490 cells at 4 samples per pulse, and 14,745 at 8.
use Rattle.std.proofs.Common.{◌≡◌, ℕ, ◌+◌, ◌-◌, ◌*◌, ◌^◌, ◌<◌, ◌≤◌, Bool, true, false, T, ℤ, pos, negsuc, sym, refl, ap, ◌∙◌, subst, zero-le, le_trans, le_of_eq, lt_of_lt_of_le, lt_of_le_of_lt, mul-le-mul_right, zero-lt-suc, mul_assoc, mul_comm, mul-le-mul_left, mul-pos, one-mul, mul-zero, mul_right_comm, arith, lit<, lit≤, pow_pos}
use lib.Pow.{pow-lt}
use lib.Ieee.{Float, nan, inf, fin, binary64, up, down, round, sum, add, mul, div, lt, le, fits, of_int}
use lib.Ieee.Fits.{down_pos}
use lib.Ieee.Scale.{overflow}
use Rattle.float_rounding.proofs.Units.{G, G-ge, G-le, Units, rounded, mul_units, units_of, same_sign, sum_less, cross_back}
use Rattle.float_rounding.proofs.Order.{le_out}
use Rattle.float_rounding.proofs.More.{of_int_lem}
use Rattle.pulse_shape.proofs.DelayWithin.{div_units}
use Rattle.constants.specs.declared.SamplesPerPulse.{SamplesPerPulse}
use Rattle.constants.specs.declared.SamplesPerPulse.TheVariants.{Four, Eight}
use Rattle.constants.specs.Setting.{per_pulse}
use Rattle.constants.proofs.Settings.{rate_pos, rate_few}
use Rattle.filterbank.specs.Clocked.{one, step_of, start_clock}
use Rattle.filterbank.proofs.Grid.{Grid, Stepping, Kept}

-- the cells of a pulse, and those of 1 - 0.1 of it rounded down to a multiple of 8
abbrev pub cells : ℕ
cells = 131072

-- the cells of a step at least
abbrev pub least : SamplesPerPulse → ℕ
least Four = 29490
least Eight = 14745

pub few_cells : (s : SamplesPerPulse) → cells + least s < 2 ^ 53
few_cells Four = lit< tt
few_cells Eight = lit< tt

-- 2 ^ -17 to a cell
abbrev pub grid : SamplesPerPulse → Grid
grid s = record { cells = cells; exponent = 1057; least = least s; whole = refl; small = few_cells s }

-- 0.1, the bits 0x3fb9_9999_9999_999a, and -0.1
abbrev pub tenth : Float
tenth = fin false 3602879701896397 (negsuc 54)

abbrev pub minus_tenth : Float
minus_tenth = fin true 3602879701896397 (negsuc 54)

-- ---- 1 + e
-- between 117,960 / 131,072, which is above 0.8999, and 2
abbrev Near : Float → Type 0
Near c = (g : ℕ) × Units c g × (117960 * 2 ^ 1057 ≤ g) × (g ≤ 1 * 2 ^ 1075)

-- `omega` reads no number of more than 38 digits, so 2 ^ 1057 is a variable where it is at work
scale_lo : (u a d : ℕ) → 117960 * d ≤ 131072 * a → 117960 * u * d ≤ a * (131072 * u)
scale_lo u a d h = le_trans (le_of_eq (mul_right_comm 117960 u d)) (le_trans (mul-le-mul_right u h) (le_of_eq (ap (λ (x : ℕ). x * u) (mul_comm 131072 a) ∙ mul_assoc a 131072 u)))

scale_hi : (u a d : ℕ) → a ≤ 2 * d → a * u ≤ 1 * (2 * u) * d
scale_hi u a d h = le_trans (mul-le-mul_right u h) (le_of_eq (mul_right_comm 2 d u ∙ ap (λ (x : ℕ). x * d) (sym (one-mul (2 * u)))))

near_of : (a d : ℕ) → 0 < d → 117960 * d ≤ 131072 * a → a ≤ 2 * d → Near (round binary64 false a d)
near_of a d D lo hi =
    let u = G-le a d 1 1075 D (pow-lt {i = 0} {j = 53} (zero-lt-suc 52)) (scale_hi (2 ^ 1074) a d hi) in
    (G a d, rounded a d (lt_of_le_of_lt u (lit< {m = 1 * 2 ^ 1075} {n = overflow binary64} tt)), G-ge a d 117960 1057 D (lit< tt) (scale_lo (2 ^ 1057) a d lo), u)

abbrev one_f : Float
one_f = fin false 1 (pos 0)

plus_is : (s : Bool) (m : ℕ) (e : ℤ) → add binary64 one_f (fin s m e) ≡ sum binary64 false (1 * 1 * down e) s (m * up e * 1) (1 * down e)
unfolding add
plus_is s m e = refl

more : (d : ℕ) → 0 < d → 0 < 1 * d
more d h = omega arith

one_plus : (e : Float) → T (le minus_tenth e) → T (le e tenth) → Near (add binary64 one_f e)
unfolding le
one_plus nan l h = absurd l
one_plus (inf true) l h = absurd l
one_plus (inf false) l h = absurd h
one_plus (fin false m e) l h =
    let x = m * up e in
    subst Near (sym (plus_is false m e ∙ same_sign false (1 * 1 * down e) (x * 1) (1 * down e)))
    (near_of (1 * 1 * down e + x * 1) (1 * down e) (more (down e) (down_pos e)) (bottom x (down e)) (top x (down e) (le_out false (m * up e * 2 ^ 55) false (3602879701896397 * 1 * down e) h)))
  where
    bottom : (x d : ℕ) → 117960 * (1 * d) ≤ 131072 * (1 * 1 * d + x * 1)
    bottom x d = omega arith

    top : (x d : ℕ) → x * 2 ^ 55 ≤ 3602879701896397 * 1 * d → 1 * 1 * d + x * 1 ≤ 2 * (1 * d)
    top x d h = omega arith
one_plus (fin true m e) l h =
    let x = m * up e in
    let k : m * up e * 2 ^ 55 ≤ 3602879701896397 * 1 * down e = le_out true (3602879701896397 * 1 * down e) true (m * up e * 2 ^ 55) l in
    subst Near (sym (plus_is true m e ∙ sum_less (1 * 1 * down e) (x * 1) (1 * down e) (under x (down e) k)))
    (near_of (1 * 1 * down e - x * 1) (1 * down e) (more (down e) (down_pos e)) (bottom x (down e) k) (top x (down e)))
  where
    under : (x d : ℕ) → x * 2 ^ 55 ≤ 3602879701896397 * 1 * d → x * 1 ≤ 1 * 1 * d
    under x d h = omega arith

    bottom : (x d : ℕ) → x * 2 ^ 55 ≤ 3602879701896397 * 1 * d → 117960 * (1 * d) ≤ 131072 * (1 * 1 * d - x * 1)
    bottom x d h = omega arith

    top : (x d : ℕ) → 1 * 1 * d - x * 1 ≤ 2 * (1 * d)
    top x d = omega arith

-- ---- the step, by the units of 1 / sps: a quarter or an eighth
one_is : one ≡ one_f
unfolding of_int
one_is = refl

part : SamplesPerPulse → ℕ
part Four = 2 ^ 1072
part Eight = 2 ^ 1071

part_is : (s : SamplesPerPulse) → Units (div binary64 one (of_int binary64 (pos (per_pulse s)))) (part s)
unfolding div of_int part
part_is Four = refl
part_is Eight = refl

part_pos : (s : SamplesPerPulse) → 0 < part s
unfolding part
part_pos Four = pow_pos 1072
part_pos Eight = pow_pos 1071

-- the step's bounds
step_lo : (s : SamplesPerPulse) (g : ℕ) → 117960 * 2 ^ 1057 ≤ g → least s * 2 ^ 1057 * (2 ^ 1074 * 2 ^ 1074) ≤ part s * g * 2 ^ 1074
unfolding part
step_lo Four g h = mul-le-mul_right (2 ^ 1074) (mul-le-mul_left (2 ^ 1072) h)
step_lo Eight g h = mul-le-mul_right (2 ^ 1074) (mul-le-mul_left (2 ^ 1071) h)

step_hi : (s : SamplesPerPulse) (g : ℕ) → g ≤ 1 * 2 ^ 1075 → part s * g * 2 ^ 1074 ≤ 1 * 2 ^ 1073 * (2 ^ 1074 * 2 ^ 1074)
unfolding part
step_hi Four g h = mul-le-mul_right (2 ^ 1074) (mul-le-mul_left (2 ^ 1072) h)
step_hi Eight g h = le_trans (mul-le-mul_right (2 ^ 1074) (mul-le-mul_left (2 ^ 1071) h)) (lit≤ {m = 2 ^ 1071 * (1 * 2 ^ 1075) * 2 ^ 1074} {n = 1 * 2 ^ 1073 * (2 ^ 1074 * 2 ^ 1074)} tt)

part_of : (s : SamplesPerPulse) (c : Float) → Near c → Stepping (grid s) (mul binary64 (div binary64 one (of_int binary64 (pos (per_pulse s)))) c)
part_of s c near =
    let g = near.0 in
    let a = part s * g in
    let b = 2 ^ 1074 * 2 ^ 1074 in
    let lo : least s * 2 ^ 1057 ≤ G a b = G-ge a b (least s) 1057 (pow_pos 2148) (few_least s) (step_lo s g near.2) in
    let hi : G a b ≤ 1 * 2 ^ 1073 = G-le a b 1 1073 (pow_pos 2148) (lit< tt) (step_hi s g near.3) in
    (G a b, mul_units (div binary64 one (of_int binary64 (pos (per_pulse s)))) c (part s) g (part_is s) near.1 (part_pos s) (lt_of_lt_of_le (lit< {m = 0} {n = 117960 * 2 ^ 1057} tt) near.2) (lt_of_le_of_lt hi (lit< {m = 1 * 2 ^ 1073} {n = overflow binary64} tt)), lo, hi)
  where
    few_least : (s : SamplesPerPulse) → least s < 2 ^ 53
    few_least Four = lit< tt
    few_least Eight = lit< tt

pub step_in : (s : SamplesPerPulse) (e : Float) → T (le minus_tenth e) → T (le e tenth) → Stepping (grid s) (step_of (per_pulse s) e)
unfolding step_of
step_in s e l h = subst (λ (q : Float). Stepping (grid s) (mul binary64 (div binary64 one (of_int binary64 (pos (per_pulse s)))) (add binary64 q e))) (sym one_is) (part_of s (add binary64 one_f e) (one_plus e l h))

-- ---- the first clock
abbrev two_f : Float
two_f = fin false 1 (pos 1)

at_most_two : (p : Float) (n : ℕ) → Units p n → T (le p two_f) → n ≤ 2 * 2 ^ 1074
unfolding le
at_most_two nan n U t = absurd U
at_most_two (inf s) n U t = absurd U
at_most_two (fin true m e) n U t = le_trans (le_of_eq U.1) zero-le
at_most_two (fin false m e) n U t = cross_back n (2 * 2 ^ 1074) (down e) 1 (m * up e) 2 (down_pos e) (lit< tt) U refl (le_out false (m * up e * 1) false (2 * down e) t)

finite_of : (p : Float) → T (le p two_f) → T (lt p (inf false))
unfolding le lt
finite_of nan t = t
finite_of (inf true) t = tt
finite_of (inf false) t = t
finite_of (fin s m e) t = tt

-- from a first phase of 0 to 2 samples the clock starts at most at a half
start_hi : (s : SamplesPerPulse) (n : ℕ) → n ≤ 2 * 2 ^ 1074 → n * 2 ^ 1074 ≤ 1 * 2 ^ 1073 * (per_pulse s * 2 ^ 1074)
start_hi Four n h = mul-le-mul_right (2 ^ 1074) h
start_hi Eight n h = le_trans (mul-le-mul_right (2 ^ 1074) h) (lit≤ {m = 2 * 2 ^ 1074 * 2 ^ 1074} {n = 1 * 2 ^ 1073 * (8 * 2 ^ 1074)} tt)

pub starts : (s : SamplesPerPulse) (p : Float) → T (fits binary64 p) → T (le (fin false 0 (pos 0)) p) → T (le p two_f) → Kept (grid s) 0 (start_clock (per_pulse s) p)
unfolding start_clock
starts s p F l h =
    let u = units_of p F l (finite_of p h) in
    let k = per_pulse s * 2 ^ 1074 in
    let P : 0 < k = mul-pos (rate_pos s) (pow_pos 1074) in
    let most : G u.0 k ≤ 1 * 2 ^ 1073 = G-le u.0 k 1 1073 P (lit< tt) (start_hi s u.0 (at_most_two p u.0 u.1 h)) in
    (G u.0 k, 0, div_units p (of_int binary64 (pos (per_pulse s))) u.0 k u.1 (of_int_lem (per_pulse s) (le_trans (rate_few s) (lit≤ {m = 2 ^ 30} {n = 2 ^ 53} tt))) P (lt_of_le_of_lt most (lit< {m = 1 * 2 ^ 1073} {n = overflow binary64} tt)), lt_of_le_of_lt most (lit< {m = 1 * 2 ^ 1073} {n = 2 ^ 1074} tt), zero-le, le_trans (le_of_eq (mul-zero (least s))) zero-le)
