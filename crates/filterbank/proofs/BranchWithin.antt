-- For a phase from 0 to below 1 the branch is a branch, the whole part of the scaled phase, and tau is from 0 to 1. Until the cast to f32 no operation rounds.
use Rattle.std.proofs.Common.{◌≡◌, ℕ, ◌+◌, ◌-◌, ◌*◌, ◌/◌, ◌%◌, ◌^◌, ◌<◌, ◌≤◌, min, Bool, true, false, cond, T, pos, sym, refl, ap, ◌∙◌, subst, inl, inr, zero-le, le_trans, le_of_eq, lt_of_lt_of_le, lt_of_le_of_lt, le_of_lt, mul-le-mul_right, mod-lt, mul_assoc, mul_comm, div-lt_iff_lt-mul, mul-lt-mul_of_pos_right, zero-mul, div-mul-le_self, arith, lit<, lit≤, pow_pos, pow-add, lt-ltb}
use native.Mathlib.Nat.{mod-le, mod-eq-sub-div-mul, mul-mod_left, mul-div-mul_right, mul-sub}
use lib.Ieee.{Float, nan, inf, fin, binary32, binary64, up, down, round, mul, sub, of_int, to_unsigned, lt, le, fits}
use lib.Ieee.Fits.{down_pos}
use lib.Ieee.Scale.{overflow, round_same}
use lib.Ieee.Order.{round_mono}
use lib.Ieee.Digits.{back}
use Rattle.float_rounding.proofs.Units.{G, G-exact, Units, units_of, lt_units, lt_finite, cross}
use Rattle.float_rounding.proofs.More.{Rep, G-rep, rep_of, mul_all, sub_all, of_int_lem, to_unsigned_lem}
use Rattle.floats.specs.Narrow.{narrow}
use Rattle.constants.specs.declared.SamplesPerPulse.{SamplesPerPulse}
use Rattle.constants.specs.Setting.{per_pulse}
use Rattle.constants.specs.Rate.{branches}
use Rattle.constants.proofs.Settings.{branch_bits, branches_are, few_branches}
use Rattle.filterbank.specs.Taps.{scaled, numbered, branch_of, tau_of}
use Rattle.filterbank.proofs.Padded.{le_or_lt}

-- a remainder by a power of two has no more digits
mod_scale : (q s t : ℕ) → 0 < t → q * t % (s * t) ≡ q % s * t
mod_scale q s t T0 =
    mod-eq-sub-div-mul (q * t) (s * t)
    ∙ ap (λ (x : ℕ). q * t - x * (s * t)) (mul-div-mul_right q s T0)
    ∙ ap (λ (x : ℕ). q * t - x) (sym (mul_assoc (q / s) s t))
    ∙ ap (λ (x : ℕ). x - q / s * s * t) (mul_comm q t)
    ∙ ap (λ (x : ℕ). t * q - x) (mul_comm (q / s * s) t)
    ∙ sym (mul-sub t q (q / s * s))
    ∙ mul_comm t (q - q / s * s)
    ∙ ap (λ (x : ℕ). x * t) (sym (mod-eq-sub-div-mul q s))

rep_mod : (n l : ℕ) → Rep n → Rep (n % 2 ^ l)
rep_mod n l r = elim (le_or_lt l r.1) [
  | inl h ↦ (0, 0, pow_pos 53, ap (λ (x : ℕ). x % 2 ^ l) (r.3 ∙ ap (λ (x : ℕ). r.0 * 2 ^ x) (sym (back r.1 l h)) ∙ ap (λ (x : ℕ). r.0 * x) (pow-add 2 (r.1 - l) l) ∙ sym (mul_assoc r.0 (2 ^ (r.1 - l)) (2 ^ l))) ∙ mul-mod_left (r.0 * 2 ^ (r.1 - l)) (2 ^ l))
  | inr h ↦
      let i = l - r.1 in (
        r.0 % 2 ^ i,
        r.1,
        lt_of_le_of_lt (mod-le r.0 (2 ^ i)) r.2,
        ap (λ (x : ℕ). x % 2 ^ l) r.3 ∙ ap (λ (x : ℕ). r.0 * 2 ^ r.1 % x) (ap (λ (x : ℕ). 2 ^ x) (sym (back l r.1 (le_of_lt h))) ∙ pow-add 2 i r.1) ∙ mod_scale r.0 (2 ^ i) (2 ^ r.1) (pow_pos r.1),
      )
]

-- 2 ^ l branches, as many as the rate has, and few enough for the format
module _ (sps l : ℕ) (B : branches sps ≡ 2 ^ l) (few : 2 ^ l ≤ 2 ^ 20) (p : Float) (w : ℕ) (F : T (fits binary64 p)) (U : Units p w) (L : w < 2 ^ 1074) where
  r : Rep w
  r = rep_of p w F U

  unfoldable W : ℕ
  W = w * 2 ^ l

  W-rep : Rep W
  unfolding W
  W-rep = (r.0, r.1 + l, r.2, ap (λ (x : ℕ). x * 2 ^ l) r.3 ∙ mul_assoc r.0 (2 ^ r.1) (2 ^ l) ∙ ap (λ (x : ℕ). r.0 * x) (sym (pow-add 2 r.1 l)))

  W-lt : W < 2 ^ l * 2 ^ 1074
  unfolding W
  W-lt = lt_of_lt_of_le (mul-lt-mul_of_pos_right L (pow_pos l)) (le_of_eq (mul_comm (2 ^ 1074) (2 ^ l)))

  W-small : W < overflow binary64
  W-small = lt_of_lt_of_le W-lt (le_trans (mul-le-mul_right (2 ^ 1074) few) (lit≤ {m = 2 ^ 20 * 2 ^ 1074} {n = overflow binary64} tt))

  exact : G (w * (2 ^ l * 2 ^ 1074)) (2 ^ 1074 * 2 ^ 1074) ≡ W
  unfolding W
  exact =
      let s = W-rep in
      G-exact (w * (2 ^ l * 2 ^ 1074)) (2 ^ 1074 * 2 ^ 1074) s.0 s.1 (pow_pos 2148) s.2
      (ap (λ (x : ℕ). x * 2 ^ 1074) (sym (mul_assoc w (2 ^ l) (2 ^ 1074))) ∙ mul_assoc (w * 2 ^ l) (2 ^ 1074) (2 ^ 1074) ∙ ap (λ (x : ℕ). x * (2 ^ 1074 * 2 ^ 1074)) s.3)
      ∙ sym s.3

  branches_units : Units (of_int binary64 (pos (branches sps))) (2 ^ l * 2 ^ 1074)
  branches_units = subst (λ (x : ℕ). Units (of_int binary64 (pos x)) (2 ^ l * 2 ^ 1074)) (sym B) (of_int_lem (2 ^ l) (le_trans few (lit≤ {m = 2 ^ 20} {n = 2 ^ 53} tt)))

  scaled_units : Units (scaled sps p) W
  unfolding scaled
  scaled_units = subst (λ (g : ℕ). Units (mul binary64 p (of_int binary64 (pos (branches sps)))) g) exact (mul_all p (of_int binary64 (pos (branches sps))) w (2 ^ l * 2 ^ 1074) U branches_units (lt_of_le_of_lt (le_of_eq exact) W-small))

  whole_lt : W / 2 ^ 1074 < 2 ^ l
  whole_lt = (div-lt_iff_lt-mul (pow_pos 1074)).1 W-lt

  whole_is : to_unsigned 64 (scaled sps p) ≡ W / 2 ^ 1074
  whole_is = to_unsigned_lem 64 (scaled sps p) W scaled_units ∙ small (W / 2 ^ 1074) (lt_of_lt_of_le whole_lt few)
    where
      small : (q : ℕ) → q < 2 ^ 20 → min q (2 ^ 64 - 1) ≡ q
      small q h = omega arith

  branch_is : branch_of sps p ≡ W / 2 ^ 1074
  unfolding branch_of
  branch_is = ap (numbered sps) whole_is ∙ ap (λ (t : Bool). cond t (W / 2 ^ 1074) 0) (lt-ltb (W / 2 ^ 1074) (branches sps) (lt_of_lt_of_le whole_lt (le_of_eq (sym B))))

  a_units : Units (of_int binary64 (pos (branch_of sps p))) (W / 2 ^ 1074 * 2 ^ 1074)
  a_units = subst (λ (a : ℕ). Units (of_int binary64 (pos a)) (W / 2 ^ 1074 * 2 ^ 1074)) (sym branch_is) (of_int_lem (W / 2 ^ 1074) (le_of_lt (lt_of_lt_of_le whole_lt (le_trans few (lit≤ {m = 2 ^ 20} {n = 2 ^ 53} tt)))))

  rest_exact : G (W - W / 2 ^ 1074 * 2 ^ 1074) (2 ^ 1074) ≡ W % 2 ^ 1074
  rest_exact = ap (λ (x : ℕ). G x (2 ^ 1074)) (sym (mod-eq-sub-div-mul W (2 ^ 1074))) ∙ G-rep (W % 2 ^ 1074) (rep_mod W 1074 W-rep)

  rest_lt : W % 2 ^ 1074 < 2 ^ 1074
  rest_lt = mod-lt W (pow_pos 1074)

  rest_units : Units (sub binary64 (scaled sps p) (of_int binary64 (pos (branch_of sps p)))) (W % 2 ^ 1074)
  rest_units = subst (λ (g : ℕ). Units (sub binary64 (scaled sps p) (of_int binary64 (pos (branch_of sps p)))) g) rest_exact (sub_all (scaled sps p) (of_int binary64 (pos (branch_of sps p))) W (W / 2 ^ 1074 * 2 ^ 1074) scaled_units a_units (div-mul-le_self W (2 ^ 1074)) (lt_of_le_of_lt (le_of_eq rest_exact) (lt_of_lt_of_le rest_lt (lit≤ {m = 2 ^ 1074} {n = overflow binary64} tt))))

-- ---- a value from 0 to 1 stays from 0 to 1 as an f32
abbrev zero_f : Float
zero_f = fin false 0 (pos 0)

abbrev one_f : Float
one_f = fin false 1 (pos 0)

round_zero : (s : Bool) → round binary32 s 0 1 ≡ fin s 0 (pos 0)
unfolding round
round_zero true = refl
round_zero false = refl

round_one : round binary32 false 1 1 ≡ one_f
unfolding round
round_one = refl

zero_between : (s : Bool) → T (le zero_f (fin s 0 (pos 0))) × T (le (fin s 0 (pos 0)) one_f)
unfolding le
zero_between true = (tt, tt)
zero_between false = (tt, tt)

narrowed_within : (x : Float) (n : ℕ) → Units x n → n ≤ 2 ^ 1074 → T (le zero_f (narrow x)) × T (le (narrow x) one_f)
unfolding narrow
narrowed_within nan n u h = absurd u
narrowed_within (inf s) n u h = absurd u
narrowed_within (fin true m e) n u h = subst (λ (y : Float). T (le zero_f y) × T (le y one_f)) (sym (nothing ∙ round_zero true)) (zero_between true)
  where
    nothing : round binary32 true (m * up e) (down e) ≡ round binary32 true 0 1
    nothing = round_same binary32 true (m * up e) (down e) 0 1 (down_pos e) (lit< tt) (ap (λ (x : ℕ). x * up e * 1) u.0 ∙ ap (λ (x : ℕ). x * 1) (zero-mul (up e)) ∙ sym (zero-mul (down e)))
narrowed_within (fin false m e) n u h = (
  subst (λ (y : Float). T (le y (round binary32 false (m * up e) (down e)))) (round_zero false) (round_mono binary32 0 1 (m * up e) (down e) (lit< tt) (down_pos e) (le_trans (le_of_eq (zero-mul (down e))) zero-le)),
  subst (λ (y : Float). T (le (round binary32 false (m * up e) (down e)) y)) round_one (round_mono binary32 (m * up e) (down e) 1 1 (down_pos e) (lit< tt) (cross n (2 ^ 1074) (down e) 1 (m * up e) 1 u refl h)),
)

-- ---- the law, for 2 ^ l branches: 8 at 4 samples per pulse
pub branch_within : (sps l : ℕ) → branches sps ≡ 2 ^ l → 2 ^ l ≤ 2 ^ 20 → (p : Float) → T (fits binary64 p) → T (le zero_f p) → T (lt p one_f)
    → (branch_of sps p < branches sps) × (branch_of sps p ≡ to_unsigned 64 (scaled sps p)) × T (le zero_f (tau_of sps p)) × T (le (tau_of sps p) one_f)
unfolding tau_of
branch_within sps l B few p F lo hi =
    let u = units_of p F lo (lt_finite p 1 (pos 0) hi) in
    let L = (lt_units p 1 (pos 0) u.0 (2 ^ 1074) u.1 refl).0 hi in
    let t = narrowed_within (sub binary64 (scaled sps p) (of_int binary64 (pos (branch_of sps p)))) (W sps l B few p u.0 F u.1 L % 2 ^ 1074) (rest_units sps l B few p u.0 F u.1 L) (le_of_lt (rest_lt sps l B few p u.0 F u.1 L)) in
    (lt_of_le_of_lt (le_of_eq (branch_is sps l B few p u.0 F u.1 L)) (lt_of_lt_of_le (whole_lt sps l B few p u.0 F u.1 L) (le_of_eq (sym B))), branch_is sps l B few p u.0 F u.1 L ∙ sym (whole_is sps l B few p u.0 F u.1 L), t.0, t.1)

-- at both settings
pub branch_in_bank : (s : SamplesPerPulse) (p : Float) → T (fits binary64 p) → T (le zero_f p) → T (lt p one_f)
    → (branch_of (per_pulse s) p < branches (per_pulse s)) × (branch_of (per_pulse s) p ≡ to_unsigned 64 (scaled (per_pulse s) p)) × T (le zero_f (tau_of (per_pulse s) p)) × T (le (tau_of (per_pulse s) p) one_f)
branch_in_bank s = branch_within (per_pulse s) (branch_bits s) (branches_are s) (few_branches s)
