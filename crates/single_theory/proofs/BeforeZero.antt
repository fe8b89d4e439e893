-- A reply that starts before sample 0: as of one that starts at it or later (`first_clock_of` of `message_config`), the clock's phase at its first sample is from 0 to 1.1 samples and the filter's clock error within 0.1 (`before_zero`).
use mathlib.Core.Path.{◌≡◌, refl, sym, ap, ◌∙◌, subst}
use mathlib.Core.Logic.{inl, inr}
use Prim.Native.Nat.{ℕ, zero, suc, ◌+◌, ◌-◌, ◌*◌, ◌/◌, ◌^◌, ◌≤◌, ◌<◌, min}
use native.Mathlib.Nat.{le_trans, lt_of_le_of_lt, zero-mul, mul-one, zero-div, mul-le-mul, mul-le-mul_right, mul_right_comm, sub-le, div-mul-le_self, lt-div-mul-add, div-lt_iff_lt-mul, suc-mul}
use native.Mathlib.Omega.{arith}
use mathlib.Core.Bool.{Bool, true, false, false≢true, true≢false}
use lib.IntN.{ℤ, pos, negsuc, neg_ℤ}
use lib.Dec.{T, lit<, lit≤}
use lib.Pow.{pow_pos}
use lib.Ieee.{Float, nan, inf, fin, binary64, up, down, round, neg, add, sub, mul, div, le, fits, of_int}
use lib.Ieee.Back.{round_whole}
use lib.Ieee.Exact.{HasValue}
use lib.Ieee.Fits.{mul-fits, down_pos}
use lib.Ieee.Nearest.{div_same}
use lib.Ieee.Scale.{finite}
use Rattle.constants.specs.declared.SamplesPerPulse.{SamplesPerPulse}
use Rattle.constants.specs.Setting.{per_pulse}
use Rattle.constants.proofs.Settings.{rate_three, rate_few}
use Rattle.float_rounding.proofs.Units.{G, G-le, Units}
use Rattle.float_rounding.proofs.More.{sub_all, nonneg, sub_is}
use Rattle.float_rounding.proofs.Val.{Val, val_units, neg_val}
use Rattle.float_rounding.proofs.Size.{Within, units_within, le_or_lt}
use Rattle.floats.specs.Ceil.{ceil_signed}
use Rattle.math.proofs.InRange.{tests_of_within}
use Rattle.message_config.specs.declared.Delays.{Delays}
use Rattle.message_config.specs.declared.MessageConfig.{MessageConfig}
use Rattle.message_config.specs.Timing.{one, delay_of, unrounded_start, start_of, filter_clock_error, clock_phase}
use Rattle.message_config.specs.Config.{config_start, config_clock_error, config_clock_phase}
use Rattle.filterbank.proofs.ClockSteps.{tenth}
use Rattle.filterbank.proofs.EndsByItself.{InRange}
use Rattle.message_config.proofs.InRange.{TimeInRange, DelaysInRange, ErrorInRange, delay_of_lem, tenth_units, within_tenth, filter_fits}
use Rattle.message_config.proofs.FirstClock.{ToOne, to_one, product, phase_is}
use Rattle.message_config.proofs.Starts.{Counted, counted, eleven_tenths, clocked_delay, held_few, without_half, later, sooner}
use Rattle.single_theory.proofs.Sums.{plus_comm}

abbrev is_pos : ℤ → Bool
is_pos (pos n) = true
is_pos (negsuc n) = false

abbrev size_of : ℤ → ℕ
size_of (pos n) = n
size_of (negsuc n) = n

-- ---- the ceiling of a value that is not negative is not, and that of a negative one
not_negative : (x : Float) (n j : ℕ) → Units x n → ceil_signed 63 x ≡ negsuc j → ⊥
unfolding ceil_signed
not_negative nan n j p e = p
not_negative (inf s) n j p e = p
not_negative (fin false m d) n j p e = true≢false (ap is_pos e)
not_negative (fin true m d) n j p e =
    true≢false (ap is_pos (sym (ap (λ (q : ℕ). neg_ℤ (pos (min (q * up d / down d) (2 ^ 63)))) p.0 ∙ ap (λ (q : ℕ). neg_ℤ (pos (min (q / down d) (2 ^ 63)))) (zero-mul (up d)) ∙ ap (λ (q : ℕ). neg_ℤ (pos (min q (2 ^ 63)))) (zero-div (down d))) ∙ e))

ceil_negative : (x : Float) (n : ℕ) → Val x true n → ceil_signed 63 x ≡ neg_ℤ (pos (min (n / 2 ^ 1074) (2 ^ 63)))
unfolding ceil_signed
ceil_negative nan n p = absurd p
ceil_negative (inf s) n p = absurd p
ceil_negative (fin false m e) n p = absurd (false≢true p.0)
ceil_negative (fin true m e) n p = ap (λ (q : ℕ). neg_ℤ (pos (min q (2 ^ 63)))) (div_same (m * up e) (down e) n (2 ^ 1074) (down_pos e) (pow_pos 1074) p.1)

size_before : (m j : ℕ) → neg_ℤ (pos m) ≡ negsuc j → m ≡ suc j
size_before zero j e = absurd (true≢false (ap is_pos e))
size_before (suc m) j e = ap suc (ap size_of e)

-- ---- an infinite time does not start a reply there
finite_before : (t d : Float) (k j : ℕ) → TimeInRange t → Units d k → ceil_signed 63 (sub binary64 t d) ≡ negsuc j → T (finite t)
unfolding le ceil_signed sub add
finite_before nan d k j r D e = absurd r.low
finite_before (inf true) d k j r D e = absurd r.low
finite_before (inf false) nan k j r D e = absurd D
finite_before (inf false) (inf u) k j r D e = absurd D
finite_before (inf false) (fin u m i) k j r D e = absurd (true≢false (ap is_pos e))
finite_before (fin u m i) d k j r D e = tt

-- ---- a negative whole number in units
before_int : (j : ℕ) → suc j ≤ 2 ^ 53 → Val (of_int binary64 (negsuc j)) true (suc j * 2 ^ 1074)
unfolding of_int
before_int j h = go (round binary64 true (suc j) 1) (round_whole binary64 true (suc j) h)
  where
    go : (x : Float) → HasValue x true (suc j) 1 → Val x true (suc j * 2 ^ 1074)
    go nan v = v
    go (inf s) v = v
    go (fin s m e) v = (v.0, ap (λ (x : ℕ). x * 2 ^ 1074) (sym (mul-one (m * up e)) ∙ v.1) ∙ mul_right_comm (suc j) (down e) (2 ^ 1074))

neg_neg : (x : Float) → neg (neg x) ≡ x
unfolding neg
neg_neg nan = refl
neg_neg (inf true) = refl
neg_neg (inf false) = refl
neg_neg (fin true m e) = refl
neg_neg (fin false m e) = refl

-- a difference of two is that of their negatives the other way round
turned : (x y : Float) → sub binary64 (neg y) (neg x) ≡ sub binary64 x y
turned x y = sub_is (neg y) (neg x) ∙ ap (λ (z : Float). add binary64 (neg y) z) (neg_neg x) ∙ plus_comm binary64 (neg y) x ∙ sym (sub_is x y)

-- ---- the first sample less the unrounded start: from 0 to 1
past_start : (t d : Float) (C : Counted t) (k H j : ℕ) → Units d k → H ≤ 2 ^ 40 → k ≤ H * 2 ^ 1074 → ceil_signed 63 (sub binary64 t d) ≡ negsuc j → ToOne (sub binary64 (of_int binary64 (negsuc j)) (sub binary64 t d))
past_start t d C k H j D few K e = elim (le_or_lt k C.count) [
  | inl h ↦ absurd (not_negative x (G (C.count - k) (2 ^ 1074)) j (later t d C k D h) e)
  | inr l ↦
      let g = G (k - C.count) (2 ^ 1074) in
      let v = sooner t d C k D H few K l in
      let most : g ≤ H * 2 ^ 1074 = G-le (k - C.count) (2 ^ 1074) H 1074 (pow_pos 1074) (room H few) (mul-le-mul_right (2 ^ 1074) (le_trans (sub-le k C.count) K)) in
      let q : min (g / 2 ^ 1074) (2 ^ 63) ≡ suc j = size_before (min (g / 2 ^ 1074) (2 ^ 63)) j (sym (ceil_negative x g v) ∙ e) in
      let is : g / 2 ^ 1074 ≡ suc j = uncut (g / 2 ^ 1074) H j few (quotient g H most) q in
      let low : suc j * 2 ^ 1074 ≤ g = subst (λ (z : ℕ). z * 2 ^ 1074 ≤ g) is (div-mul-le_self g (2 ^ 1074)) in
      let high : g < suc j * 2 ^ 1074 + 2 ^ 1074 = subst (λ (z : ℕ). g < z * 2 ^ 1074 + 2 ^ 1074) is (lt-div-mul-add {a = g} {b = 2 ^ 1074} (pow_pos 1074)) in
      subst ToOne (turned first x)
      (to_one (sub binary64 (neg x) (neg first)) (g - suc j * 2 ^ 1074) (rest g (suc j * 2 ^ 1074) (2 ^ 1074) high)
      (sub_all (neg x) (neg first) g (suc j * 2 ^ 1074) (val_units (neg x) g (neg_val x true g v)) (val_units (neg first) (suc j * 2 ^ 1074) (neg_val first true (suc j * 2 ^ 1074) (before_int j (small H j few (subst (λ (z : ℕ). z ≤ H) is (quotient g H most)))))) low))
]
  where
    x : Float
    x = sub binary64 t d

    first : Float
    first = of_int binary64 (negsuc j)

    room : (H : ℕ) → H ≤ 2 ^ 40 → H < 2 ^ 53
    room H h = omega arith

    quotient : (g H : ℕ) → g ≤ H * 2 ^ 1074 → g / 2 ^ 1074 ≤ H
    quotient g H h = below (g / 2 ^ 1074) H ((div-lt_iff_lt-mul {k = 2 ^ 1074} {x = g} {y = suc H} (pow_pos 1074)).1 (lt_of_le_of_lt h (more H (2 ^ 1074) (pow_pos 1074))))
      where
        below : (a b : ℕ) → a < suc b → a ≤ b
        below a b h = omega arith

        more : (H u : ℕ) → 0 < u → H * u < suc H * u
        more H u h = omega (arith, suc-mul H u)

    uncut : (g H j : ℕ) → H ≤ 2 ^ 40 → g ≤ H → min g (2 ^ 63) ≡ suc j → g ≡ suc j
    uncut g H j h k e = omega arith

    small : (H j : ℕ) → H ≤ 2 ^ 40 → suc j ≤ H → suc j ≤ 2 ^ 53
    small H j h k = omega arith

    rest : (g a u : ℕ) → g < a + u → g - a ≤ u
    rest g a u h = omega arith

phase_fits : (t d e f : Float) → T (fits binary64 (clock_phase t d e f))
unfolding clock_phase
phase_fits t d e f = mul-fits binary64 (sub binary64 (of_int binary64 (start_of t d e)) (unrounded_start t d e)) (add binary64 one f)

error_tests : (f : Float) → Within f tenth_units → T (le (fin true 3602879701896397 (negsuc 54)) f) × T (le f tenth)
unfolding neg
error_tests f w = tests_of_within f tenth tenth_units (refl, refl) w

module _ (rate : SamplesPerPulse) (delays : Delays) (R : DelaysInRange (per_pulse rate) delays) (c : MessageConfig) (A : TimeInRange c.time) (E : ErrorInRange c.reply.kind c.error) where
  abbrev t : Float
  t = c.time

  abbrev d : Float
  d = delay_of delays c.reply.kind

  abbrev f : Float
  f = filter_clock_error c.reply.kind c.error

  phase : (j : ℕ) → start_of t d c.error ≡ negsuc j → (p : ℕ) × Units (clock_phase t d c.error f) p × (p ≤ eleven_tenths)
  unfolding start_of unrounded_start
  phase j h =
      let w = div binary64 d (add binary64 one c.error) in
      let q = clocked_delay (per_pulse rate) (rate_three rate) (rate_few rate) d c.error (delay_of_lem (per_pulse rate) delays R c.reply.kind) (within_tenth c.error E.fit E.small) in
      let C = counted t A (finite_before t w q.0 j A q.1 h) in
      subst (λ (x : Float). (p : ℕ) × Units x p × (p ≤ eleven_tenths)) (sym (phase_is t d c.error f (negsuc j) h))
      (product (sub binary64 (of_int binary64 (negsuc j)) (sub binary64 t w)) f
      (past_start t w C q.0 (8 * per_pulse rate) j q.1 (held_few (per_pulse rate) (rate_few rate)) (without_half q.0 (2 ^ 1073) (8 * per_pulse rate * 2 ^ 1074) q.2) h)
      (within_tenth f (filter_fits c.reply.kind c.error E.fit) E.filter_small))

  pub before_zero : (j : ℕ) → config_start delays c ≡ negsuc j → InRange (config_clock_phase delays c) (config_clock_error c)
  unfolding config_start config_clock_phase config_clock_error
  before_zero j h =
      let x = clock_phase t d c.error f in
      let p = phase j h in
      let b = tests_of_within x (fin false 1 (pos 1)) (2 * 2 ^ 1074) (refl, refl) (units_within x p.0 (2 * 2 ^ 1074) p.1 (le_trans p.2 (lit≤ {m = eleven_tenths} {n = 2 * 2 ^ 1074} tt))) in
      let g = error_tests f (within_tenth f (filter_fits c.reply.kind c.error E.fit) E.filter_small) in
      record { held = phase_fits t d c.error f; low = nonneg x p.0 p.1; high = b.1; slowest = g.0; fastest = g.1 }
