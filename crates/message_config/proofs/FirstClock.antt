-- First clock: of a reply in range, the clock's phase at the first sample is from 0 to 1.1 samples and the filter's clock error within 0.1 (`first-clock`), which is what the theorems about the filterbank's count ask: it has at most 1,094 samples at 4 samples per pulse, and 2,187 at 8 (`count-at-most`).
-- The first sample lies less than one sample past the unrounded start, or one whole sample once rounded.
use Rattle.std.proofs.Common.{◌≡◌, ℕ, ◌+◌, ◌-◌, ◌*◌, ◌^◌, ◌<◌, ◌≤◌, true, false, T, ℤ, pos, negsuc, sym, refl, ap, ◌∙◌, subst, inl, inr, le_trans, le_of_eq, lt_of_le_of_lt, mul-le-mul_right, mul-le-mul, one-mul, zero-mul, arith, lit<, lit≤, pow_pos}
use lib.Ieee.{Float, fin, binary64, neg, add, sub, mul, div, le, fits, of_int}
use lib.Ieee.Fits.{mul-fits}
use lib.Ieee.Scale.{overflow}
use Rattle.constants.specs.declared.SamplesPerPulse.{SamplesPerPulse}
use Rattle.constants.specs.Setting.{per_pulse}
use Rattle.constants.specs.Rate.{longest_pulses, reply_limit}
use Rattle.constants.proofs.Settings.{rate_three, rate_few}
use Rattle.float_rounding.proofs.Units.{G, G-le, Units, add_units}
use Rattle.float_rounding.proofs.More.{sub_all, mul_all, of_int_lem, nonneg, sub_is}
use Rattle.float_rounding.proofs.Val.{val_units, neg_val}
use Rattle.floats.specs.Ceil.{ceil_signed, upward}
use Rattle.float_rounding.proofs.Size.{Within, units_within, le_or_lt}
use Rattle.math.proofs.InRange.{tests_of_within}
use Rattle.message.specs.declared.ReplyKind.{ReplyKind}
use Rattle.message_config.specs.declared.Delays.{Delays}
use Rattle.message_config.specs.declared.MessageConfig.{MessageConfig}
use Rattle.message_config.specs.Timing.{one, delay_of, unrounded_start, start_of, filter_clock_error, clock_phase}
use Rattle.message_config.specs.Config.{config_start, config_clock_error, config_clock_phase}
use Rattle.filterbank.specs.Apply.{sample_count}
use Rattle.filterbank.proofs.ClockSteps.{tenth}
use Rattle.filterbank.proofs.EndsByItself.{InRange, ends_within, most_pulses}
use Rattle.message_config.proofs.InRange.{TimeInRange, DelaysInRange, ErrorInRange, delay_of_lem, tenth_units, within_tenth, filter_fits}
use Rattle.message_config.proofs.Starts.{Counted, counted, finite_reply, one_plus, eleven_tenths, clocked_delay, le_upward, upward_lt, reply_start, start_negative, held_few, without_half, later, sooner}

-- 1.1, the bits 0x3ff1_9999_9999_999a
abbrev pub eleven_tenths_f : Float
eleven_tenths_f = fin false 2476979795053773 (negsuc 50)

-- ---- the first sample less the unrounded start: from 0 to 1
abbrev pub ToOne : Float → Type 0
ToOne x = (g : ℕ) × Units x g × (g ≤ 1 * 2 ^ 1074)

pub to_one : (x : Float) (a : ℕ) → a ≤ 2 ^ 1074 → (G a (2 ^ 1074) < overflow binary64 → Units x (G a (2 ^ 1074))) → ToOne x
to_one x a h u =
    let m : G a (2 ^ 1074) ≤ 1 * 2 ^ 1074 = G-le a (2 ^ 1074) 1 1074 (pow_pos 1074) (lit< tt) (mul-le-mul_right (2 ^ 1074) (le_trans h (le_of_eq (sym (one-mul (2 ^ 1074)))))) in
    (G a (2 ^ 1074), u (lt_of_le_of_lt m (lit< {m = 1 * 2 ^ 1074} {n = overflow binary64} tt)), m)

past_start : (t d : Float) (C : Counted t) (k H s : ℕ) → Units d k → H ≤ 2 ^ 40 → k ≤ H * 2 ^ 1074 → ceil_signed 63 (sub binary64 t d) ≡ pos s → s < 2 ^ 52 → ToOne (sub binary64 (of_int binary64 (pos s)) (sub binary64 t d))
past_start t d C k H s D few K e S = elim (le_or_lt k C.count) [
  | inl h ↦
      let g = G (C.count - k) (2 ^ 1074) in
      let u = later t d C k D h in
      let same : upward g (2 ^ 1074) ≡ s = reply_start x g s u e S in
      to_one (sub binary64 first x) (s * 2 ^ 1074 - g) (gap (s * 2 ^ 1074) g (2 ^ 1074) (subst (λ (z : ℕ). z * 2 ^ 1074 < g + 2 ^ 1074) same (upward_lt g (2 ^ 1074) (pow_pos 1074))))
      (sub_all first x (s * 2 ^ 1074) g (of_int_lem s (room s S)) u (subst (λ (z : ℕ). g ≤ z * 2 ^ 1074) same (le_upward g (2 ^ 1074) (pow_pos 1074))))
  | inr l ↦
      let g = G (k - C.count) (2 ^ 1074) in
      let v = sooner t d C k D H few K l in
      let z = start_negative x g s v e in
      let none : s * 2 ^ 1074 ≡ 0 = ap (λ (n : ℕ). n * 2 ^ 1074) z.0 ∙ zero-mul (2 ^ 1074) in
      subst ToOne (sym (sub_is first x))
      (to_one (add binary64 first (neg x)) (s * 2 ^ 1074 + g) (sum (s * 2 ^ 1074) g (2 ^ 1074) none z.1)
      (add_units first (neg x) (s * 2 ^ 1074) g (of_int_lem s (room s S)) (val_units (neg x) g (neg_val x true g v))))
]
  where
    first : Float
    first = of_int binary64 (pos s)

    x : Float
    x = sub binary64 t d

    room : (s : ℕ) → s < 2 ^ 52 → s ≤ 2 ^ 53
    room s h = omega arith

    gap : (a g u : ℕ) → a < g + u → a - g ≤ u
    gap a g u h = omega arith

    sum : (a g u : ℕ) → a ≡ 0 → g < u → a + g ≤ u
    sum a g u e h = omega arith

-- ---- times 1 + the filter's clock error
pub phase_is : (t d e f : Float) (z : ℤ) → start_of t d e ≡ z → clock_phase t d e f ≡ mul binary64 (sub binary64 (of_int binary64 z) (unrounded_start t d e)) (add binary64 one f)
unfolding clock_phase
phase_is t d e f z h = ap (λ (y : ℤ). mul binary64 (sub binary64 (of_int binary64 y) (unrounded_start t d e)) (add binary64 one f)) h

pub product : (x f : Float) → ToOne x → Within f tenth_units → (p : ℕ) × Units (mul binary64 x (add binary64 one f)) p × (p ≤ eleven_tenths)
product x f o w =
    let c = one_plus f w in
    let a = o.0 * c.0 in
    let b = 2 ^ 1074 * 2 ^ 1074 in
    let m : G a b ≤ eleven_tenths = G-le a b 2476979795053773 1023 (pow_pos 2148) (lit< tt) (mul-le-mul_right (2 ^ 1074) (mul-le-mul o.2 c.3)) in
    (G a b, mul_all x (add binary64 one f) o.0 c.0 o.1 c.1 (lt_of_le_of_lt m (lit< {m = eleven_tenths} {n = overflow binary64} tt)), m)

-- ---- the phase, at any rate
module _ (sps : ℕ) (S : 3 ≤ sps) (M : sps ≤ 2 ^ 30) (delays : Delays) (R : DelaysInRange sps delays) where
  pub phase_units : (t e : Float) (kind : ReplyKind) (s : ℕ) → TimeInRange t → ErrorInRange kind e → start_of t (delay_of delays kind) e ≡ pos s → s < 2 ^ 52
      → (p : ℕ) × Units (clock_phase t (delay_of delays kind) e (filter_clock_error kind e)) p × (p ≤ eleven_tenths)
  unfolding start_of unrounded_start
  phase_units t e kind s A E h small =
      let d = div binary64 (delay_of delays kind) (add binary64 one e) in
      let q = clocked_delay sps S M (delay_of delays kind) e (delay_of_lem sps delays R kind) (within_tenth e E.fit E.small) in
      let C = counted t A (finite_reply t d q.0 s A q.1 h small) in
      let f = filter_clock_error kind e in
      subst (λ (x : Float). (p : ℕ) × Units x p × (p ≤ eleven_tenths)) (sym (phase_is t (delay_of delays kind) e f (pos s) h))
      (product (sub binary64 (of_int binary64 (pos s)) (sub binary64 t d)) f
      (past_start t d C q.0 (8 * sps) s q.1 (held_few sps M) (without_half q.0 (2 ^ 1073) (8 * sps * 2 ^ 1074) q.2) h small)
      (within_tenth f (filter_fits kind e E.fit) E.filter_small))

at_most : (x : Float) (p : ℕ) → Units x p → p ≤ eleven_tenths → T (le x eleven_tenths_f) × T (le x (fin false 1 (pos 1)))
at_most x p u m = (
  (tests_of_within x eleven_tenths_f eleven_tenths (refl, refl) (units_within x p eleven_tenths u m)).1,
  (tests_of_within x (fin false 1 (pos 1)) (2 * 2 ^ 1074) (refl, refl) (units_within x p (2 * 2 ^ 1074) u (le_trans m (lit≤ {m = eleven_tenths} {n = 2 * 2 ^ 1074} tt)))).1,
)

-- a clock error within 0.1, by the two comparisons
error_tests : (f : Float) → Within f tenth_units → T (le (fin true 3602879701896397 (negsuc 54)) f) × T (le f tenth)
unfolding neg
error_tests f w = tests_of_within f tenth tenth_units (refl, refl) w

phase_fits : (t d e f : Float) → T (fits binary64 (clock_phase t d e f))
unfolding clock_phase
phase_fits t d e f = mul-fits binary64 (sub binary64 (of_int binary64 (start_of t d e)) (unrounded_start t d e)) (add binary64 one f)

-- ---- the theorem, at both settings
module _ (rate : SamplesPerPulse) (delays : Delays) (R : DelaysInRange (per_pulse rate) delays) where
  pub first_clock : (t e : Float) (kind : ReplyKind) (s : ℕ) → TimeInRange t → ErrorInRange kind e → start_of t (delay_of delays kind) e ≡ pos s → s < 2 ^ 52
      → InRange (clock_phase t (delay_of delays kind) e (filter_clock_error kind e)) (filter_clock_error kind e) × T (le (clock_phase t (delay_of delays kind) e (filter_clock_error kind e)) eleven_tenths_f)
  first_clock t e kind s A E h small =
      let f = filter_clock_error kind e in
      let x = clock_phase t (delay_of delays kind) e f in
      let p = phase_units (per_pulse rate) (rate_three rate) (rate_few rate) delays R t e kind s A E h small in
      let b = at_most x p.0 p.1 p.2 in
      let c = error_tests f (within_tenth f (filter_fits kind e E.fit) E.filter_small) in
      (record { held = phase_fits t (delay_of delays kind) e f; low = nonneg x p.0 p.1; high = b.1; slowest = c.0; fastest = c.1 }, b.0)

  -- of a message
  pub first_clock_of : (c : MessageConfig) (s : ℕ) → TimeInRange c.time → ErrorInRange c.reply.kind c.error → config_start delays c ≡ pos s → s < 2 ^ 52 → InRange (config_clock_phase delays c) (config_clock_error c)
  unfolding config_start config_clock_phase config_clock_error
  first_clock_of c s A E h small = (first_clock c.time c.error c.reply.kind s A E h small).0

  -- so a reply of at most 240 pulses has at most `reply_limit` samples
  pub count_at_most : (n : ℕ) → n ≤ longest_pulses → (c : MessageConfig) (s : ℕ) → TimeInRange c.time → ErrorInRange c.reply.kind c.error → config_start delays c ≡ pos s → s < 2 ^ 52 → sample_count (per_pulse rate) n (config_clock_phase delays c) (config_clock_error c) ≤ reply_limit (per_pulse rate)
  count_at_most n h c s A E e small = ends_within rate n (reply_limit (per_pulse rate)) (most_pulses rate n h) (config_clock_phase delays c) (config_clock_error c) (first_clock_of c s A E e small)
