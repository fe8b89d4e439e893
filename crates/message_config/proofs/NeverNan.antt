-- No NaN: of a message in range, every number that follows from its configuration is finite, but for the unrounded start at an infinite time, which is infinite (`draw-numbers`). A reply's time, clock phase and first phase are finite too, and its carrier rotates by at most PI in a sample, from a phase from -PI to PI (`reply-numbers`).
use Rattle.std.proofs.Common.{◌≡◌, ℕ, ◌+◌, ◌-◌, ◌*◌, ◌^◌, ◌<◌, ◌≤◌, Bool, true, false, not, T, ℤ, pos, sym, refl, subst, inl, inr, le_trans, le_of_eq, le_refl, lt_of_le_of_lt, le_of_lt, mul-le-mul_right, mul-le-mul, mul-le-mul_left, mul-pos, arith, lit<, lit≤, pow_pos}
use lib.Ieee.{Float, nan, inf, fin, binary64, size, unlike, neg, add, sub, mul, div, le, is_nan, of_int}
use lib.Ieee.Fits.{sub-fits}
use lib.Ieee.Scale.{overflow, finite}
use Rattle.constants.specs.declared.SamplesPerPulse.{SamplesPerPulse}
use Rattle.constants.specs.declared.SamplesPerPulse.TheVariants.{Four, Eight}
use Rattle.constants.specs.Setting.{per_pulse}
use Rattle.constants.specs.Rate.{sample_rate}
use Rattle.constants.proofs.Settings.{rate_pos, rate_three, rate_few}
use Rattle.float_rounding.proofs.Units.{G, G-mono, G-le, Units}
use Rattle.float_rounding.proofs.More.{of_int_lem, sub_is}
use Rattle.float_rounding.proofs.Val.{Val, mul_val, div_val}
use Rattle.floats.specs.Ceil.{ceil_signed, upward}
use Rattle.math.specs.Phase.{pi, two_pi}
use Rattle.float_rounding.proofs.Size as Size
use Rattle.float_rounding.proofs.Size.{Within, units_within, within_neg, sum_within, le_or_lt}
use Rattle.math.proofs.Constants.{pi_units, two_pi_units, pi_val, two_pi_val}
use Rattle.math.proofs.InRange.{Between, tests_of_within, wrapped_in_range}
use Rattle.distributions.specs.Accepted.{offset_limit}
use Rattle.message_config.specs.declared.Delays.{Delays}
use Rattle.message_config.specs.declared.MessageConfig.{MessageConfig}
use Rattle.message_config.specs.Timing.{one, delay_of, unrounded_start, start_of, filter_clock_error, clock_phase}
use Rattle.message_config.specs.Carrier.{carrier_rate, first_phase}
use Rattle.message_config.specs.Config.{config_delay, config_start, config_clock_error, config_clock_phase, config_rate, config_phase}
use Rattle.message_config.proofs.InRange.{TimeInRange, DelaysInRange, ErrorInRange, MessageInRange, delay_of_lem, tenth_units, within_tenth, filter_fits, offset_units, offset_val, whole_val, within_units}
use Rattle.message_config.proofs.Starts.{Counted, counted, finite_reply, clocked_delay, held_some, held_few, without_half, reply_start, later, sooner}
use Rattle.message_config.proofs.HoldBack.{below_53}
use Rattle.message_config.proofs.FirstClock.{phase_units}

-- every draw in range, whatever its time and start
pub record DrawNumbers (sps : ℕ) (delays : Delays) (c : MessageConfig) : Type 0 where
  pub delay : T (finite (config_delay delays c))
  pub unrounded : T (not (is_nan (unrounded_start c.time (config_delay delays c) c.error)))
  pub unrounded_finite : T (finite c.time) → T (finite (unrounded_start c.time (config_delay delays c) c.error))
  pub clock_error_lem : T (finite (config_clock_error c))
  pub rate : Between pi (config_rate sps c)

-- and a reply
pub record ReplyNumbers (sps : ℕ) (delays : Delays) (c : MessageConfig) : Type 0 where
  pub time : T (finite c.time)
  pub clock_phase_lem : T (finite (config_clock_phase delays c))
  pub first_phase_lem : Between pi (config_phase sps delays c)

-- ---- finite by units
units_finite : (x : Float) (n : ℕ) → Units x n → T (finite x)
units_finite x n u = Size.within_finite x n (units_within x n n u (le_refl n))

val_finite : (x : Float) (s : Bool) (n : ℕ) → Val x s n → T (finite x)
val_finite x s n v = Size.within_finite x n (s, n, v, le_refl n)

finite_number : (x : Float) → T (finite x) → T (not (is_nan x))
unfolding is_nan
finite_number nan f = f
finite_number (inf s) f = tt
finite_number (fin s m e) f = tt

-- ---- the unrounded start
difference_finite : (t d : Float) (k H : ℕ) → TimeInRange t → T (finite t) → Units d k → H ≤ 2 ^ 40 → k ≤ H * 2 ^ 1074 → T (finite (sub binary64 t d))
difference_finite t d k H A f D few K =
    let C = counted t A f in
    elim (le_or_lt k C.count) [
      | inl h ↦ units_finite (sub binary64 t d) (G (C.count - k) (2 ^ 1074)) (later t d C k D h)
      | inr l ↦ val_finite (sub binary64 t d) true (G (k - C.count) (2 ^ 1074)) (sooner t d C k D H few K l)
    ]

difference_number : (t d : Float) (k : ℕ) → TimeInRange t → Units d k → (T (finite t) → T (finite (sub binary64 t d))) → T (not (is_nan (sub binary64 t d)))
unfolding le sub add is_nan
difference_number nan d k A D f = absurd A.low
difference_number (inf true) d k A D f = absurd A.low
difference_number (inf false) nan k A D f = absurd D
difference_number (inf false) (inf s) k A D f = absurd D
difference_number (inf false) (fin s m e) k A D f = tt
difference_number (fin s m e) d k A D f = finite_number (sub binary64 (fin s m e) d) (f tt)

-- ---- the carrier's rate. 2 PI times the largest offset, rounded, is no more than PI times the samples a second; it is a little less, and the rate is PI once rounded
most_turned : SamplesPerPulse → ℕ
most_turned Four = 6746518852261009 * 2 ^ 1046
most_turned Eight = 6746518852261009 * 2 ^ 1047

turned : (s : SamplesPerPulse) → G (two_pi_units * offset_units (per_pulse s)) (2 ^ 1074 * 2 ^ 1074) ≤ most_turned s
unfolding size most_turned
turned Four = le_of_eq refl
turned Eight = le_of_eq refl

under : (s : SamplesPerPulse) → most_turned s < overflow binary64
unfolding most_turned
under Four = lit< tt
under Eight = lit< tt

turn_room : (s : SamplesPerPulse) → most_turned s * 2 ^ 1074 ≤ pi_units * (sample_rate (per_pulse s) * 2 ^ 1074)
unfolding most_turned
turn_room Four = lit≤ tt
turn_room Eight = lit≤ tt

module _ (rate : SamplesPerPulse) where
  abbrev sps : ℕ
  sps = per_pulse rate

  rate_within : (offset : Float) → Within offset (offset_units sps) → Within (carrier_rate sps offset) pi_units
  unfolding carrier_rate
  rate_within offset w =
      let b = 2 ^ 1074 * 2 ^ 1074 in
      let k = sample_rate sps * 2 ^ 1074 in
      let turn = G (two_pi_units * w.1) b in
      let P : 0 < k = mul-pos (second sps (rate_pos rate)) (pow_pos 1074) in
      let most : turn ≤ most_turned rate = le_trans (G-mono (two_pi_units * w.1) b (two_pi_units * offset_units sps) b (pow_pos 2148) (pow_pos 2148) (mul-le-mul_right b (mul-le-mul_left two_pi_units w.3))) (turned rate) in
      let t = mul_val two_pi offset false w.0 two_pi_units w.1 two_pi_val w.2 (lt_of_le_of_lt most (under rate)) in
      let m : G turn k ≤ pi_units = G-le turn k 884279719003555 1026 P (lit< tt) (le_trans (mul-le-mul_right (2 ^ 1074) most) (turn_room rate)) in
      (unlike (unlike false w.0) false, G turn k, div_val (mul binary64 two_pi offset) (of_int binary64 (pos (sample_rate sps))) (unlike false w.0) false turn k t (whole_val (sample_rate sps) (whole sps (rate_few rate))) P (lt_of_le_of_lt m (lit< {m = pi_units} {n = overflow binary64} tt)), m)
    where
      second : (s : ℕ) → 0 < s → 0 < 2000000 * s
      second s h = omega arith

      whole : (s : ℕ) → s ≤ 2 ^ 30 → 2000000 * s ≤ 2 ^ 53
      whole s h = omega arith

  carrier_within : (c : MessageConfig) → MessageInRange sps c → Within (carrier_rate sps c.offset) pi_units
  carrier_within c r = rate_within c.offset (within_units c.offset (offset_limit sps) (offset_units sps) (offset_val sps (rate_few rate)) r.offset_fit r.offset)

-- ---- the first phase: what is wrapped is finite
less_within : (x y : Float) (b c q j : ℕ) → q < 2 ^ 53 → q * 2 ^ j < overflow binary64 → Within x b → Within y c → b + c ≤ q * 2 ^ j → Within (sub binary64 x y) (q * 2 ^ j)
less_within x y b c q j Q O X Y h = subst (λ (z : Float). Within z (q * 2 ^ j)) (sym (sub_is x y)) (sum_within x (neg y) b c q j Q O X (within_neg y c Y) h)

turned_within : (x r : Float) → Within x (1 * 2 ^ 1128) → Within r pi_units → Within (mul binary64 x r) (1 * 2 ^ 1130)
turned_within x r X R =
    let a = X.1 * R.1 in
    let b = 2 ^ 1074 * 2 ^ 1074 in
    let m : G a b ≤ 1 * 2 ^ 1130 = G-le a b 1 1130 (pow_pos 2148) (lit< tt) (le_trans (mul-le-mul_right (2 ^ 1074) (mul-le-mul X.3 R.3)) (lit≤ {m = 1 * 2 ^ 1128 * pi_units * 2 ^ 1074} {n = 1 * 2 ^ 1130 * (2 ^ 1074 * 2 ^ 1074)} tt)) in
    (unlike X.0 R.0, G a b, mul_val x r X.0 R.0 X.1 R.1 X.2 R.2 (lt_of_le_of_lt m (lit< {m = 1 * 2 ^ 1130} {n = overflow binary64} tt)), m)

phase_between : (phase t r : Float) (s : ℕ) → Within phase pi_units → Within t (2 ^ 53 * 2 ^ 1074) → Within r pi_units → s < 2 ^ 52 → Between pi (first_phase phase t (pos s) r)
unfolding first_phase
phase_between phase t r s P A R small =
    let first = of_int binary64 (pos s) in
    let d = less_within t first (2 ^ 53 * 2 ^ 1074) (2 ^ 53 * 2 ^ 1074) 1 1128 (lit< tt) (lit< {m = 1 * 2 ^ 1128} {n = overflow binary64} tt) A (units_within first (s * 2 ^ 1074) (2 ^ 53 * 2 ^ 1074) (of_int_lem s (room s small)) (mul-le-mul_right (2 ^ 1074) (room s small))) (lit≤ {m = 2 ^ 53 * 2 ^ 1074 + 2 ^ 53 * 2 ^ 1074} {n = 1 * 2 ^ 1128} tt) in
    let p = mul binary64 (sub binary64 t first) r in
    let w = less_within phase p pi_units (1 * 2 ^ 1130) 1 1131 (lit< tt) (lit< {m = 1 * 2 ^ 1131} {n = overflow binary64} tt) P (turned_within (sub binary64 t first) r d R) (lit≤ {m = pi_units + 1 * 2 ^ 1130} {n = 1 * 2 ^ 1131} tt) in
    wrapped_in_range (sub binary64 phase p) (sub-fits binary64 phase p) (Size.within_finite (sub binary64 phase p) (1 * 2 ^ 1131) w)
  where
    room : (s : ℕ) → s < 2 ^ 52 → s ≤ 2 ^ 53
    room s h = omega arith

-- a reply's time is below 2 ^ 53
reply_time : (t d : Float) (C : Counted t) (k H s : ℕ) → Units d k → 1 ≤ H → H ≤ 2 ^ 40 → k + 2 ^ 1073 ≤ H * 2 ^ 1074 → ceil_signed 63 (sub binary64 t d) ≡ pos s → s < 2 ^ 52 → Within t (2 ^ 53 * 2 ^ 1074)
reply_time t d C k H s D some few K e small = elim (le_or_lt k C.count) [
  | inl h ↦
      let g = upward (G (C.count - k) (2 ^ 1074)) (2 ^ 1074) in
      let below : g < 2 ^ 52 = lt_of_le_of_lt (le_of_eq (reply_start (sub binary64 t d) (G (C.count - k) (2 ^ 1074)) s (later t d C k D h) e small)) small in
      units_within t C.count (2 ^ 53 * 2 ^ 1074) C.is (le_of_lt (below_53 H some few C.count k K below))
  | inr l ↦ units_within t C.count (2 ^ 53 * 2 ^ 1074) C.is (le_trans (shorter C.count k (2 ^ 1073) (H * 2 ^ 1074) K l) (mul-le-mul_right (2 ^ 1074) (less H few)))
]
  where
    shorter : (n k h Y : ℕ) → k + h ≤ Y → n < k → n ≤ Y
    shorter n k h Y p l = omega arith

    less : (H : ℕ) → H ≤ 2 ^ 40 → H ≤ 2 ^ 53
    less H h = omega arith

-- ---- the theorems
clock_error_finite : (c : MessageConfig) → ErrorInRange c.reply.kind c.error → T (finite (config_clock_error c))
unfolding config_clock_error
clock_error_finite c E =
    let f = filter_clock_error c.reply.kind c.error in
    Size.within_finite f tenth_units (within_tenth f (filter_fits c.reply.kind c.error E.fit) E.filter_small)

module _ (rate : SamplesPerPulse) (delays : Delays) (R : DelaysInRange (per_pulse rate) delays) (c : MessageConfig) (r : MessageInRange (per_pulse rate) c) where
  pub draw_numbers : DrawNumbers (per_pulse rate) delays c
  unfolding unrounded_start config_rate
  draw_numbers =
      let kind = c.reply.kind in
      let g = delay_of_lem (per_pulse rate) delays R kind in
      let d = div binary64 (delay_of delays kind) (add binary64 one c.error) in
      let q = clocked_delay (per_pulse rate) (rate_three rate) (rate_few rate) (delay_of delays kind) c.error g (within_tenth c.error r.error.fit r.error.small) in
      let ends : T (finite c.time) → T (finite (sub binary64 c.time d)) = λ f. difference_finite c.time d q.0 (8 * per_pulse rate) r.time f q.1 (held_few (per_pulse rate) (rate_few rate)) (without_half q.0 (2 ^ 1073) (8 * per_pulse rate * 2 ^ 1074) q.2) in
      record {
        delay = units_finite (delay_of delays kind) g.count g.is;
        unrounded = difference_number c.time d q.0 r.time q.1 ends;
        unrounded_finite = ends;
        clock_error_lem = clock_error_finite c r.error;
        rate = tests_of_within (carrier_rate (per_pulse rate) c.offset) pi pi_units pi_val (carrier_within rate c r);
      }

  pub reply_numbers : (s : ℕ) → config_start delays c ≡ pos s → s < 2 ^ 52 → ReplyNumbers (per_pulse rate) delays c
  unfolding config_start start_of unrounded_start config_clock_phase config_clock_error config_phase config_rate
  reply_numbers s h small =
      let kind = c.reply.kind in
      let d = div binary64 (delay_of delays kind) (add binary64 one c.error) in
      let q = clocked_delay (per_pulse rate) (rate_three rate) (rate_few rate) (delay_of delays kind) c.error (delay_of_lem (per_pulse rate) delays R kind) (within_tenth c.error r.error.fit r.error.small) in
      let f = finite_reply c.time d q.0 s r.time q.1 h small in
      let p = phase_units (per_pulse rate) (rate_three rate) (rate_few rate) delays R c.time c.error kind s r.time r.error h small in
      record {
        time = f;
        clock_phase_lem = units_finite (clock_phase c.time (delay_of delays kind) c.error (filter_clock_error kind c.error)) p.0 p.1;
        first_phase_lem =
            subst (λ (z : ℤ). Between pi (first_phase c.phase c.time z (carrier_rate (per_pulse rate) c.offset))) (sym h)
            (phase_between c.phase c.time (carrier_rate (per_pulse rate) c.offset) s r.phase (reply_time c.time d (counted c.time r.time f) q.0 (8 * per_pulse rate) s q.1 (held_some (per_pulse rate) (rate_three rate)) (held_few (per_pulse rate) (rate_few rate)) q.2 h small) (carrier_within rate c r) small);
      }
