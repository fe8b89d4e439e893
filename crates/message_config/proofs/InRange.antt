-- What the theorems of this crate take as in range: a draw's time and clock error, and the filters' delays. Each is what the checks of SPECIFICATION 3.1, or the theorem about group delays, gives.
use Rattle.std.proofs.Common.{ℕ, ◌*◌, ◌/◌, ◌^◌, ◌≤◌, Bool, true, false, T, pos, sym, refl, ap, ◌∙◌, true≢false, zero-le, le_trans, le_of_eq, zero-mul, mul-one, mul_right_comm, arith}
use lib.Ieee.{Float, nan, inf, fin, binary64, up, down, of_bits, le, fits, mul, add, of_int}
use lib.Ieee.Fits.{sub-fits}
use lib.Ieee.Exact.{HasValue}
use lib.Ieee.Scale.{finite}
use Rattle.constants.specs.Rate.{taps_per_branch, largest_offset}
use Rattle.float_rounding.proofs.Order.{Signed, fin_le}
use Rattle.float_rounding.proofs.Units.{Units}
use Rattle.float_rounding.proofs.Val.{Val}
use Rattle.floats.specs.Range.{within}
use Rattle.floats.proofs.Exact.{whole_value}
use Rattle.floats.proofs.Ranges.{within_finite, within_val}
use Rattle.float_rounding.proofs.Size.{Within, number}
use Rattle.math.proofs.Constants.{pi_units}
use Rattle.distributions.specs.Accepted.{tenth, offset_limit}
use Rattle.message.specs.declared.ReplyKind.{ReplyKind}
use Rattle.message.specs.declared.ReplyKind.TheVariants.{Short, Long, ModeAc}
use Rattle.message_config.specs.declared.Delays.{Delays}
use Rattle.message_config.specs.declared.MessageConfig.{MessageConfig}
use Rattle.message_config.specs.Timing.{delay_of, filter_clock_error}
use Rattle.pulse_shape.specs.GroupDelay.{mode_ac_ratio}

-- 0.0
abbrev pub zero_f : Float
zero_f = fin false 0 (pos 0)

-- ---- a time is from 0.0 to infinity
pub record TimeInRange (t : Float) : Type 0 where
  pub fit : T (fits binary64 t)
  pub low : T (le zero_f t)

-- so is every time with no minus sign that is no NaN
pub signed_in_range : (t : Float) → T (fits binary64 t) → Signed t false → TimeInRange t
signed_in_range t F s = record { fit = F; low = not_below t s }
  where
    not_below : (t : Float) → Signed t false → T (le zero_f t)
    not_below nan s = absurd s
    not_below (inf false) s = unfold le in tt
    not_below (inf true) s = absurd (true≢false s)
    not_below (fin false m e) s = fin_le false 0 (pos 0) false m e (le_trans (le_of_eq (zero-mul (down e))) zero-le)
    not_below (fin true m e) s = absurd (true≢false s)

-- ---- a delay is from 0 to 7 * sps samples, 28 at 4 samples per pulse, said in units of 2 ^ -1074
pub record DelayInRange (sps : ℕ) (d : Float) : Type 0 where
  pub count : ℕ
  pub is : Units d count
  pub most : count ≤ taps_per_branch * sps * 2 ^ 1074

pub record DelaysInRange (sps : ℕ) (delays : Delays) : Type 0 where
  pub mode_s_lem : DelayInRange sps delays.mode_s
  pub mode_ac_lem : DelayInRange sps delays.mode_ac

pub delay_of_lem : (sps : ℕ) (delays : Delays) → DelaysInRange sps delays → (kind : ReplyKind) → DelayInRange sps (delay_of delays kind)
unfolding delay_of
delay_of_lem sps delays r Short = r.mode_s_lem
delay_of_lem sps delays r Long = r.mode_s_lem
delay_of_lem sps delays r ModeAc = r.mode_ac_lem

-- ---- a clock error is within 0.1 in size, and so is the filter's; for Mode S they are one
pub record ErrorInRange (kind : ReplyKind) (e : Float) : Type 0 where
  pub fit : T (fits binary64 e)
  pub small : T (within e tenth)
  pub filter_small : T (within (filter_clock_error kind e) tenth)

-- 0.1
abbrev pub tenth_units : ℕ
tenth_units = 3602879701896397 * 2 ^ 1019

pub tenth_val : Val tenth false tenth_units
unfolding tenth of_bits
tenth_val = (refl, refl)

-- a value within a finite one is finite
pub within_number : (x l : Float) (t : Bool) (k : ℕ) → Val l t k → T (within x l) → T (finite x)
within_number x nan t k w h = absurd w
within_number x (inf u) t k w h = absurd w
within_number x (fin u m e) t k w h = within_finite x u m e h

pub within_units : (x l : Float) (k : ℕ) → Val l false k → T (fits binary64 x) → T (within x l) → Within x k
within_units x l k v F t = let N = number x F (within_number x l false k v t) in (N.sign, N.count, N.is, within_val x l N.sign N.count k N.is v t)

pub within_tenth : (e : Float) → T (fits binary64 e) → T (within e tenth) → Within e tenth_units
within_tenth e F t = within_units e tenth tenth_units tenth_val F t

pub filter_fits : (kind : ReplyKind) (e : Float) → T (fits binary64 e) → T (fits binary64 (filter_clock_error kind e))
unfolding filter_clock_error
filter_fits Short e F = F
filter_fits Long e F = F
filter_fits ModeAc e F = sub-fits binary64 (mul binary64 mode_ac_ratio (add binary64 (of_int binary64 (pos 1)) e)) (of_int binary64 (pos 1))

-- ---- the largest carrier offset: 4,000,000 at 4 samples per pulse
abbrev pub offset_units : ℕ → ℕ
offset_units sps = largest_offset sps * 2 ^ 1074

pub whole_val : (n : ℕ) → n ≤ 2 ^ 53 → Val (of_int binary64 (pos n)) false (n * 2 ^ 1074)
whole_val n h = go (of_int binary64 (pos n)) (whole_value n h)
  where
    go : (x : Float) → HasValue x false n 1 → Val x false (n * 2 ^ 1074)
    go nan v = v
    go (inf s) v = v
    go (fin t m e) v = (v.0, ap (λ (x : ℕ). x * 2 ^ 1074) (sym (mul-one (m * up e)) ∙ v.1) ∙ mul_right_comm n (down e) (2 ^ 1074))

pub offset_val : (sps : ℕ) → sps ≤ 2 ^ 30 → Val (offset_limit sps) false (offset_units sps)
unfolding offset_limit
offset_val sps few = whole_val (largest_offset sps) (room sps few)
  where
    room : (s : ℕ) → s ≤ 2 ^ 30 → 2000000 * s / 2 ≤ 2 ^ 53
    room s h = omega arith

-- ---- a message is in range: its time, its clock error, its carrier's offset within 4,000,000 in size at 4 samples per pulse, and its phase from -PI to PI
pub record MessageInRange (sps : ℕ) (c : MessageConfig) : Type 0 where
  pub time : TimeInRange c.time
  pub error : ErrorInRange c.reply.kind c.error
  pub offset_fit : T (fits binary64 c.offset)
  pub offset : T (within c.offset (offset_limit sps))
  pub phase : Within c.phase pi_units
