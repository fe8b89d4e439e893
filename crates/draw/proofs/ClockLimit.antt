-- The clock error that a draw in range gives is at most 0.1 in size (`error-within`), and so is the filter's, for every type (`filter-within`), where the settings' clock error is in range.
use Rattle.std.specs.Prelude.{Some}
use Prim.Native.Nat.{ℕ}
use mathlib.Core.Path.{◌≡◌, sym, subst}
use mathlib.Core.Bool.{Bool, true, false}
use native.Mathlib.Omega.{arith}
use lib.Dec.{T}
use lib.Ieee.{Float, nan, inf, fin, binary64, fits, of_bits, le, lt, eq}
use lib.Ieee.Fits.{and_l, and_r}
use lib.Ieee.Bits.{of_bits-fits}
use lib.Ieee.Scale.{finite}
use Rattle.float_rounding.proofs.Order.{Le}
use Rattle.float_rounding.proofs.Val.{val_of, le_val, val_le}
use Rattle.floats.specs.Range.{abs, within}
use Rattle.distributions.specs.Accepted.{up_to, tenth}
use Rattle.distributions.specs.declared.ClockError as Clock
use Rattle.distributions.specs.Drawn.{error_of, clock_draw_fits}
use Rattle.message.specs.declared.MessageType.{MessageType}
use Rattle.message.specs.declared.MessageType.TheVariants.{
  ExtendedSquitter,
  AcquisitionSquitter,
  ShortAp,
  AllCallReply,
  LongAp,
  MilitaryExtendedSquitter,
  ModeAc,
}
use Rattle.message.specs.declared.ReplyKind.{ReplyKind}
use Rattle.message.specs.Types.{type_number, type_numbered}
use Rattle.message.specs.Making.{kind_of}
use Rattle.message.proofs.Numbers.{found_number_lem}
use Rattle.message_config.specs.Timing.{filter_clock_error}
use Rattle.settings.specs.declared.Distributions.{Distributions}
use Rattle.settings.specs.declared.MessagesPerSecond.{MessagesPerSecond}
use Rattle.settings.proofs.InRange.{ClockInRange}
use Rattle.draw.specs.declared.Draw.{Draw}
use Rattle.draw.specs.Config.{kind_drawn, error_drawn}
use Rattle.draw.proofs.InRange.{InRange}
use Rattle.draw.proofs.Message.{kind_drawn_lem}

-- ---- the order of values, from one to another by way of a third
le_chain : (s t u : Bool) (a b c : ℕ) → Le s a t b → Le t b u c → Le s a u c
le_chain false false false a b c p q = omega arith
le_chain false false true a b c p q = (omega arith, q.1)
le_chain false true false a b c p q = omega arith
le_chain false true true a b c p q = (p.0, omega arith)
le_chain true t false a b c p q = tt
le_chain true false true a b c p q = omega arith
le_chain true true true a b c p q = omega arith

-- where the ends are finite and the middle is not, one of the two fails
middle : (x y z : Float) → T (finite x) → T (finite z) → T (le x y) → T (le y z) → T (finite y)
unfolding le lt eq
middle x nan z f g p q = absurd q
middle x (inf false) nan f g p q = absurd g
middle x (inf false) (inf s) f g p q = absurd g
middle x (inf false) (fin s m e) f g p q = absurd q
middle nan (inf true) z f g p q = absurd f
middle (inf s) (inf true) z f g p q = absurd f
middle (fin s m e) (inf true) z f g p q = absurd p
middle x (fin s m e) z f g p q = tt

le_trans : (x y z : Float) → T (fits binary64 x) → T (fits binary64 y) → T (fits binary64 z) → T (finite x) → T (finite y) → T (finite z) → T (le x y) → T (le y z) → T (le x z)
le_trans x y z X Y Z f g h p q =
    let a = val_of x X f in
    let b = val_of y Y g in
    let c = val_of z Z h in
    val_le x z a.0 c.0 a.1.0 c.1.0 a.1.1 c.1.1
    (le_chain a.0 b.0 c.0 a.1.0 b.1.0 c.1.0 (le_val x y a.0 b.0 a.1.0 b.1.0 a.1.1 b.1.1 p) (le_val y z b.0 c.0 b.1.0 c.1.0 b.1.1 c.1.1 q))

-- ---- within a limit that is itself from 0 to another
zero_held : T (fits binary64 (of_bits binary64 0))
zero_held = of_bits-fits binary64 0

tenth_held : T (fits binary64 tenth)
unfolding tenth
tenth_held = of_bits-fits binary64 0x3fb9_9999_9999_999a

tenth_finite : T (finite tenth)
unfolding tenth of_bits
tenth_finite = tt

zero_finite : T (finite (of_bits binary64 0))
unfolding of_bits
zero_finite = tt

abs_held : (x : Float) → T (fits binary64 x) → T (fits binary64 (abs x))
unfolding abs fits
abs_held nan h = h
abs_held (inf s) h = h
abs_held (fin s m e) h = h

-- a size that a finite value is not below is finite
abs_finite : (x y : Float) → T (finite y) → T (le (abs x) y) → T (finite (abs x))
unfolding abs le lt eq
abs_finite nan y g h = absurd h
abs_finite (inf s) nan g h = absurd g
abs_finite (inf s) (inf t) g h = absurd g
abs_finite (inf s) (fin t m e) g h = absurd h
abs_finite (fin s m e) y g h = tt

pub within_up_to : (x max : Float) → T (fits binary64 x) → T (fits binary64 max) → T (within x max) → T (up_to max tenth) → T (within x tenth)
unfolding within up_to
within_up_to x max X M p q =
    let low = and_l (le (of_bits binary64 0) max) (le max tenth) q in
    let high = and_r (le (of_bits binary64 0) max) (le max tenth) q in
    let m = middle (of_bits binary64 0) max tenth zero_finite tenth_finite low high in
    le_trans (abs x) max tenth (abs_held x X) M tenth_held (abs_finite x max m p) m tenth_finite p high

pub error_within : (c : Clock.ClockError) (x : Float) → ClockInRange c → T (fits binary64 x) → T (clock_draw_fits c x) → T (within (error_of c x) tenth)
unfolding error_of clock_draw_fits
error_within (Clock.TheVariants.Constant e) x r X h = r.1
error_within (Clock.TheVariants.Uniform max) x r X h = within_up_to x max X r.0 h r.1

module _ (rates : MessagesPerSecond) (all : Distributions) (d : Draw) (r : InRange rates all d) (C : ClockInRange all.clock) (H : T (fits binary64 d.clock)) where
  pub drawn_within : T (within (error_drawn all d) tenth)
  unfolding error_drawn
  drawn_within = error_within all.clock d.clock C H r.clock

  by_type : (t : MessageType) → type_numbered d.kind ≡ Some t → T (within (filter_clock_error (kind_of t) (error_drawn all d)) tenth)
  unfolding kind_of filter_clock_error error_drawn type_number
  by_type ExtendedSquitter k = drawn_within
  by_type AcquisitionSquitter k = drawn_within
  by_type ShortAp k = drawn_within
  by_type AllCallReply k = drawn_within
  by_type LongAp k = drawn_within
  by_type MilitaryExtendedSquitter k = drawn_within
  by_type ModeAc k = r.mode_ac_limit_lem (sym (found_number_lem d.kind ModeAc k))

  pub filter_within : T (within (filter_clock_error (kind_drawn d) (error_drawn all d)) tenth)
  filter_within =
      subst (λ (k : ReplyKind). T (within (filter_clock_error k (error_drawn all d)) tenth)) (sym (kind_drawn_lem rates all d r)) (by_type r.message_type r.known)
