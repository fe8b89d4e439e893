-- Accepted settings give at most 2^52 samples and distributions in the ranges of SPECIFICATION 4.2 (`accepted-in-range`); a constant phase, wrapped, lies from -PI to PI; and a trigger level above 0 (`accepted-level`).
use Rattle.std.specs.Prelude.{Result, Ok, Err}
use Rattle.refusals.specs.declared.Refusal.{Refusal}
use Rattle.refusals.specs.declared.Refusal.TheVariants.{Distribution}
use Prim.Native.Nat.{ℕ, zero, suc, ◌*◌, ◌≤◌, ◌<◌}
use mathlib.Core.Path.{◌≡◌, refl, sym, subst}
use mathlib.Core.Bool.{Bool, true, false, ◌&&◌, cond}
use mathlib.Core.List.{List}
use native.Mathlib.Nat.{le_trans, le_of_eq, zero-mul}
use native.Mathlib.Omega.{arith}
use lib.IntN.{pos}
use lib.Dec.{T, lt→ltb}
use lib.Ieee.{Float, nan, inf, fin, binary32, binary64, of_bits, up, down, lt, le, fits}
use lib.Ieee.Fits.{down_pos}
use lib.Ieee.Bits.{of_bits-fits}
use lib.Ieee.Scale.{finite}
use Rattle.floats.specs.Range.{within}
use Rattle.math.specs.Phase.{phase_wrap}
use Rattle.float_rounding.proofs.Order.{le_fin}
use Rattle.float_rounding.proofs.Size.{Within}
use Rattle.math.proofs.Constants.{pi_units}
use Rattle.math.proofs.Wrapped.{wrapped}
use Rattle.distributions.specs.Accepted.{up_to, finite_not_negative, offset_limit, tenth, by_kind, clamped_normal, carrier_offset, carrier_phase, clock_error}
use Rattle.distributions.specs.declared.RawDistribution.{RawDistribution}
use Rattle.distributions.specs.declared.CarrierOffset as Offset
use Rattle.distributions.specs.declared.CarrierPhase as Phase
use Rattle.distributions.specs.declared.ClockError as Clock
use Rattle.settings_duration.specs.Duration.{most_samples}
use Rattle.settings.specs.declared.Settings.{Settings}
use Rattle.settings.specs.declared.Distributions.{Distributions}
use Rattle.settings.specs.Settings.{raw_distribution_at, settings_of}
use Rattle.settings.specs.Accepted.{least_level, greatest_level, level_in_range, accepted_of}
use Rattle.settings.specs.FirstCause.{Answered, accepted}
use Rattle.settings.proofs.FirstCause.{answered, lasts_for}

abbrev zero_f : Float
zero_f = fin false 0 (pos 0)

-- x is a value of `f64`
abbrev pub Held : Float → Type 0
Held x = T (fits binary64 x)

-- distribution 0 (SPECIFICATION 4.2): the value at most the limit in size, max from 0 to the limit, sigma finite and not negative
abbrev pub OffsetInRange : ℕ → Offset.CarrierOffset → Type 0
OffsetInRange sps (Offset.TheVariants.Constant x) = Held x × T (within x (offset_limit sps))
OffsetInRange sps (Offset.TheVariants.ClampedNormal sigma max) = Held sigma × Held max × T (finite_not_negative sigma) × T (up_to max (offset_limit sps))

-- finite, from -PI to PI
abbrev pub PhaseInRange : Phase.CarrierPhase → Type 0
PhaseInRange (Phase.TheVariants.Constant x) = Within x pi_units
PhaseInRange Phase.TheVariants.Uniform = T true

-- distribution 2 (SPECIFICATION 4.2): constant within 0.1 in size, or uniform with a max from 0 to 0.1
abbrev pub ClockInRange : Clock.ClockError → Type 0
ClockInRange (Clock.TheVariants.Constant e) = Held e × T (within e tenth)
ClockInRange (Clock.TheVariants.Uniform max) = Held max × T (up_to max tenth)

pub record InRange (sps : ℕ) (d : Distributions) : Type 0 where
  pub carrier : OffsetInRange sps d.carrier
  pub phase : PhaseInRange d.phase
  pub clock : ClockInRange d.clock

-- the numbers of the distributions asked for are values of `f64`, as those of every Rattle value and of any bytes are
abbrev pub HeldAsked : RawDistribution → Type 0
HeldAsked a = Held a.first × Held a.second

pub record HeldSettings (s : Settings) : Type 0 where
  pub carrier : HeldAsked s.carrier
  pub phase : HeldAsked s.phase
  pub clock : HeldAsked s.clock
  pub level : T (fits binary32 s.trigger_level)

pub read_held : (s : List ℕ) → HeldSettings (settings_of s)
unfolding settings_of raw_distribution_at
read_held s = record {
  carrier = (of_bits-fits binary64 _, of_bits-fits binary64 _);
  phase = (of_bits-fits binary64 _, of_bits-fits binary64 _);
  clock = (of_bits-fits binary64 _, of_bits-fits binary64 _);
  level = of_bits-fits binary32 _;
}

-- ---- each distribution
split : (a b : Bool) → a && b ≡ true → T a × T b
split true true e = (tt, tt)
split true false e = let z : ◌≡◌ {A = ℕ} 0 1 = cc in absurd (omega arith)
split false b e = let z : ◌≡◌ {A = ℕ} 0 1 = cc in absurd (omega arith)

-- what is accepted has the property P, if what passes each kind's test has it
module _ {D : Type 0} (q : Refusal) (P : D → Type 0) (o : D) where
  is_given : (d : D) → P d → ◌≡◌ {A = Result D Refusal} (Ok d) (Ok o) → P o
  is_given d p e = let same : d ≡ o = cc in subst P same p

  never : ◌≡◌ {A = Result D Refusal} (Err q) (Ok o) → P o
  never e = let z : ◌≡◌ {A = ℕ} 0 1 = cc in absurd (omega arith)

  tested : (b : Bool) (d : D) → (b ≡ true → P d) → cond b (Ok d) (Err q) ≡ Ok o → P o
  tested true d p e = is_given d (p refl) e
  tested false d p e = never e

  of_kind : (k : ℕ) (a b : Result D Refusal) → (a ≡ Ok o → P o) → (b ≡ Ok o → P o) → by_kind k a b (Err q) ≡ Ok o → P o
  unfolding by_kind
  of_kind zero a b f g e = f e
  of_kind (suc zero) a b f g e = g e
  of_kind (suc (suc k)) a b f g e = never e

pub offset_in_range : (sps : ℕ) (a : RawDistribution) → HeldAsked a → (o : Offset.CarrierOffset) → carrier_offset sps a ≡ Ok o → OffsetInRange sps o
unfolding carrier_offset clamped_normal
offset_in_range sps a H o =
    of_kind (Distribution 0) (OffsetInRange sps) o a.kind _ _
    (tested (Distribution 0) (OffsetInRange sps) o (within a.first (offset_limit sps)) (Offset.TheVariants.Constant a.first) (λ t. (H.0, subst T (sym t) tt)))
    (tested (Distribution 0) (OffsetInRange sps) o (finite_not_negative a.first && up_to a.second (offset_limit sps)) (Offset.TheVariants.ClampedNormal a.first a.second) (λ t. let both = split (finite_not_negative a.first) (up_to a.second (offset_limit sps)) t in (H.0, H.1, both.0, both.1)))

pub phase_in_range : (a : RawDistribution) → HeldAsked a → (p : Phase.CarrierPhase) → carrier_phase a ≡ Ok p → PhaseInRange p
unfolding carrier_phase
phase_in_range a H p =
    of_kind (Distribution 1) PhaseInRange p a.kind _ _
    (tested (Distribution 1) PhaseInRange p (finite a.first) (Phase.TheVariants.Constant (phase_wrap a.first)) (λ t. wrapped a.first H.0 (subst T (sym t) tt)))
    (is_given (Distribution 1) PhaseInRange p Phase.TheVariants.Uniform tt)

pub clock_in_range : (a : RawDistribution) → HeldAsked a → (c : Clock.ClockError) → clock_error a ≡ Ok c → ClockInRange c
unfolding clock_error
clock_in_range a H c =
    of_kind (Distribution 2) ClockInRange c a.kind _ _
    (tested (Distribution 2) ClockInRange c (within a.first tenth) (Clock.TheVariants.Constant a.first) (λ t. (H.0, subst T (sym t) tt)))
    (tested (Distribution 2) ClockInRange c (up_to a.first tenth) (Clock.TheVariants.Uniform a.first) (λ t. (H.0, subst T (sym t) tt)))

-- ---- all of them
pub accepted_in_range : (sps : ℕ) (s : Settings) → HeldSettings s → (n : ℕ) (d : Distributions) → accepted_of sps s ≡ Ok (n, d) → (n ≤ most_samples) × InRange sps d
accepted_in_range sps s H n d e = go (subst (Answered sps s) e (answered sps s))
  where
    go : Answered sps s (Ok (n, d)) → (n ≤ most_samples) × InRange sps d
    go (accepted P D t) = (
      (lasts_for sps s.seconds s.nanoseconds n P.lasts).1,
      record {
        carrier = offset_in_range sps s.carrier H.carrier d.carrier D.carrier_is;
        phase = phase_in_range s.phase H.phase d.phase D.phase_is;
        clock = clock_in_range s.clock H.clock d.clock D.clock_is;
      },
    )

-- ---- the trigger level
-- a value that is at least the least level is above 0
above_0 : (x : Float) → T (le least_level x) → T (lt zero_f x)
unfolding of_bits
above_0 nan t = absurd (unfold le in t)
above_0 (inf true) t = absurd (unfold le in t)
above_0 (inf false) t = unfold lt in tt
above_0 (fin true n d) t = absurd (no_zero (down d) (down_pos d) (le_fin false _ _ true n d t).0)
  where
    no_zero : (k : ℕ) → 0 < k → 13421773 * 1 * k ≡ 0 → ⊥
    no_zero k h e = omega arith
above_0 (fin false n d) t = unfold lt in lt→ltb (0 * down d) (n * up d * 1) (some (n * up d) (down d) (down_pos d) _ (le_fin false _ _ false n d t))
  where
    some : (m k : ℕ) → 0 < k → (a : ℕ) → 13421773 * 1 * k ≤ m * a → 0 * k < m * 1
    some zero k h a g = absurd (none k h (le_trans g (le_of_eq (zero-mul a))))
      where
        none : (k : ℕ) → 0 < k → 13421773 * 1 * k ≤ 0 → ⊥
        none k h g = omega arith
    some (suc m) k h a g = omega arith

pub accepted_level : (sps : ℕ) (s : Settings) (n : ℕ) (d : Distributions) → accepted_of sps s ≡ Ok (n, d) → T (lt zero_f s.trigger_level)
unfolding level_in_range
accepted_level sps s n d e = go (subst (Answered sps s) e (answered sps s))
  where
    go : Answered sps s (Ok (n, d)) → T (lt zero_f s.trigger_level)
    go (accepted P D t) = above_0 s.trigger_level (split (le least_level s.trigger_level) (le s.trigger_level greatest_level) t).0
