-- What a draw in range becomes is in range, where the distributions are: the carrier offset is within 4,000,000 in size at 4 samples per pulse (`drawn-offset`), and the phase from -PI to PI (`drawn-phase`). The clock error is `draw`'s.
use mathlib.Core.Path.{◌≡◌, refl, sym, ◌∙◌, subst}
use Prim.Native.Nat.{ℕ, ◌+◌, ◌*◌, ◌^◌, ◌≤◌, zero-le}
use native.Mathlib.Nat.{le_trans, le_of_eq}
use native.Mathlib.Omega.{arith}
use mathlib.Core.Bool.{Bool, true, false, not, cond, true≢false}
use lib.Dec.{T, ltb, nltb→le}
use lib.Ieee.{Float, nan, inf, fin, binary64, up, down, unlike, round, of_bits, neg, mul, below, lt, le, fits, is_nan}
use lib.Ieee.Fits.{and_l, and_r, neg-fits, mul-fits}
use lib.Ieee.Scale.{finite}
use Rattle.float_rounding.proofs.Order.{Le, Signed, round_signed}
use Rattle.float_rounding.proofs.Val.{Val, neg_val, le_val}
use Rattle.float_rounding.proofs.Size.{Within, number}
use Rattle.float_rounding.proofs.Compared.{lt_val}
use Rattle.floats.specs.Range.{within}
use Rattle.floats.proofs.Ranges.{val_within}
use Rattle.math.specs.Phase.{pi}
use Rattle.math.proofs.Constants.{pi_units, pi_val}
use Rattle.math.proofs.InRange.{lt→le, within_of_tests}
use Rattle.distributions.specs.declared.CarrierOffset as Offset
use Rattle.distributions.specs.declared.CarrierPhase as Phase
use Rattle.distributions.specs.Accepted.{up_to, finite_not_negative, offset_limit}
use Rattle.distributions.specs.Drawn.{clamped, offset_of, phase_of, offset_draw_fits, from_minus_pi_below_pi, phase_draw_fits}
use Rattle.message_config.proofs.InRange.{offset_val, offset_units}
use Rattle.settings.proofs.InRange.{OffsetInRange, PhaseInRange}

-- ---- the phase
pub drawn_phase : (d : Phase.CarrierPhase) (draw : Float) → PhaseInRange d → T (fits binary64 draw) → T (phase_draw_fits d draw) → Within (phase_of d draw) pi_units
unfolding phase_of phase_draw_fits from_minus_pi_below_pi
drawn_phase (Phase.TheVariants.Constant x) draw a F t = a
drawn_phase Phase.TheVariants.Uniform draw a F t =
    within_of_tests draw pi pi_units F pi_val (and_l (le (neg pi) draw) (lt draw pi) t, lt→le draw pi (and_r (le (neg pi) draw) (lt draw pi) t))

-- ---- from 0 to a limit, in units
up_to_finite : (x l : Float) (k : ℕ) → Val l false k → T (up_to x l) → T (finite x)
unfolding up_to of_bits le
up_to_finite nan l k v t = absurd (and_l (le (of_bits binary64 0) nan) (le nan l) t)
up_to_finite (inf true) l k v t = absurd (and_l (le (of_bits binary64 0) (inf true)) (le (inf true) l) t)
up_to_finite (inf false) nan k v t = absurd v
up_to_finite (inf false) (inf u) k v t = absurd v
up_to_finite (inf false) (fin u m e) k v t = absurd (and_r (le (of_bits binary64 0) (inf false)) (le (inf false) (fin u m e)) t)
up_to_finite (fin s n d) l k v t = tt

zero_val : Val (of_bits binary64 0) false 0
unfolding of_bits
zero_val = (refl, refl)

record UpTo (x : Float) (most : ℕ) : Type 0 where
  pub sign : Bool
  pub count : ℕ
  pub is : Val x sign count
  pub least : Le false 0 sign count
  pub under : count ≤ most

no_more : (s : Bool) (n k : ℕ) → Le false 0 s n → Le s n false k → n ≤ k
no_more false n k l h = h
no_more true n k l h = le_trans (le_of_eq l.1) zero-le

up_to_units : (x limit : Float) (k : ℕ) → Val limit false k → T (fits binary64 x) → T (up_to x limit) → UpTo x k
unfolding up_to
up_to_units x limit k v F t =
    let N = number x F (up_to_finite x limit k v t) in
    let l = le_val (of_bits binary64 0) x false N.sign 0 N.count zero_val N.is (and_l (le (of_bits binary64 0) x) (le x limit) t) in
    record { sign = N.sign; count = N.count; is = N.is; least = l; under = no_more N.sign N.count k l (le_val x limit N.sign false N.count k N.is v (and_r (le (of_bits binary64 0) x) (le x limit) t)) }

-- ---- the carrier offset
signed_number : (x : Float) (s : Bool) → Signed x s → T (not (is_nan x))
unfolding is_nan
signed_number nan s p = p
signed_number (inf t) s p = tt
signed_number (fin t m e) s p = tt

product_number : (x y : Float) → T (finite x) → T (finite y) → T (not (is_nan (mul binary64 x y)))
unfolding mul
product_number nan y f g = absurd f
product_number (inf s) y f g = absurd f
product_number (fin s m e) nan f g = absurd g
product_number (fin s m e) (inf t) f g = absurd g
product_number (fin s m e) (fin t n d) f g = signed_number (round binary64 (unlike s t) (m * up e * (n * up d)) (down e * down d)) (unlike s t) (round_signed binary64 (unlike s t) (m * up e * (n * up d)) (down e * down d))

-- neither below -max nor above max, and no NaN
between_finite : (x max : Float) (t : Bool) (k : ℕ) → Val max t k → T (not (is_nan x)) → lt x (neg max) ≡ false → lt max x ≡ false → T (finite x)
unfolding is_nan lt neg
between_finite x nan t k v h p q = absurd v
between_finite x (inf u) t k v h p q = absurd v
between_finite nan (fin u m e) t k v h p q = h
between_finite (inf true) (fin u m e) t k v h p q = absurd (true≢false p)
between_finite (inf false) (fin u m e) t k v h p q = absurd (true≢false q)
between_finite (fin s n d) (fin u m e) t k v h p q = tt

not_less : (a b : ℕ) → ltb a b ≡ false → b ≤ a
not_less a b e = nltb→le a b (subst (λ (x : Bool). T (not x)) (sym e) tt)

between_count : (s t : Bool) (n k : ℕ) → below s n (not t) k ≡ false → below t k s n ≡ false → n ≤ k
between_count false false n k p q = not_less k n q
between_count true false n k p q = not_less k n p
between_count false true n k p q = part k n (not_less 0 (k + n) q)
  where
    part : (k n : ℕ) → k + n ≤ 0 → n ≤ k
    part k n h = omega arith
between_count true true n k p q = part k n (not_less 0 (n + k) p)
  where
    part : (k n : ℕ) → n + k ≤ 0 → n ≤ k
    part k n h = omega arith

clamped_within : (sps : ℕ) → sps ≤ 2 ^ 30 → (x max : Float) → T (fits binary64 x) → T (not (is_nan x)) → T (fits binary64 max) → UpTo max (offset_units sps) → T (fits binary64 (clamped x max)) × T (within (clamped x max) (offset_limit sps))
unfolding clamped
clamped_within sps few x max F h G u = low (lt x (neg max)) refl
  where
    NoFault : Float → Type 0
    NoFault y = T (fits binary64 y) × T (within y (offset_limit sps))

    inner : lt x (neg max) ≡ false → lt max x ≡ false → NoFault x
    inner p q =
        let N = number x F (between_finite x max u.sign u.count u.is h p q) in
        let n_le = between_count N.sign u.sign N.count u.count (sym (lt_val x (neg max) N.sign (not u.sign) N.count u.count N.is (neg_val max u.sign u.count u.is)) ∙ p) (sym (lt_val max x u.sign N.sign u.count N.count u.is N.is) ∙ q) in
        (F, val_within x (offset_limit sps) N.sign N.count (offset_units sps) N.is (offset_val sps few) (le_trans n_le u.under))

    high : (b : Bool) → lt max x ≡ b → lt x (neg max) ≡ false → NoFault (cond b max x)
    high true q p = (G, val_within max (offset_limit sps) u.sign u.count (offset_units sps) u.is (offset_val sps few) u.under)
    high false q p = inner p q

    low : (b : Bool) → lt x (neg max) ≡ b → NoFault (cond b (neg max) (cond (lt max x) max x))
    low true p = (neg-fits binary64 max G, val_within (neg max) (offset_limit sps) (not u.sign) u.count (offset_units sps) (neg_val max u.sign u.count u.is) (offset_val sps few) u.under)
    low false p = high (lt max x) refl p

pub drawn_offset : (sps : ℕ) → sps ≤ 2 ^ 30 → (d : Offset.CarrierOffset) (draw : Float) → OffsetInRange sps d → T (offset_draw_fits d draw) → T (fits binary64 (offset_of d draw)) × T (within (offset_of d draw) (offset_limit sps))
unfolding offset_of offset_draw_fits finite_not_negative
drawn_offset sps few (Offset.TheVariants.Constant x) draw a t = a
drawn_offset sps few (Offset.TheVariants.ClampedNormal sigma max) draw a t =
    clamped_within sps few (mul binary64 draw sigma) max (mul-fits binary64 draw sigma) (product_number draw sigma t (and_r (le (of_bits binary64 0) sigma) (finite sigma) a.2)) a.1
    (up_to_units max (offset_limit sps) (offset_units sps) (offset_val sps few) a.1 a.3)
