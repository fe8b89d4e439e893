-- Sine and cosine of a phase from -PI to PI are finite and at most 1 in size.
use Rattle.std.proofs.Common.{ℕ, zero, suc, ◌≤◌, false, le_trans, lit≤}
use lib.Ieee.{Float}
use Rattle.math.specs.Carrier.{reduced, sine_sum, cosine_sum, quadrant, sin_cos}
use Rattle.float_rounding.proofs.Size.{Within, within_neg}
use Rattle.math.proofs.Constants.{quarter_units, pi_units}
use Rattle.math.proofs.Reduction.{reduced_within}
use Rattle.math.proofs.Sums.{unity, sine_units, cosine_units, sine_val, sine_le, cosine_val, cosine_le}

turned_within : (q : ℕ) (s c : Float) → Within s unity → Within c unity → Within (quadrant q s c).sin unity × Within (quadrant q s c).cos unity
unfolding quadrant
turned_within zero s c S C = (S, C)
turned_within (suc zero) s c S C = (C, within_neg s unity S)
turned_within (suc (suc zero)) s c S C = (within_neg s unity S, within_neg c unity C)
turned_within (suc (suc (suc q))) s c S C = (within_neg c unity C, S)

pub sin_cos_within : (p : Float) → Within p pi_units → Within (sin_cos p).sin unity × Within (sin_cos p).cos unity
unfolding sin_cos
sin_cos_within p w =
    let r = (reduced p).r in
    let t = reduced_within p w in
    let s = t.0 in
    let n = t.1 in
    let small : n ≤ unity = le_trans t.3 (lit≤ {m = quarter_units} {n = unity} tt) in
    turned_within (reduced p).q (sine_sum r) (cosine_sum r)
    (s, sine_units n, sine_val r s n t.2 small, sine_le r s n t.2 small)
    (false, cosine_units n, cosine_val r s n t.2 small, cosine_le r s n t.2 small)
