-- A number that is finite and not negative has a plus sign or is minus zero (`not_negative`); minus zero is in range as a gap and as an amplitude (`minus-zero-fits`).
use Prim.Native.Nat.{ℕ, zero, suc, ◌<◌}
use mathlib.Core.Path.{◌≡◌, refl, subst}
use mathlib.Core.Bool.{true, false}
use native.Mathlib.Nat.{lt_irrefl, mul-pos, zero-lt-suc}
use lib.Dec.{T}
use lib.IntN.{ℤ, pos}
use lib.Ieee.{Float, nan, inf, fin, of_bits, le, lt, eq}
use lib.Ieee.Fits.{and_l, up_pos, down_pos}
use Rattle.float_rounding.proofs.Order.{le_fin}
use Rattle.distributions.specs.Accepted.{finite_not_negative}
use Rattle.draw.specs.Fault.{amplitude_fits}

pub data NotNegative : Float → Type 0 where
  plus : (m : ℕ) (e : ℤ) → NotNegative (fin false m e)
  minus_zero_lem : (e : ℤ) → NotNegative (fin true 0 e)

pub not_negative : (x : Float) → T (finite_not_negative x) → NotNegative x
unfolding finite_not_negative of_bits le lt eq
not_negative nan h = absurd h
not_negative (inf true) h = absurd h
not_negative (inf false) h = absurd h
not_negative (fin false m e) h = plus m e
not_negative (fin true zero e) h = minus_zero_lem e
not_negative (fin true (suc m) e) h =
    let z = (le_fin false 0 (pos 0) true (suc m) e (and_l (le (fin false 0 (pos 0)) (fin true (suc m) e)) true h)).1 in
    absurd (lt_irrefl 0 (subst (λ (x : ℕ). 0 < x) z (mul-pos (mul-pos (zero-lt-suc m) (up_pos e)) (down_pos (pos 0)))))

pub minus_zero_fits : (finite_not_negative (fin true 0 (pos 0)) ≡ true) × (amplitude_fits (fin true 0 (pos 0)) ≡ true)
unfolding finite_not_negative amplitude_fits of_bits le lt eq
minus_zero_fits = (refl, refl)
