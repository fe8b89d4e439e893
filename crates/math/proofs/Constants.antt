-- The multiples of PI that the definitions name, in units of 2 ^ -1074: each is exact.
use Rattle.std.proofs.Common.{ℕ, ◌*◌, ◌^◌, true, false, refl}
use lib.Ieee.{of_bits, neg, mul, div}
use Rattle.float_rounding.proofs.Val.{Val}
use Rattle.math.specs.Phase.{pi, two_pi}
use Rattle.math.specs.Carrier.{half_pi, outer_limit, inner_limit}

-- PI / 4, PI and 2 PI in units; PI / 2 is two of the first, 3 PI / 4 three
abbrev pub quarter_units : ℕ
quarter_units = 884279719003555 * 2 ^ 1024

abbrev pub pi_units : ℕ
pi_units = 884279719003555 * 2 ^ 1026

abbrev pub two_pi_units : ℕ
two_pi_units = 884279719003555 * 2 ^ 1027

pub pi_val : Val pi false pi_units
unfolding pi of_bits
pi_val = (refl, refl)

pub minus_pi_val : Val (neg pi) true pi_units
unfolding pi of_bits neg
minus_pi_val = (refl, refl)

pub two_pi_val : Val two_pi false two_pi_units
unfolding two_pi of_bits
two_pi_val = (refl, refl)

pub half_pi_val : Val half_pi false (2 * quarter_units)
unfolding half_pi pi of_bits div
half_pi_val = (refl, refl)

pub outer_val : Val outer_limit false (3 * quarter_units)
unfolding outer_limit half_pi pi of_bits mul div
outer_val = (refl, refl)

pub inner_val : Val inner_limit false quarter_units
unfolding inner_limit half_pi pi of_bits mul div
inner_val = (refl, refl)
