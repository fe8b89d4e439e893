-- `amplitude` meets its contract.
use Prim.Native.Nat.{◌+◌, ◌*◌, ◌/◌}
use Rattle.draw_level.proofs.Significand.{five_fits, product_of, q_small, made, no_nan}
use native.Mathlib.Omega.{arith}
use Rattle.draw_level.proofs.amplitude.Goals as goal

pub pow-requires : goal.pow-requires
pow-requires c = five_fits (c.args.tenths / 200) (omega arith)

pub overflow_mul-scaled : goal.overflow_mul-scaled
overflow_mul-scaled c = omega (arith, product_of c.args.tenths c.entry.result c.pow.result (omega arith) c.entry.ensures c.pow.ensures)

pub halvings-e-requires : goal.halvings-e-requires
halvings-e-requires c =
    let p = product_of c.args.tenths c.entry.result c.pow.result (omega arith) c.entry.ensures c.pow.ensures in
    omega (arith, p.least, p.most)

pub overflow_cast-result : goal.overflow_cast-result
overflow_cast-result c = omega (arith, q_small c.args.tenths c.entry.result c.pow.result c.halvings-e.result c.nearest_even-significand.result (omega arith) c.entry.ensures c.pow.ensures c.halvings-e.ensures c.nearest_even-significand.ensures, c.halvings-e.ensures.0)

pub float_from_bits-result : goal.float_from_bits-result
float_from_bits-result c = no_nan ((c.halvings-e.result + c.args.tenths / 200 + 105) * 8388608 + c.nearest_even-significand.result) (omega (arith, q_small c.args.tenths c.entry.result c.pow.result c.halvings-e.result c.nearest_even-significand.result (omega arith) c.entry.ensures c.pow.ensures c.halvings-e.ensures c.nearest_even-significand.ensures, c.halvings-e.ensures.0))

pub returns : goal.returns
returns c = made c.args.tenths c.entry.result c.pow.result c.halvings-e.result c.nearest_even-significand.result (omega arith) c.entry.ensures c.pow.ensures c.halvings-e.ensures c.nearest_even-significand.ensures
