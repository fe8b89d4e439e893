-- The goals of outside_unit.
use Rattle.std.proofs.Common.{◌<◌, rules, arith}
use lib.Ieee.{binary64, to_bits}
use Rattle.block_values.proofs.Guess.{bits_fit}
use Rattle.block_values.proofs.outside_unit.Goals as goal

pub overflow_add-result : goal.overflow_add-result
overflow_add-result c = let h = bits_fit c.args.x (search rules) in search rules

pub returns : goal.returns
returns c =
    let h : to_bits binary64 c.args.x < 18446744073709551616 = bits_fit c.args.x (search rules) in
    (omega (arith, h), λ e. omega (arith, e))
