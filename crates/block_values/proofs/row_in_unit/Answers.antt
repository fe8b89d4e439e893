-- `row_in_unit` meets its contract.
use Rattle.std.proofs.Common.{◌≡◌, ◌%◌, ◌^◌, true, nat_eq, bit_and, List, length, replicate}
use Rattle.std.proofs.lemmas.Simd.{splat_is_map}
use mir.Syntax.{w64}
use borrow.Author.Tests.{eqb-true}
use lib.Lanes.{zip2, mask_l}
use lib.Ieee.{Float, binary64, of_bits, le, lt}
use Rattle.block_values.specs.BlockValuesModel.{in_unit, EachInUnit}
use Rattle.floats.proofs.Rows.{as_map, tests, compared, compared_of_maps, both, all_of_mask}
use Rattle.block_values.proofs.row_in_unit.Goals as goal

abbrev zero_f : Float
zero_f = of_bits binary64 0

abbrev one_f : Float
one_f = of_bits binary64 0x3ff0_0000_0000_0000

each_in_unit : (x : List Float) → length x ≡ 8 → nat_eq (mask_l (tests w64 (zip2 bit_and (compared w64 le (replicate 8 zero_f) x) (compared w64 lt x (replicate 8 one_f)))) % 2 ^ 64) 255 ≡ true → EachInUnit x
each_in_unit x l all =
    let reached = compared_of_maps w64 le (λ _. zero_f) (λ p. p) x (splat_is_map x 8 zero_f l) (as_map x) in
    let below = compared_of_maps w64 lt (λ p. p) (λ _. one_f) x (as_map x) (splat_is_map x 8 one_f l) in
    all_of_mask in_unit w64 x l (both w64 (le zero_f) x reached (λ p. lt p one_f) below) (eqb-true _ _ all)

pub returns : goal.returns
returns c all = each_in_unit c.args.x c.fits-x.0 all
