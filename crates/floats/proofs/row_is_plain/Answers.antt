-- `row_is_plain` meets its contract.
use Rattle.std.proofs.Common.{◌≡◌, true, T}
use mir.Syntax.{w64}
use lib.Ieee.{Float, binary64, of_bits, mul, le, eq, fits}
use Rattle.std.proofs.lemmas.Simd.{zip2_of_maps, splat_is_map}
use borrow.Author.Tests.{eqb-true}
use Rattle.floats.specs.BlockModel.{Plain}
use Rattle.floats.proofs.Rows.{as_map, compared_of_maps, either, both, all_of_mask, each_with}
use Rattle.floats.proofs.PlainSquare.{least_square, greatest_square, passes, plain_by_square}
use Rattle.floats.proofs.row_is_plain.Goals as goal

pub returns : goal.returns
returns c =
    let x = c.args.x in
    let splat = λ (y : Float). splat_is_map x 8 y c.fits-x.0 in
    let z = zip2_of_maps (mul binary64) (λ v. v) (λ v. v) x (as_map x) (as_map x) in
    let least = compared_of_maps w64 le (λ _. least_square) (λ v. mul binary64 v v) x (splat least_square) z in
    let zero = compared_of_maps w64 eq (λ v. v) (λ _. of_bits binary64 0) x (as_map x) (splat (of_bits binary64 0)) in
    let greatest = compared_of_maps w64 le (λ v. mul binary64 v v) (λ _. greatest_square) x z (splat greatest_square) in
    let mask = both w64 _ x (either w64 _ x least _ zero) _ greatest in
    λ e. each_with (λ v. T (fits binary64 v)) (λ v. passes v ≡ true) Plain plain_by_square x c.fits-x.1 (all_of_mask passes w64 x c.fits-x.0 mask (eqb-true _ _ e))
