-- `turn_all` meets its contract.
use Rattle.std.proofs.Common.{ℕ, List, ◌≡◌, ◌*◌, ◌+◌, ◌≤◌, length, arith}
use lib.Ieee.{Float}
use Rattle.math.specs.Carrier.{quadrant}
use Rattle.block_rotate.specs.BlockModel.{quarter, zip3, turned_sine, turned_cosine, scaled_by}
use Rattle.floats.proofs.Rows.{rows_next, rows_end, length_stored}
use Rattle.block_rotate.proofs.Scaled.{length_scaled, length_zip3, row_scaled}
use Rattle.block_rotate.proofs.turn_all.Goals as goal

-- the factor of each value
abbrev sine_by : ℕ → Float → Float → Float
sine_by n c s = (quadrant (quarter n) s c).sin

abbrev cosine_by : ℕ → Float → Float → Float
cosine_by n s c = (quadrant (quarter n) s c).cos

-- a block is as long as each of its parts
long : (f : ℕ → Float → Float → Float) (a : Float) (vs xs ys : List Float) (ns : List ℕ) → length vs ≡ 32 → length ns ≡ 32 → length xs ≡ 32 → length ys ≡ 32 → length (scaled_by a vs (zip3 f ns xs ys)) ≡ 32
long f a vs xs ys ns lv ln lx ly = omega (arith, length_scaled a vs (zip3 f ns xs ys), length_zip3 f ns xs ys)

pub loop-k-preserved : goal.loop-k-preserved
unfolding turned_sine turned_cosine
loop-k-preserved c =
    let a = c.args in
    let l = c.loop-k in
    let i = l.k * 8 in
    let h : i + 8 ≤ 32 = omega arith in
    let e : (l.k + 1) * 8 ≡ i + 8 = omega arith in
    record {
      long_re = length_stored 8 i 32 _ l.out.re l.out.re l.invariant.long_re h;
      long_im = length_stored 8 i 32 _ l.out.im l.out.im l.invariant.long_im h;
      re = rows_next 8 i 32 _ l.out.re _ l.invariant.long_re h _ e (long cosine_by a.amplitude a.values.now a.s.now a.c.now a.turns.now c.told-values c.told-turns c.told-s c.told-c) l.invariant.re (row_scaled cosine_by a.amplitude a.turns.now a.values.now a.s.now a.c.now i h _ c.told-values c.turned_cosines.ensures);
      im = rows_next 8 i 32 _ l.out.im _ l.invariant.long_im h _ e (long sine_by a.amplitude a.values.now a.c.now a.s.now a.turns.now c.told-values c.told-turns c.told-c c.told-s) l.invariant.im (row_scaled sine_by a.amplitude a.turns.now a.values.now a.c.now a.s.now i h _ c.told-values c.turned_sines.ensures);
    }

pub returns : goal.returns
unfolding turned_sine turned_cosine
returns c =
    let a = c.args in
    let l = c.loop-k in (
      rows_end (l.k * 8) l.out.re _ (omega (arith, l.invariant.long_re)) (omega (arith, long cosine_by a.amplitude a.values.now a.s.now a.c.now a.turns.now c.told-values c.told-turns c.told-s c.told-c)) l.invariant.re,
      rows_end (l.k * 8) l.out.im _ (omega (arith, l.invariant.long_im)) (omega (arith, long sine_by a.amplitude a.values.now a.c.now a.s.now a.turns.now c.told-values c.told-turns c.told-c c.told-s)) l.invariant.im,
    )
