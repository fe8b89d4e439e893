-- The sums of four samples.
use Rattle.std.proofs.Common.{◌≡◌, ℕ, ◌+◌, ◌*◌, ◌<◌, Bool, false, List, get_or, refl, add-zero, arith, lt-ltb}
use lib.Ieee.{Float, binary32, of_bits}
use Rattle.block_values.specs.BlockValuesModel.{tap_at, last_tap_at, plus_where, lane}
use Rattle.block_values.proofs.four_values.Goals as goal

lane_of : (p : List Float) (n : ℕ) (padded : List Bool) (index a : ℕ) (tau u : Float) {s1 s2 s3 s4 s5 s6 s7 : Float} → index < 246
    → s1 ≡ plus_where (get_or padded (index + 6) false) (of_bits binary32 0) (tap_at p u tau (a + 0))
    → s2 ≡ plus_where (get_or padded (index + 5) false) s1 (tap_at p u tau (a + n))
    → s3 ≡ plus_where (get_or padded (index + 4) false) s2 (tap_at p u tau (a + n * 2))
    → s4 ≡ plus_where (get_or padded (index + 3) false) s3 (tap_at p u tau (a + n * 3))
    → s5 ≡ plus_where (get_or padded (index + 2) false) s4 (tap_at p u tau (a + n * 4))
    → s6 ≡ plus_where (get_or padded (index + 1) false) s5 (tap_at p u tau (a + n * 5))
    → s7 ≡ plus_where (get_or padded index false) s6 (last_tap_at p u tau (a + n * 6))
    → s7 ≡ lane p n padded index a tau u
unfolding lane
lane_of p n padded index a tau u h e1 e2 e3 e4 e5 e6 e7 = rw (e7, e6, e5, e4, e3, e2, e1, add-zero a, lt-ltb index 246 h) refl

pub returns : goal.returns
returns c =
    let p = c.args.p.now in
    let padded = c.args.padded.now in
    let x = c.args.x in
    let h : c.args.index < 246 = omega arith in
    record {
      v0 = lane_of p c.args.n padded c.args.index x.a0 x.t.v0 x.u.v0 h c.plus-s1.ensures.v0 c.plus-s2.ensures.v0 c.plus-s3.ensures.v0 c.plus-s4.ensures.v0 c.plus-s5.ensures.v0 c.plus-s6.ensures.v0 c.plus_last.ensures.v0;
      v1 = lane_of p c.args.n padded c.args.index x.a1 x.t.v1 x.u.v1 h c.plus-s1.ensures.v1 c.plus-s2.ensures.v1 c.plus-s3.ensures.v1 c.plus-s4.ensures.v1 c.plus-s5.ensures.v1 c.plus-s6.ensures.v1 c.plus_last.ensures.v1;
      v2 = lane_of p c.args.n padded c.args.index x.a2 x.t.v2 x.u.v2 h c.plus-s1.ensures.v2 c.plus-s2.ensures.v2 c.plus-s3.ensures.v2 c.plus-s4.ensures.v2 c.plus-s5.ensures.v2 c.plus-s6.ensures.v2 c.plus_last.ensures.v2;
      v3 = lane_of p c.args.n padded c.args.index x.a3 x.t.v3 x.u.v3 h c.plus-s1.ensures.v3 c.plus-s2.ensures.v3 c.plus-s3.ensures.v3 c.plus-s4.ensures.v3 c.plus-s5.ensures.v3 c.plus-s6.ensures.v3 c.plus_last.ensures.v3;
    }
