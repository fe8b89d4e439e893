-- The first k rows are as they are to be.
use Rattle.std.proofs.Common.{◌≡◌, ◌*◌, length, take}
use Rattle.block_rotate.specs.BlockModel.{turned_sine, turned_cosine, scaled_by}
use Rattle.block_rotate.proofs.turn_all.Given as goal

abbrev pub invariant-loop-k : goal.invariant-loop-k
invariant-loop-k l = record {
  long_re : length l.out.re ≡ 32;
  long_im : length l.out.im ≡ 32;
  re : take (l.k * 8) l.out.re ≡ take (l.k * 8) (scaled_by l.amplitude l.values (turned_cosine l.turns l.s l.c));
  im : take (l.k * 8) l.out.im ≡ take (l.k * 8) (scaled_by l.amplitude l.values (turned_sine l.turns l.s l.c));
}
