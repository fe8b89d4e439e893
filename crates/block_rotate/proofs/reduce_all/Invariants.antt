-- The first k rows are written.
use Rattle.math.specs.Carrier.{reduced, sine_sum, cosine_sum}
use Rattle.block_rotate.specs.BlockModel.{limits_above}
use Rattle.floats.proofs.Rows.{Mapped}
use Rattle.block_rotate.proofs.reduce_all.Given as goal

abbrev pub invariant-loop-k : goal.invariant-loop-k
invariant-loop-k l = Mapped limits_above 8 32 l.phases l.k l.turns × Mapped (λ p. sine_sum (reduced p).r) 8 32 l.phases l.k l.s × Mapped (λ p. cosine_sum (reduced p).r) 8 32 l.phases l.k l.c
