-- What the loop keeps: the samples that are left to write from here are those left from the beginning.
use Rattle.std.proofs.Common.{◌-◌, ◌≡◌, ◌<◌, ◌≤◌}
use Rattle.math.specs.Phase.{phase_wrap_once}
use Rattle.block_values.specs.TicksModel.{filled}
use Rattle.block_values.proofs.go_on.Given as goal

abbrev pub invariant-loop-i : goal.invariant-loop-i
invariant-loop-i l = record {
  from : l.fn.from.n ≤ l.i;
  within : l.i ≤ l.most;
  below : l.index < l.pace.limit;
  idle : l.most ≤ l.i → phase_wrap_once l.carrier ≡ l.carrier;
  rest : filled (l.most - l.i) l.pace (record { tick = record { clock = record { phase = l.phase; index = l.index }; carrier = l.carrier }; n = l.i }) l.block ≡ filled (l.fn.most - l.fn.from.n) l.fn.pace l.fn.from l.fn.block;
}

abbrev pub decreases-loop-i : goal.decreases-loop-i
decreases-loop-i l = l.most - l.i
