-- What the loop keeps: the samples that are left to write from here are those left from the beginning.
use Rattle.std.proofs.Common.{◌-◌, ◌≡◌, ◌≤◌}
use Rattle.block_values.specs.TicksModel.{filled}
use Rattle.block_values.proofs.fill_clocks.Given as goal

abbrev pub invariant-loop-at : goal.invariant-loop-at
invariant-loop-at l = record {
  within : l.at.n ≤ l.most;
  room : l.most ≤ 32;
  begun : l.at.n ≡ 0 → l.at.tick.clock.index ≡ l.fn.first.clock.index;
  rest : filled (l.most - l.at.n) l.pace l.at l.block ≡ filled l.most l.fn.pace (record { tick = l.fn.first; n = 0 }) l.fn.block;
}

abbrev pub decreases-loop-at : goal.decreases-loop-at
decreases-loop-at l = l.most - l.at.n
