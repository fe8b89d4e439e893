-- What the functions within this crate leave of a block, a sample after another. No public contract cites this file.
use Rattle.std.specs.Prelude.{ℕ, zero, suc, ◌+◌, cond, set, nat_lt}
use Rattle.math.specs.Phase.{phase_wrap_once}
use Rattle.block_values.specs.declared.Tick.{Tick}
use Rattle.block_values.specs.declared.Pace.{Pace}
use Rattle.block_values.specs.declared.Ended.{Ended}
use Rattle.block_values.specs.declared.Block.{Block}
use Rattle.block_values.specs.Ticks.{next_tick}

-- a tick written at a place of a block
abbrev pub with_tick : Block → ℕ → Tick → Block
with_tick b n t = record { phases = set b.phases n t.clock.phase; indices = set b.indices n t.clock.index; carriers = set b.carriers n t.carrier }

-- where a block ends and what it then holds, with room for k samples more
unfoldable pub filled : ℕ → Pace → Ended → Block → Ended × Block
filled zero pace at b = (at, b)
filled (suc k) pace at b = cond (nat_lt at.tick.clock.index pace.limit) (filled k pace (record { tick = next_tick pace at.tick; n = at.n + 1 }) (with_tick b at.n at.tick)) (at, b)

-- the carrier wrapped
abbrev pub wrapped : Ended → Ended
wrapped at = record { tick = record { clock = at.tick.clock; carrier = phase_wrap_once at.tick.carrier }; n = at.n }
