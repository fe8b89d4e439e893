-- The filterbank's clock and the carrier's phase before each sample, from a first one on, and what a block of them leaves.
use Rattle.std.specs.Prelude.{ℕ, zero, suc, cond, List, [], ◌∷◌, ◌++◌, length, map, drop, nat_lt}
use Rattle.std.specs.Float.{binary64}
use Rattle.std.specs.Float.Ieee.{add}
use Rattle.math.specs.Phase.{phase_wrap_once}
use Rattle.filterbank.specs.Clocked.{advance, in64}
use Rattle.block_values.specs.declared.Tick.{Tick}
use Rattle.block_values.specs.declared.Pace.{Pace}

-- a sample more
unfoldable pub next_tick : Pace → Tick → Tick
next_tick pace t = record { clock = in64 (advance pace.step t.clock); carrier = phase_wrap_once (add binary64 t.carrier pace.rate) }

-- at most n of them, until the index is the limit
unfoldable pub ticks : ℕ → Pace → Tick → List Tick
ticks zero pace t = []
ticks (suc n) pace t = cond (nat_lt t.clock.index pace.limit) (t ∷ ticks n pace (next_tick pace t)) []

-- the one after n samples
unfoldable pub tick_after : ℕ → Pace → Tick → Tick
tick_after zero pace t = t
tick_after (suc n) pace t = tick_after n pace (next_tick pace t)

-- what each tick gives, written over the first entries of a list
unfoldable pub written : {A : Type 0} → (Tick → A) → List Tick → List A → List A
written f ts old = map f ts ++ drop (length ts) old
