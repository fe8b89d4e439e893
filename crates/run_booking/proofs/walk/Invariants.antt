-- `walk` meets its contract. The loop's invariant: records are at most as many as draws passed, and the walk over the draws from the k-th on is that over all.
use Prim.Native.Nat.{◌≤◌}
use mathlib.Core.Path.{◌≡◌}
use Rattle.run_theory.specs.PlainBench.{draws_of}
use Rattle.run_booking.specs.Walk.{walk_of}
use Rattle.run_booking.specs.Answered.{walk_generator}
use Rattle.run_booking.proofs.Turn.{from}
use Rattle.run_booking.proofs.walk.Given as goal

abbrev pub invariant-loop-k : goal.invariant-loop-k
invariant-loop-k l = (l.records ≤ l.k) × (from l.setting l.all l.delays l.total l.draws l.k l.records l.last ≡ walk_of (walk_generator l.setting l.all l.delays l.total) l.time (draws_of (walk_generator l.setting l.all l.delays l.total) l.draws))
