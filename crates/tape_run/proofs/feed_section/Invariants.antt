-- `feed_section` is safe, ends, and feeds its run noise that is cut as tape_theory/specs/PlainTape asks.
use Prim.Native.Nat.{◌+◌, ◌-◌, ◌*◌, ◌≤◌, min}
use mathlib.Core.Bool.{false}
use mathlib.Core.Logic.{◌⊎◌}
use mathlib.Core.Path.{◌≡◌}
use lib.ListN.{length}
use Rattle.tape_theory.proofs.Section.{Going}
use Rattle.tape_run.proofs.feed_section.Given as goal

abbrev pub invariant-loop-e : goal.invariant-loop-e
invariant-loop-e l =
    (l.want ≤ l.left) × (l.want ≤ 16384) × (length l.memory ≡ length l.initial.memory) × (length l.records ≡ length l.initial.records) × ((l.want ≡ 0) ⊎ (l.want ≡ min l.left 16384))
    × Going l.prototypes.mode_s.now l.prototypes.mode_ac.now l.draws (record { feed = l.initial.f; memory = l.initial.memory; records = l.initial.records }) l.count 1 l.left false (record { feed = l.f; memory = l.memory; records = l.records })

abbrev pub decreases-loop-e : goal.decreases-loop-e
decreases-loop-e l =
    2 * l.left + (1 - l.want)
