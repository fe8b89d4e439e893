-- The step after which a section has ended leaves the run fed as `FedCut` asks (`last_step`).
use Prim.Native.Nat.{ℕ, ◌≤◌}
use mathlib.Core.Bool.{Bool, false}
use mathlib.Core.List.{List}
use mathlib.Core.Path.{◌≡◌, refl}
use native.Mathlib.Omega.{arith}
use lib.ListN.{length, take}
use lib.Ieee.{Float}
use Rattle.tape_feed.specs.declared.Feed.{Feed}
use Rattle.tape_feed.specs.FeedModel.{fed_of}
use Rattle.tape_theory.specs.Fed.{Held}
use Rattle.tape_theory.specs.PlainTape.{FedCut}
use Rattle.tape_theory.proofs.Section.{Going, going_end, Turned, next_step}

pub last_step : {mode_s mode_ac : List Float} {draws : List ℕ} {d : Held} {count left left' want n : ℕ} {short : Bool} {f f' : Feed} {memory memory' : List Float} {records records' : List ℕ} (row output output' : List Float)
    → Going mode_s mode_ac draws d count 1 left false (record { feed = f; memory = memory; records = records }) → length output ≡ 16386 → n ≤ length row → n ≤ want → want ≤ 16384 → Turned n want left left' 0 short
    → record { feed = f'; memory = memory'; output = output'; records = records' } ≡ fed_of mode_s mode_ac draws (take n row) (record { feed = f; memory = memory; output = output; records = records })
    → FedCut mode_s mode_ac draws count d short (record { feed = f'; memory = memory'; records = records' })
last_step row output output' g long inside few most t e =
    going_end _ _ _ _ _ _ _ _ _ (next_step _ _ _ _ _ _ _ _ _ _ _ _ _ _ _ _ _ _ _ row output output' g (omega arith) long inside few most refl t e) refl (t.over refl)
