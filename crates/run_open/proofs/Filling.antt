-- A list written over another of its length stands in its place.
use Prim.Native.Nat.{min}
use mathlib.Core.Path.{◌≡◌, ap, ◌∙◌}
use mathlib.Core.List.{List, ◌++◌, append-nil}
use native.Mathlib.Omega.{arith}
use lib.Ieee.{Float}
use lib.ListN.{length, take, drop}
use lib.Seq.{take_all, drop-length}
use Rattle.run_open.specs.FillModel.{over}

-- a list of the same length takes the whole place
pub over_whole : (from to : List Float) → length from ≡ length to → over from to ≡ from
unfolding over
over_whole from to e =
    (λ i. take (n i) from ++ drop (m i) to)
    ∙ ap (λ (l : List Float). take (length from) from ++ l) (drop-length to)
    ∙ append-nil (take (length from) from)
    ∙ take_all (length from) from (omega arith)
  where
    n : min (length from) (length to) ≡ length from
    n = omega arith

    m : min (length from) (length to) ≡ length to
    m = omega arith
