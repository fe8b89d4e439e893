-- Products written over a list, one more in each iteration.
use mathlib.Core.List.{List, ◌++◌}
use mathlib.Core.Path.{◌≡◌, sym, ap, ◌∙◌}
use Prim.Native.Nat.{ℕ, ◌+◌, ◌≤◌, ◌<◌}
use native.Mathlib.Omega.{arith}
use lib.Ieee.{Float, nan, binary32, mul}
use lib.ListN.{length, get_or, set, take, drop}
use Rattle.std.proofs.lemmas.List.{get_or-map}
use Rattle.rack.specs.Feeds.{scaled}
use Rattle.rack.proofs.Lists.{length_scaled}
use Rattle.rack.proofs.Rows.{copied_next, copied_end}

module _ (gain : Float) (from to whole : List Float) (i : ℕ) (e : to ≡ take i (scaled gain from) ++ drop i whole) where
  pub scaled_next : i < length from → i < length whole → set to i (mul binary32 gain (get_or from i nan)) ≡ take (i + 1) (scaled gain from) ++ drop (i + 1) whole
  unfolding scaled
  scaled_next h g = ap (set to i) (sym (get_or-map (mul binary32 gain) from i nan nan h)) ∙ copied_next (scaled gain from) to whole i nan (omega (arith, length_scaled gain from)) g e

  pub scaled_end : length from ≤ i → length whole ≤ i → to ≡ scaled gain from
  scaled_end h g = copied_end (scaled gain from) to whole i (omega (arith, length_scaled gain from)) g e
