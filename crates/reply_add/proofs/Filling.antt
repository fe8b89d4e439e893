-- The limit of a wave's indices, and that below it an index does not wrap.
use Prim.Native.Nat.{ℕ, zero, suc, ◌+◌, ◌^◌, ◌<◌}
use native.Mathlib.Nat.{mod-eq_of_lt}
use native.Mathlib.Omega.{arith}
use mathlib.Core.Path.{◌≡◌, refl, ap}
use mathlib.Core.Bool.{Bool, true, false}
use lib.Ieee.{Float, binary64, add, le}
use Rattle.filterbank.specs.declared.Clock.{Clock}
use Rattle.filterbank.specs.Clocked.{one, advance, settle, in64}
use Rattle.filterbank.specs.Apply.{limit_of}

pub limit_some : (n : ℕ) → (n ≡ 0 → ⊥) → n + 6 ≡ limit_of n
limit_some zero h = absurd (h refl)
limit_some (suc n) h = refl

-- an index below the indices of a reply does not wrap
abbrev clock_at : Float → ℕ → Clock
clock_at p i = record { phase = p; index = i }

pub in64_idle : (d : Float) (s : Clock) → s.index < 246 → in64 (advance d s) ≡ advance d s
unfolding advance settle
in64_idle d s h = go (le one (add binary64 s.phase d))
  where
    below : (i : ℕ) → i < 246 → i + 1 < 2 ^ 64
    below i h = omega arith

    still : (i : ℕ) → i < 246 → i < 2 ^ 64
    still i h = omega arith

    go : (b : Bool) → in64 (settle b (add binary64 s.phase d) s.index) ≡ settle b (add binary64 s.phase d) s.index
    go true = ap (clock_at _) (mod-eq_of_lt (below s.index h))
    go false = ap (clock_at _) (mod-eq_of_lt (still s.index h))
