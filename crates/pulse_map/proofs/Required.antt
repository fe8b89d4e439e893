-- The most samples of a number of pulses, as the code computes them.
use mathlib.Core.Path.{◌≡◌, refl}
use Prim.Native.Nat.{ℕ, zero, suc, ◌+◌, ◌-◌, ◌*◌, ◌/◌, ◌≤◌}
use native.Mathlib.Nat.{mul-le-mul}
use native.Mathlib.Omega.{arith}
use Rattle.constants.specs.Rate.{required_samples}

pub none : (sps n : ℕ) → n ≡ 0 → 0 ≡ required_samples sps n
none sps zero e = refl
none sps (suc n) e = absurd (omega arith)

pub some : (sps n k : ℕ) → (n ≡ 0 → ⊥) → k ≡ sps → ((n + 6) * k * 10 + 8) / 9 ≡ required_samples sps n
some sps zero k h e = absurd (h refl)
some sps (suc n) k h e = λ i. (reach n i * e i * 10 + 8) / 9
  where
    reach : (n : ℕ) → suc n + 6 ≡ suc n + 7 - 1
    reach n = omega arith

pub product_room : (n k : ℕ) → n ≤ 240 → k ≤ 8 → (n + 6) * k ≤ 1968
product_room n k h l = let a : n + 6 ≤ 246 = omega arith in mul-le-mul a l
