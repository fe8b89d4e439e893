-- Entries that are accepted, one turn of the search after the other.
use mathlib.Core.Path.{◌≡◌, ap, ◌∙◌}
use mathlib.Core.Bool.{Bool, true, false, ◌&&◌}
use mathlib.Core.List.{List}
use Prim.Native.Nat.{ℕ, suc, ◌+◌, ◌-◌, ◌/◌, ◌≤◌, ◌<◌}
use native.Mathlib.Omega.{arith}
use lib.ListN.{length}
use Rattle.log_compare.specs.LogChecks.{entry_accepted, accepted_from, log_accepted}

pub accepted_start : (log : List ℕ) → accepted_from log (length log / 23 - 0) 0 ≡ log_accepted log
unfolding log_accepted
accepted_start log = ap (λ (x : ℕ). accepted_from log x 0) (less_none (length log / 23))
  where
    less_none : (n : ℕ) → n - 0 ≡ n
    less_none n = omega arith

module _ (log : List ℕ) (n k : ℕ) where
  turn : k < n → accepted_from log (n - k) k ≡ (entry_accepted log k && accepted_from log (n - (k + 1)) (k + 1))
  unfolding accepted_from
  turn h =
      let p : n - k ≡ suc (n - (k + 1)) = omega arith in
      ap (λ (x : ℕ). accepted_from log x k) p

  pub accepted_on : k < n → entry_accepted log k ≡ true → accepted_from log (n - k) k ≡ accepted_from log (n - (k + 1)) (k + 1)
  accepted_on h e = turn h ∙ ap (λ (t : Bool). t && accepted_from log (n - (k + 1)) (k + 1)) e

  pub accepted_off : k < n → entry_accepted log k ≡ false → accepted_from log (n - k) k ≡ false
  accepted_off h e = turn h ∙ ap (λ (t : Bool). t && accepted_from log (n - (k + 1)) (k + 1)) e

  pub accepted_end : n ≤ k → accepted_from log (n - k) k ≡ true
  unfolding accepted_from
  accepted_end h =
      let p : n - k ≡ 0 = omega arith in
      ap (λ (x : ℕ). accepted_from log x k) p
