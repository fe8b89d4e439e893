-- The steps of the search for a record at fault: the records from k on, of n, decide as all do.
use Rattle.std.specs.Prelude.{Option, Some, None}
use Prim.Native.Nat.{ℕ, suc, ◌+◌, ◌-◌, ◌*◌, ◌≤◌, ◌<◌}
use mathlib.Core.Path.{◌≡◌, sym, ap, ◌∙◌}
use mathlib.Core.Bool.{Bool, true, false, cond}
use mathlib.Core.List.{List}
use native.Mathlib.Omega.{arith}
use lib.ListN.{length, drop, take, length-drop}
use lib.Seq.{take_all, drop-drop}
use Rattle.record_check.specs.Accepted.{accepted}
use Rattle.record_check.specs.FirstFault.{fault_from}
use Rattle.record_check.specs.FaultLaws.{record_at}

-- the bytes that the code passes on
passed : (records : List ℕ) (k : ℕ) → take (length records - k * 66) (drop (k * 66) records) ≡ record_at records k
passed records k =
    take_all (length records - k * 66) (drop (k * 66) records) (simp length-drop (omega arith))
    ∙ ap (λ (m : ℕ). drop m records) {x = k * 66} {y = 66 * k} (omega arith)

module _ (records : List ℕ) (n k : ℕ) (whole : Option ℕ) (h : k < n) {r : Bool} (e : r ≡ accepted (take (length records - k * 66) (drop (k * 66) records))) where
  step : fault_from (n - k) (record_at records k) k ≡ cond r (fault_from (n - (k + 1)) (record_at records (k + 1)) (k + 1)) (Some k)
  unfolding fault_from
  step =
      let m : n - k ≡ suc (n - (k + 1)) = omega arith in
      ap (λ (m : ℕ). fault_from m (record_at records k) k) m
      ∙ ap (λ (b : Bool). cond b (fault_from (n - (k + 1)) (drop 66 (record_at records k)) (k + 1)) (Some k)) (sym (e ∙ ap accepted (passed records k)))
      ∙ ap (λ (l : List ℕ). cond r (fault_from (n - (k + 1)) l (k + 1)) (Some k)) (drop-drop 66 (66 * k) records ∙ ap (λ (m : ℕ). drop m records) {x = 66 * k + 66} {y = 66 * (k + 1)} (omega arith))

  pub one_more : r ≡ true → fault_from (n - k) (record_at records k) k ≡ whole → fault_from (n - (k + 1)) (record_at records (k + 1)) (k + 1) ≡ whole
  one_more t i = sym (step ∙ ap (λ (b : Bool). cond b (fault_from (n - (k + 1)) (record_at records (k + 1)) (k + 1)) (Some k)) t) ∙ i

  pub found : r ≡ false → fault_from (n - k) (record_at records k) k ≡ whole → Some k ≡ whole
  found t i = sym (step ∙ ap (λ (b : Bool). cond b (fault_from (n - (k + 1)) (record_at records (k + 1)) (k + 1)) (Some k)) t) ∙ i

pub none_left : (records : List ℕ) (n k : ℕ) (whole : Option ℕ) → n ≤ k → fault_from (n - k) (record_at records k) k ≡ whole → None ≡ whole
unfolding fault_from
none_left records n k whole h i = let m : n - k ≡ 0 = omega arith in sym (ap (λ (m : ℕ). fault_from m (record_at records k) k) m) ∙ i
