-- As many numbers of each list name nobody as entries or records are left over.
use Rattle.std.specs.Prelude.{Option, Some, None}
use mathlib.Core.Path.{◌≡◌, refl, sym, ap, ◌∙◌}
use mathlib.Core.Bool.{Bool, true, false, cond}
use mathlib.Core.List.{List, [], ◌∷◌}
use Prim.Native.Nat.{ℕ, zero, suc, ◌+◌, ◌≤◌}
use native.Mathlib.Omega.{arith}
use lib.Dec.{eqb}
use lib.ListN.{length}
use borrow.Author.Tests.{ne_eqb, eq-eqb}
use Rattle.std.specs.Option.{unwrap_or}
use Rattle.log_theory.specs.Pairing.{Logs, without, every, shown, pairs_of}
use Rattle.log_theory.specs.Report.{nobody, indices, entry_of, entries_from, unnamed, left, tally, unsent}
use Rattle.log_theory.proofs.Basics.{without_other}
use Rattle.log_theory.proofs.Best.{Fits, equal_or_not, greedy_fits}
use Rattle.log_theory.proofs.Lists.{greedy_long}

module _ (L : Logs) where
  -- ---- entries
  entries : (F : ℕ → Bool) (i : ℕ) (ps : List (Option ℕ)) → L.sent ≤ nobody → Fits L F i ps → unsent ps ≡ unnamed (indices ps)
  entries F i [] few h = refl
  entries F i (None ∷ ps) few h = ap (λ (n : ℕ). 1 + n) (entries F (suc i) ps few h)
  entries F i (Some g ∷ ps) few h =
      ap (λ (n : ℕ). 0 + n) (entries (without g F) (suc i) ps few h.2)
      ∙ sym (ap (λ (t : Bool). cond t 1 0 + unnamed (indices ps)) (ne_eqb g nobody (λ e. omega (arith, h.0))))

  pub entries_unnamed : L.sent ≤ nobody → unsent (shown L) ≡ unnamed (indices (shown L))
  entries_unnamed few = entries every 0 (shown L) few (greedy_fits L every L.heard 0)

  -- ---- records
  stays_taken : (G : ℕ → Bool) (ps : List (Option ℕ)) (j : ℕ) → G j ≡ false → left G ps j ≡ false
  stays_taken G [] j e = e
  stays_taken G (None ∷ ps) j e = stays_taken G ps j e
  stays_taken G (Some g ∷ ps) j e = stays_taken (without g G) ps j (go (eqb g j))
    where
      go : (t : Bool) → cond t false (G j) ≡ false
      go true = refl
      go false = e

  -- a record that was free is still free exactly where no entry has it
  free_still : (F : ℕ → Bool) (i : ℕ) (ps : List (Option ℕ)) (j : ℕ) → i + length ps ≤ nobody → F j ≡ true → left F ps j ≡ eqb (unwrap_or (entry_of (pairs_of i ps) j) nobody) nobody
  free_still F i [] j few e = e ∙ sym (eq-eqb nobody nobody refl)
  free_still F i (None ∷ ps) j few e = free_still F (suc i) ps j (omega arith) e
  free_still F i (Some g ∷ ps) j few e =
      equal_or_not g j (left (without g F) ps j ≡ eqb (unwrap_or (cond (eqb g j) (Some i) (entry_of (pairs_of (suc i) ps) j)) nobody) nobody)
      (λ q.
      stays_taken (without g F) ps j (ap (λ (t : Bool). cond t false (F j)) (eq-eqb g j q))
      ∙ sym (ap (λ (t : Bool). eqb (unwrap_or (cond t (Some i) (entry_of (pairs_of (suc i) ps) j)) nobody) nobody) (eq-eqb g j q) ∙ ne_eqb i nobody (λ z. omega arith)))
      (λ n.
      free_still (without g F) (suc i) ps j (omega arith) (without_other g j F n ∙ e)
      ∙ sym (ap (λ (t : Bool). eqb (unwrap_or (cond t (Some i) (entry_of (pairs_of (suc i) ps) j)) nobody) nobody) (ne_eqb g j n)))

-- counted from the first on, and from the last one back
upwards : (ℕ → Bool) → ℕ → ℕ → ℕ
upwards F zero j = 0
upwards F (suc n) j = cond (F j) 1 0 + upwards F n (suc j)

last_of : (F : ℕ → Bool) (n j : ℕ) → upwards F (suc n) j ≡ cond (F (j + n)) 1 0 + upwards F n j
unfolding upwards
last_of F zero j =
    let e : j ≡ j + 0 = omega arith in
    ap (λ (k : ℕ). cond (F k) 1 0 + 0) e
last_of F (suc n) j =
    let e : suc j + n ≡ j + suc n = omega arith in
    ap (λ (k : ℕ). cond (F j) 1 0 + k) (last_of F n (suc j) ∙ ap (λ (k : ℕ). cond (F k) 1 0 + upwards F n (suc j)) e)
    ∙ swap (cond (F j) 1 0) (cond (F (j + suc n)) 1 0) (upwards F n (suc j))
  where
    swap : (a b c : ℕ) → a + (b + c) ≡ b + (a + c)
    swap a b c = omega arith

downwards : (F : ℕ → Bool) (n : ℕ) → tally n F ≡ upwards F n 0
unfolding upwards
downwards F zero = refl
downwards F (suc n) =
    let e : n ≡ 0 + n = omega arith in
    ap (λ (k : ℕ). cond (F n) 1 0 + k) (downwards F n) ∙ ap (λ (k : ℕ). cond (F k) 1 0 + upwards F n 0) e ∙ sym (last_of F n 0)

module _ (L : Logs) where
  listed : (few : L.heard ≤ nobody) (n j : ℕ) → upwards (left every (shown L)) n j ≡ unnamed (entries_from (pairs_of 0 (shown L)) n j)
  unfolding upwards entries_from
  listed few zero j = refl
  listed few (suc n) j =
      ap (λ (t : Bool). cond t 1 0 + upwards (left every (shown L)) n (suc j)) (free_still L every 0 (shown L) j (omega (arith, greedy_long L every L.heard 0)) refl)
      ∙ ap (λ (k : ℕ). cond (eqb (unwrap_or (entry_of (pairs_of 0 (shown L)) j) nobody) nobody) 1 0 + k) (listed few n (suc j))

  pub records_unnamed : L.heard ≤ nobody → tally L.sent (left every (shown L)) ≡ unnamed (entries_from (pairs_of 0 (shown L)) L.sent 0)
  records_unnamed few = downwards (left every (shown L)) L.sent ∙ listed few L.sent 0
