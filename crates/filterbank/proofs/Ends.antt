-- A clock that keeps to a grid ends by itself: its samples are at most `most`, and fuel beyond that is idle.
use Rattle.std.proofs.Common.{◌≡◌, ℕ, zero, suc, ◌+◌, ◌*◌, ◌<◌, ◌≤◌, Bool, true, false, cond, ltb, List, [], ◌∷◌, length, refl, ap, ◌∙◌, suc-add, arith, ltb-true}
use lib.Ieee.{Float}
use Rattle.filterbank.specs.declared.Clock.{Clock}
use Rattle.filterbank.specs.Clocked.{advance}
use Rattle.filterbank.specs.Apply.{clock_count, clock_values}
use Rattle.filterbank.proofs.Grid.{Grid, Stepping, Kept, kept_step, fewer}

-- the count is that of the values
pub count_values : (fuel limit : ℕ) (d : Float) (value : Clock → Float) (s : Clock) → length (clock_values fuel limit d value s) ≡ clock_count fuel limit d s
unfolding clock_count clock_values
count_values zero limit d value s = refl
count_values (suc fuel) limit d value s = go (ltb s.index limit) (count_values fuel limit d value (advance d s))
  where
    go : (b : Bool) → length (clock_values fuel limit d value (advance d s)) ≡ clock_count fuel limit d (advance d s)
        → length (cond b (value s ∷ clock_values fuel limit d value (advance d s)) []) ≡ cond b (suc (clock_count fuel limit d (advance d s))) 0
    go true e = ap suc e
    go false e = refl

stopped_count : (fuel limit : ℕ) (d : Float) (s : Clock) → ltb s.index limit ≡ false → clock_count fuel limit d s ≡ 0
unfolding clock_count
stopped_count zero limit d s e = refl
stopped_count (suc fuel) limit d s e = ap (λ (b : Bool). cond b (suc (clock_count fuel limit d (advance d s))) 0) e

stopped_values : (fuel limit : ℕ) (d : Float) (value : Clock → Float) (s : Clock) → ltb s.index limit ≡ false → clock_values fuel limit d value s ≡ []
unfolding clock_values
stopped_values zero limit d value s e = refl
stopped_values (suc fuel) limit d value s e = ap (λ (b : Bool). cond b (value s ∷ clock_values fuel limit d value (advance d s)) []) e

module _ (g : Grid) (d : Float) (S : Stepping g d) (limit most : ℕ) (m : g.cells * limit ≤ g.least * most) where
  -- n samples were made before, and the rest are at most what is left
  pub count_most : (fuel n : ℕ) (s : Clock) → Kept g n s → n ≤ most → n + clock_count fuel limit d s ≤ most
  unfolding clock_count
  count_most zero n s v h = omega arith
  count_most (suc fuel) n s v h = go (ltb s.index limit) (ltb-true s.index limit) (λ l. count_most fuel (suc n) (advance d s) (kept_step g n d s S v) l)
    where
      go : (b : Bool) → (b ≡ true → s.index < limit) → (suc n ≤ most → suc n + clock_count fuel limit d (advance d s) ≤ most) → n + cond b (suc (clock_count fuel limit d (advance d s))) 0 ≤ most
      go true t k = shift n (clock_count fuel limit d (advance d s)) most (k (fewer g n s limit most m v (t refl)))
        where
          shift : (n c m : ℕ) → suc n + c ≤ m → n + suc c ≤ m
          shift n c m h = omega arith
      go false t k = last n most h
        where
          last : (n m : ℕ) → n ≤ m → n + 0 ≤ m
          last n m h = omega arith

  at_end : (n : ℕ) (s : Clock) → Kept g n s → most ≤ n + 0 → ltb s.index limit ≡ false
  at_end n s v h = go (ltb s.index limit) (ltb-true s.index limit)
    where
      never : (n m : ℕ) → n < m → m ≤ n + 0 → ⊥
      never n m h k = omega arith

      go : (b : Bool) → (b ≡ true → s.index < limit) → b ≡ false
      go true t = absurd (never n most (fewer g n s limit most m v (t refl)) h)
      go false t = refl

  left : (f n : ℕ) → most ≤ n + suc f → most ≤ suc n + f
  left f n h = omega arith

  -- fuel beyond the samples that are left changes nothing
  pub count_idle : (fuel more n : ℕ) (s : Clock) → Kept g n s → most ≤ n + fuel → clock_count (fuel + more) limit d s ≡ clock_count fuel limit d s
  unfolding clock_count
  count_idle zero more n s v h = stopped_count (zero + more) limit d s (at_end n s v h)
  count_idle (suc fuel) more n s v h =
      ap (λ (x : ℕ). clock_count x limit d s) (suc-add fuel more)
      ∙ ap (λ (x : ℕ). cond (ltb s.index limit) (suc x) 0) (count_idle fuel more (suc n) (advance d s) (kept_step g n d s S v) (left fuel n h))

  pub values_idle : (value : Clock → Float) (fuel more n : ℕ) (s : Clock) → Kept g n s → most ≤ n + fuel → clock_values (fuel + more) limit d value s ≡ clock_values fuel limit d value s
  unfolding clock_values
  values_idle value zero more n s v h = stopped_values (zero + more) limit d value s (at_end n s v h)
  values_idle value (suc fuel) more n s v h =
      ap (λ (x : ℕ). clock_values x limit d value s) (suc-add fuel more)
      ∙ ap (λ (x : List Float). cond (ltb s.index limit) (value s ∷ x) []) (values_idle value fuel more (suc n) (advance d s) (kept_step g n d s S v) (left fuel n h))
