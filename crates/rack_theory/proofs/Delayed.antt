-- Laws of the delayed list: its length, its numbers one by one, and that it only grows; and the parts of lists joined in order.
use mathlib.Core.Bool.{Bool, true, false}
use mathlib.Core.List.{List, [], ◌∷◌, ◌++◌, map, append_assoc}
use mathlib.Core.Path.{◌≡◌, refl, sym, ap, ◌∙◌}
use Prim.Native.Nat.{ℕ, zero, suc, ◌+◌, ◌*◌, ◌≤◌, ◌<◌}
use native.Mathlib.Nat.{zero-mul, suc-mul, mul-le-mul_right}
use native.Mathlib.Omega.{arith}
use borrow.Author.Tests.{ltb-true, ltb-false}
use lib.Dec.{ltb}
use lib.Ieee.{Float, nan, binary32, mul}
use lib.ListN.{length, get_or, take, drop, length-append, length-drop, take-append-drop, get_or-replicate, get_or-append}
use lib.Seq.{take-nil, length-take-le, take_all, take-take, take-append-le, drop-append-le, drop_at, get_or-take, get_or-append-add}
use Rattle.rack.specs.Feeds.{nought, silent, scaled, delayed}
use Rattle.rack.proofs.Lists.{length_silent, length_scaled, scaled_append}
use Rattle.rack_theory.specs.PlainRack.{in_order}

pub drop_take : {X : Type 0} (m n : ℕ) (l : List X) → drop m (take (m + n) l) ≡ take n (drop m l)
drop_take {X} zero n l = ap (λ (k : ℕ). take k l) {x = 0 + n} {y = n} (omega arith)
drop_take {X} (suc m) n [] = ap (drop (suc m)) (take-nil (suc m + n)) ∙ sym (take-nil n)
drop_take {X} (suc m) n (x ∷ l) = ap (λ (k : ℕ). drop (suc m) (take k (x ∷ l))) {x = suc m + n} {y = suc (m + n)} (omega arith) ∙ drop_take m n l

module _ (gain : Float) (delay : ℕ) where
  pub length_delayed : (xs : List Float) → length (delayed gain delay xs) ≡ length xs
  unfolding delayed
  length_delayed xs = length-take-le (length xs) (silent (2 * delay) ++ scaled gain xs) (omega (arith, length-append (silent (2 * delay)) (scaled gain xs), length_scaled gain xs))

  -- more samples change nothing of what is there
  pub first_part : (xs ys : List Float) → take (length xs) (delayed gain delay (xs ++ ys)) ≡ delayed gain delay xs
  unfolding delayed
  first_part xs ys =
      take-take (length xs) (length (xs ++ ys)) (silent (2 * delay) ++ scaled gain (xs ++ ys)) (omega (arith, length-append xs ys))
      ∙ ap (λ (l : List Float). take (length xs) (silent (2 * delay) ++ l)) (scaled_append gain xs ys)
      ∙ ap (take (length xs)) (sym (append_assoc (silent (2 * delay)) (scaled gain xs) (scaled gain ys)))
      ∙ take-append-le (length xs) (silent (2 * delay) ++ scaled gain xs) (scaled gain ys) (omega (arith, length-append (silent (2 * delay)) (scaled gain xs), length_scaled gain xs))

  pub grows : (xs ys : List Float) → delayed gain delay (xs ++ ys) ≡ delayed gain delay xs ++ drop (length xs) (delayed gain delay (xs ++ ys))
  grows xs ys = sym (take-append-drop (length xs) (delayed gain delay (xs ++ ys))) ∙ ap (λ (l : List Float). l ++ drop (length xs) (delayed gain delay (xs ++ ys))) (first_part xs ys)

  pub length_new : (xs ys : List Float) → length (drop (length xs) (delayed gain delay (xs ++ ys))) ≡ length ys
  length_new xs ys = omega (arith, length-drop (length xs) (delayed gain delay (xs ++ ys)), length_delayed (xs ++ ys), length-append xs ys)

  -- the new parts of two calls are the new part of both
  pub joined : (xs ys zs : List Float) → drop (length xs) (delayed gain delay (xs ++ ys)) ++ drop (length (xs ++ ys)) (delayed gain delay (xs ++ ys ++ zs)) ≡ drop (length xs) (delayed gain delay (xs ++ (ys ++ zs)))
  joined xs ys zs =
      sym (drop-append-le (length xs) (delayed gain delay (xs ++ ys)) (drop (length (xs ++ ys)) (delayed gain delay (xs ++ ys ++ zs))) (omega (arith, length_delayed (xs ++ ys), length-append xs ys)))
      ∙ ap (drop (length xs)) (sym (grows (xs ++ ys) zs))
      ∙ ap (λ (l : List Float). drop (length xs) (delayed gain delay l)) (append_assoc xs ys zs)

  -- ---- number by number (SPECIFICATION 15.2): 0.0 before the delay, then the gain times the number as far back
  pub before : (xs : List Float) (k : ℕ) → k < length xs → k < 2 * delay → get_or (delayed gain delay xs) k nan ≡ nought
  unfolding delayed silent
  before xs k h b =
      get_or-take (length xs) (silent (2 * delay) ++ scaled gain xs) k nan h
      ∙ get_or-append (silent (2 * delay)) (scaled gain xs) nan k (omega (arith, length_silent (2 * delay)))
      ∙ get_or-replicate (2 * delay) k nought nan b

  pub after : (xs : List Float) (k : ℕ) → 2 * delay + k < length xs → get_or (delayed gain delay xs) (2 * delay + k) nan ≡ mul binary32 gain (get_or xs k nan)
  unfolding delayed
  after xs k h =
      get_or-take (length xs) (silent (2 * delay) ++ scaled gain xs) (2 * delay + k) nan h
      ∙ ap (λ (n : ℕ). get_or (silent (2 * delay) ++ scaled gain xs) (n + k) nan) (sym (length_silent (2 * delay)))
      ∙ get_or-append-add (silent (2 * delay)) (scaled gain xs) k nan
      ∙ get_d_scaled xs k (omega arith)
    where
      get_d_scaled : (l : List Float) (j : ℕ) → j < length l → get_or (scaled gain l) j nan ≡ mul binary32 gain (get_or l j nan)
      get_d_scaled l j g = unfold scaled in get_d_mapped l j g
        where
          get_d_mapped : (l : List Float) (j : ℕ) → j < length l → get_or (map (λ x. mul binary32 gain x) l) j nan ≡ mul binary32 gain (get_or l j nan)
          get_d_mapped [] j g = absurd (omega arith)
          get_d_mapped (x ∷ l) zero g = refl
          get_d_mapped (x ∷ l) (suc j) g = get_d_mapped l j (omega arith)

-- ---- lists of one length, joined in order
module _ (f : ℕ → List Float) (n : ℕ) (h : (i : ℕ) → length (f i) ≡ n) where
  length_order : (k : ℕ) → length (in_order f k) ≡ k * n
  length_order zero = sym (zero-mul n)
  length_order (suc k) = omega (arith, length-append (in_order f k) (f k), length_order k, h k, suc-mul k n)

  part_by : (k i : ℕ) (t : Bool) → ltb i k ≡ t → i < suc k → (i < k → take n (drop (i * n) (in_order f k)) ≡ f i) → take n (drop (i * n) (in_order f k ++ f k)) ≡ f i
  part_by k i true e g p =
      let l : suc i * n ≤ k * n = mul-le-mul_right {m = suc i} {n = k} n (ltb-true i k e) in
      ap (take n) (drop-append-le (i * n) (in_order f k) (f k) (omega (arith, l, suc-mul i n, length_order k)))
      ∙ take-append-le n (drop (i * n) (in_order f k)) (f k) (omega (arith, l, suc-mul i n, length_order k, length-drop (i * n) (in_order f k)))
      ∙ p (ltb-true i k e)
  part_by k i false e g p =
      let s : i ≡ k = omega (arith, ltb-false i k e) in
      ap (take n) (drop_at (in_order f k) (f k) (i * n) (length_order k ∙ ap (λ (m : ℕ). m * n) (sym s)))
      ∙ take_all n (f k) (omega (arith, h k))
      ∙ ap f (sym s)

  pub part : (k i : ℕ) → i < k → take n (drop (i * n) (in_order f k)) ≡ f i
  part zero i g = absurd (omega arith)
  part (suc k) i g = part_by k i (ltb i k) refl g (λ below. part k i below)
