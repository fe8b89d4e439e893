-- Flat lists, as callers pass them: pairs, joins, draws cut from bytes, and buffers with something written at their start.
use mathlib.Core.List.{List, [], ◌∷◌, ◌++◌, append_assoc}
use mathlib.Core.Path.{◌≡◌, refl, sym, ap, ◌∙◌}
use Prim.Native.Nat.{ℕ, zero, suc, ◌+◌, ◌-◌, ◌*◌, ◌/◌, ◌≤◌, ◌<◌}
use native.Mathlib.Nat.{mul-suc, add-div_right, div-eq_of_lt}
use native.Mathlib.Numerals.{add-one}
use native.Mathlib.Omega.{arith}
use lib.ListN.{set, get_or, replicate, length, take, drop, length-append, length-drop, drop_of_length-le}
use lib.Seq.{length-take-le, drop-drop, drop-cons, set_at, get_or-append-add, get_or-drop, take_at, drop_at}
use Rattle.run_theory.specs.Generator.{Generator, Pair}
use Rattle.run_theory.specs.PlainBench.{pairs, flatten, join, over, cut, draws_of}
use Rattle.le_read.specs.LeBytes.{overwritten}

module _ {X : Type 0} where
  pub length_flatten : (l : List (Pair X)) → length (flatten l) ≡ 2 * length l
  length_flatten [] = refl
  length_flatten (a ∷ l) = omega (arith, length_flatten l)

  pub flatten_append : (l k : List (Pair X)) → flatten (l ++ k) ≡ flatten l ++ flatten k
  flatten_append [] k = refl
  flatten_append (a ∷ l) k = ap (λ (x : List X). a.re ∷ a.im ∷ x) (flatten_append l k)

  pub pairs_flatten : (l : List (Pair X)) → pairs (flatten l) ≡ l
  pairs_flatten [] = refl
  pairs_flatten (a ∷ l) = ap (λ (x : List (Pair X)). a ∷ x) (pairs_flatten l)

  -- numbers of an even count are their pairs
  pub flatten_pairs : (n : ℕ) (xs : List X) → length xs ≡ 2 * n → flatten (pairs xs) ≡ xs
  flatten_pairs n [] h = refl
  flatten_pairs n (x ∷ []) h = absurd (omega arith)
  flatten_pairs zero (x ∷ y ∷ xs) h = absurd (omega arith)
  flatten_pairs (suc n) (x ∷ y ∷ xs) h = ap (λ (l : List X). x ∷ y ∷ l) (flatten_pairs n xs (omega arith))

  -- pairs as numbers, and any numbers after them
  pub pairs_after : (l : List (Pair X)) (xs : List X) → pairs (flatten l ++ xs) ≡ l ++ pairs xs
  pairs_after [] xs = refl
  pairs_after (a ∷ l) xs = ap (λ (x : List (Pair X)). a ∷ x) (pairs_after l xs)

  pub length_pairs : (xs : List X) → length (pairs xs) ≡ length xs / 2
  length_pairs [] = omega arith
  length_pairs (x ∷ []) = omega arith
  length_pairs (x ∷ y ∷ xs) = omega (arith, length_pairs xs)

  pub pairs_drop : (n : ℕ) (xs : List X) → pairs (drop (2 * n) xs) ≡ drop n (pairs xs)
  pairs_drop zero xs = refl
  pairs_drop (suc n) [] = ap (λ (l : List X). pairs l) (drop_of_length-le [] {i = 2 * suc n} (omega arith))
  pairs_drop (suc n) (x ∷ []) = ap (λ (l : List X). pairs l) (drop_of_length-le (x ∷ []) {i = 2 * suc n} (omega arith))
  pairs_drop (suc n) (x ∷ y ∷ xs) = ap (λ (k : ℕ). pairs (drop k (x ∷ y ∷ xs))) {x = 2 * suc n} {y = suc (suc (2 * n))} (omega arith) ∙ pairs_drop n xs

  -- the numbers that a first part of the pairs was made of
  pub take_pairs : (us ws : List (Pair X)) (xs : List X) → pairs xs ≡ us ++ ws → take (2 * length us) xs ≡ flatten us
  take_pairs [] ws xs e = refl
  take_pairs (u ∷ us) ws [] e = let z : ◌≡◌ {A = ℕ} 0 1 = cc in absurd (omega arith)
  take_pairs (u ∷ us) ws (x ∷ []) e = let z : ◌≡◌ {A = ℕ} 0 1 = cc in absurd (omega arith)
  take_pairs (u ∷ us) ws (x ∷ y ∷ xs) e =
      ap (λ (k : ℕ). take k (x ∷ y ∷ xs)) {x = 2 * suc (length us)} {y = suc (suc (2 * length us))} (omega arith)
      ∙ ap (λ (p : Pair X). p.re ∷ p.im ∷ take (2 * length us) xs) head
      ∙ ap (λ (l : List X). u.re ∷ u.im ∷ l) (take_pairs us ws xs tail)
    where
      head : record { re = x; im = y } ≡ u
      head = cc

      tail : pairs xs ≡ us ++ ws
      tail = cc

  pub join_append : (l k : List (List X)) → join (l ++ k) ≡ join l ++ join k
  join_append [] k = refl
  join_append (x ∷ l) k = ap (λ (y : List X). x ++ y) (join_append l k) ∙ sym (append_assoc x (join l) (join k))

  -- lines of one length
  abbrev pub AllOf : ℕ → List (List X) → Type 0
  AllOf n [] = Unit {0}
  AllOf n (l ∷ ls) = (length l ≡ n) × AllOf n ls

  pub length_join : (n : ℕ) (ls : List (List X)) → AllOf n ls → length (join ls) ≡ n * length ls
  length_join n [] h = omega arith
  length_join n (l ∷ ls) h = length-append l (join ls) ∙ omega (arith, h.0, length_join n ls h.1, mul-suc n (length ls))

  -- what was written at the start of a buffer, and what is beyond it
  pub take_over : (n : ℕ) (xs buffer : List X) → length xs ≡ n → take n (over xs buffer) ≡ xs
  take_over n xs buffer h = take_at xs (drop (length xs) buffer) n h

  pub drop_over : (n : ℕ) (xs buffer : List X) → length xs ≡ n → drop n (over xs buffer) ≡ drop n buffer
  drop_over n xs buffer h = drop_at xs (drop (length xs) buffer) n h ∙ ap (λ (k : ℕ). drop k buffer) h

  pub length_over : (xs buffer : List X) → length xs ≤ length buffer → length (over xs buffer) ≡ length buffer
  length_over xs buffer h = length-append xs (drop (length xs) buffer) ∙ omega (arith, length-drop (length xs) buffer)

-- ---- a buffer with xs written at an offset
module _ {X : Type 0} where
  -- as its definition has it, and with what is from the offset on in one
  in_front : (at : ℕ) (xs buffer : List X) → overwritten buffer at xs ≡ (take at buffer ++ xs) ++ drop (at + length xs) buffer
  unfolding overwritten
  in_front at xs buffer = refl

  pub behind : (at : ℕ) (xs buffer : List X) → overwritten buffer at xs ≡ take at buffer ++ (xs ++ drop (at + length xs) buffer)
  behind at xs buffer = in_front at xs buffer ∙ append_assoc (take at buffer) xs (drop (at + length xs) buffer)

  pub length_overwritten : (at : ℕ) (xs buffer : List X) → at + length xs ≤ length buffer → length (overwritten buffer at xs) ≡ length buffer
  length_overwritten at xs buffer h =
      ap length (behind at xs buffer)
      ∙ length-append (take at buffer) (xs ++ drop (at + length xs) buffer)
      ∙ omega (arith, length-take-le at buffer (omega arith), length-append xs (drop (at + length xs) buffer), length-drop (at + length xs) buffer)

  -- one part after another is both at once
  pub overwritten_overwritten : (at n : ℕ) (xs ys buffer : List X) → length xs ≡ n → at + n ≤ length buffer → overwritten (overwritten buffer at xs) (at + n) ys ≡ overwritten buffer at (xs ++ ys)
  overwritten_overwritten at n xs ys buffer e h =
      behind (at + n) ys (overwritten buffer at xs)
      ∙ (λ i. front i ++ (ys ++ back i))
      ∙ append_assoc (take at buffer) xs (ys ++ drop (at + length (xs ++ ys)) buffer)
      ∙ ap (λ (l : List X). take at buffer ++ l) (sym (append_assoc xs ys (drop (at + length (xs ++ ys)) buffer)))
      ∙ sym (behind at (xs ++ ys) buffer)
    where
      len : length (take at buffer ++ xs) ≡ at + n
      len = length-append (take at buffer) xs ∙ omega (arith, length-take-le at buffer (omega arith))

      front : take (at + n) (overwritten buffer at xs) ≡ take at buffer ++ xs
      front = ap (λ (l : List X). take (at + n) l) (in_front at xs buffer) ∙ take_at (take at buffer ++ xs) (drop (at + length xs) buffer) (at + n) len

      back : drop (at + n + length ys) (overwritten buffer at xs) ≡ drop (at + length (xs ++ ys)) buffer
      back =
          sym (drop-drop (length ys) (at + n) (overwritten buffer at xs))
          ∙ ap (λ (l : List X). drop (length ys) l) (ap (λ (l : List X). drop (at + n) l) (in_front at xs buffer) ∙ drop_at (take at buffer ++ xs) (drop (at + length xs) buffer) (at + n) len)
          ∙ drop-drop (length ys) (at + length xs) buffer
          ∙ ap (λ (k : ℕ). drop k buffer) {x = at + length xs + length ys} {y = at + length (xs ++ ys)} (omega (arith, length-append xs ys))

  -- the first 2n of numbers, in pairs, and the pairs of the rest
  pub pairs_split : (n : ℕ) (xs : List X) → 2 * n ≤ length xs → (pairs xs ≡ pairs (take (2 * n) xs) ++ pairs (drop (2 * n) xs)) × (length (pairs (take (2 * n) xs)) ≡ n)
  pairs_split zero xs h = (refl, refl)
  pairs_split (suc n) [] h = absurd (omega arith)
  pairs_split (suc n) (x ∷ []) h = absurd (omega arith)
  pairs_split (suc n) (x ∷ y ∷ xs) h = on (pairs_split n xs (omega arith))
    where
      q : suc (suc (2 * n)) ≡ 2 * suc n
      q = omega arith

      on : (pairs xs ≡ pairs (take (2 * n) xs) ++ pairs (drop (2 * n) xs)) × (length (pairs (take (2 * n) xs)) ≡ n)
          → (pairs (x ∷ y ∷ xs) ≡ pairs (take (2 * suc n) (x ∷ y ∷ xs)) ++ pairs (drop (2 * suc n) (x ∷ y ∷ xs))) × (length (pairs (take (2 * suc n) (x ∷ y ∷ xs))) ≡ suc n)
      on r = (
        ap (λ (l : List (Pair X)). record { re = x; im = y } ∷ l) r.0 ∙ (λ i. pairs (take (q i) (x ∷ y ∷ xs)) ++ pairs (drop (q i) (x ∷ y ∷ xs))),
        (λ i. length (pairs (take (sym q i) (x ∷ y ∷ xs)))) ∙ ap suc r.1,
      )

  pub pairs_none : (xs : List X) → length xs < 2 → pairs xs ≡ []
  pairs_none [] h = refl
  pairs_none (x ∷ []) h = refl
  pairs_none (x ∷ y ∷ xs) h = absurd (omega arith)

  -- one more after a part
  pub overwritten_snoc : (at n : ℕ) (xs buffer : List X) (v : X) → length xs ≡ n → at + n < length buffer → set (overwritten buffer at xs) (at + n) v ≡ overwritten buffer at (xs ++ (v ∷ []))
  overwritten_snoc at n xs buffer v e h =
      ap (λ (l : List X). set l (at + n) v) (in_front at xs buffer ∙ ap (λ (l : List X). (take at buffer ++ xs) ++ l) (ap (λ (k : ℕ). drop (at + k) buffer) e ∙ drop-cons buffer (at + n) v h))
      ∙ set_at (take at buffer ++ xs) (get_or buffer (at + n) v) (drop (suc (at + n)) buffer) v (at + n) (length-append (take at buffer) xs ∙ omega (arith, length-take-le at buffer (omega arith)))
      ∙ append_assoc (take at buffer) xs (v ∷ drop (suc (at + n)) buffer)
      ∙ ap (λ (l : List X). take at buffer ++ l) (sym (append_assoc xs (v ∷ []) (drop (suc (at + n)) buffer)))
      ∙ ap (λ (k : ℕ). take at buffer ++ ((xs ++ (v ∷ [])) ++ drop k buffer)) {x = suc (at + n)} {y = at + length (xs ++ (v ∷ []))} (omega (arith, length-append xs (v ∷ [])))
      ∙ sym (behind at (xs ++ (v ∷ [])) buffer)

  -- what is beyond a part is as it was
  pub overwritten_beyond : (at n k : ℕ) (xs buffer : List X) (d : X) → length xs ≡ n → at + n ≤ length buffer → get_or (overwritten buffer at xs) (at + n + k) d ≡ get_or buffer (at + n + k) d
  overwritten_beyond at n k xs buffer d e h =
      ap (λ (l : List X). get_or l (at + n + k) d) (in_front at xs buffer ∙ ap (λ (i : ℕ). (take at buffer ++ xs) ++ drop (at + i) buffer) e)
      ∙ ap (λ (i : ℕ). get_or ((take at buffer ++ xs) ++ drop (at + n) buffer) (i + k) d) (sym (length-append (take at buffer) xs ∙ omega (arith, length-take-le at buffer (omega arith))))
      ∙ get_or-append-add (take at buffer ++ xs) (drop (at + n) buffer) k d
      ∙ get_or-drop (at + n) buffer k d

  pub replicate_snoc : (n : ℕ) (a : X) → replicate n a ++ (a ∷ []) ≡ replicate (suc n) a
  replicate_snoc zero a = refl
  replicate_snoc (suc n) a = ap (λ (l : List X). a ∷ l) (replicate_snoc n a)

module _ (G : Generator) where
  open G use {Byte, draw_bytes, draw_at}

  -- draws from bytes: none where fewer than a draw's bytes are left, else the first and those of the rest
  pub draws_none : (bytes : List Byte) → length bytes < draw_bytes → draws_of G bytes ≡ []
  draws_none bytes h = ap (λ (n : ℕ). cut G n bytes) (div-eq_of_lt h)

  length_cut : (n : ℕ) (bytes : List Byte) → length (cut G n bytes) ≡ n
  length_cut zero bytes = refl
  length_cut (suc n) bytes = ap suc (length_cut n (drop draw_bytes bytes))

  pub length_draws : (bytes : List Byte) → length (draws_of G bytes) ≡ length bytes / draw_bytes
  length_draws bytes = length_cut (length bytes / draw_bytes) bytes

  pub draws_cons : (bytes : List Byte) → 0 < draw_bytes → draw_bytes ≤ length bytes → draws_of G bytes ≡ draw_at bytes ∷ draws_of G (drop draw_bytes bytes)
  draws_cons bytes pos h =
      ap (λ (n : ℕ). cut G n bytes) (ap (λ (n : ℕ). n / draw_bytes) {x = length bytes} {y = length bytes - draw_bytes + draw_bytes} (omega arith) ∙ add-div_right (length bytes - draw_bytes) pos ∙ add-one ((length bytes - draw_bytes) / draw_bytes))
      ∙ ap (λ (n : ℕ). draw_at bytes ∷ cut G (n / draw_bytes) (drop draw_bytes bytes)) (sym (length-drop draw_bytes bytes))
