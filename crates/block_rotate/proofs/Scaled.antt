-- A row of values times its sines or cosines is that row of the block's.
use Rattle.std.proofs.Common.{◌≡◌, ℕ, zero, suc, ◌+◌, ◌-◌, ◌≤◌, min, List, [], ◌∷◌, map, length, replicate, refl, ap, ◌∙◌, arith}
use Rattle.std.proofs.lemmas.Simd.{zip2_splat_left}
use borrow.Rule.Slice.PartMut.{mid_of}
use lib.Lanes.{zip2, chunk}
use lib.Ieee.{Float, binary32, mul}
use Rattle.block_rotate.specs.BlockModel.{zip3, scaled_by}
use Rattle.floats.proofs.Rows.{row, read_row, length_row, row_of_zip2}

-- values times the amplitude, and then times a factor each
in_order : (a : Float) (vs xs : List Float) → zip2 (mul binary32) (map (mul binary32 a) vs) xs ≡ scaled_by a vs xs
unfolding scaled_by
in_order a [] xs = refl
in_order a (v ∷ vs) [] = refl
in_order a (v ∷ vs) (x ∷ xs) = ap (λ (l : List Float). mul binary32 (mul binary32 a v) x ∷ l) (in_order a vs xs)

pub length_scaled : (a : Float) (vs xs : List Float) → length (scaled_by a vs xs) ≡ min (length vs) (length xs)
unfolding scaled_by
length_scaled a [] xs = omega arith
length_scaled a (v ∷ vs) [] = omega arith
length_scaled a (v ∷ vs) (x ∷ xs) = let e = length_scaled a vs xs in omega (arith, e)

row_of_scaled : (r i : ℕ) (a : Float) (vs xs : List Float) → scaled_by a (row r i vs) (row r i xs) ≡ row r i (scaled_by a vs xs)
unfolding scaled_by
row_of_scaled r i a vs xs = row_of_zip2 (λ v x. mul binary32 (mul binary32 a v) x) r i vs xs

module _ (f : ℕ → Float → Float → Float) where
  pub length_zip3 : (ns : List ℕ) (xs ys : List Float) → length (zip3 f ns xs ys) ≡ min (length ns) (min (length xs) (length ys))
  unfolding zip3
  length_zip3 [] xs ys = omega arith
  length_zip3 (n ∷ ns) [] ys = omega arith
  length_zip3 (n ∷ ns) (x ∷ xs) [] = omega arith
  length_zip3 (n ∷ ns) (x ∷ xs) (y ∷ ys) = let e = length_zip3 ns xs ys in omega (arith, e)

  without_first : (ns : List ℕ) (ys : List Float) → zip3 f ns [] ys ≡ []
  unfolding zip3
  without_first [] ys = refl
  without_first (n ∷ ns) ys = refl

  without_second : (ns : List ℕ) (xs : List Float) → zip3 f ns xs [] ≡ []
  unfolding zip3
  without_second [] xs = refl
  without_second (n ∷ ns) [] = refl
  without_second (n ∷ ns) (x ∷ xs) = refl

  row_of_zip3 : (r i : ℕ) (ns : List ℕ) (xs ys : List Float) → zip3 f (row r i ns) (row r i xs) (row r i ys) ≡ row r i (zip3 f ns xs ys)
  unfolding zip3
  row_of_zip3 zero i ns xs ys = refl
  row_of_zip3 (suc r) zero [] xs ys = refl
  row_of_zip3 (suc r) zero (n ∷ ns) [] ys = refl
  row_of_zip3 (suc r) zero (n ∷ ns) (x ∷ xs) [] = refl
  row_of_zip3 (suc r) zero (n ∷ ns) (x ∷ xs) (y ∷ ys) = ap (λ (l : List Float). f n x y ∷ l) (row_of_zip3 r zero ns xs ys)
  row_of_zip3 (suc r) (suc i) [] xs ys = refl
  row_of_zip3 (suc r) (suc i) (n ∷ ns) [] ys = without_first (row (suc r) i ns) (row (suc r) (suc i) ys)
  row_of_zip3 (suc r) (suc i) (n ∷ ns) (x ∷ xs) [] = without_second (row (suc r) i ns) (row (suc r) i xs)
  row_of_zip3 (suc r) (suc i) (n ∷ ns) (x ∷ xs) (y ∷ ys) = row_of_zip3 (suc r) i ns xs ys

  -- what the loop reads of a list of 32 at i, and makes of it
  module _ (a : Float) (ns : List ℕ) (vs xs ys : List Float) (i : ℕ) (h : i + 8 ≤ 32) where
    abbrev read : {A : Type 0} → List A → List A
    read l = chunk 0 8 (mid_of i (32 - i) l)

    pub row_scaled : (t : List Float) → length vs ≡ 32 → t ≡ zip3 f (read ns) (read xs) (read ys) → zip2 (mul binary32) (zip2 (mul binary32) (replicate 8 a) (read vs)) t ≡ row 8 i (scaled_by a vs (zip3 f ns xs ys))
    row_scaled t l e =
        (λ k. zip2 (mul binary32) (zip2 (mul binary32) (replicate 8 a) (read_row 8 i 32 vs h k)) (e k))
        ∙ ap (λ (p : List Float). zip2 (mul binary32) p (zip3 f (read ns) (read xs) (read ys))) (zip2_splat_left (mul binary32) a 8 (row 8 i vs) (length_row 8 i vs (omega arith)))
        ∙ in_order a (row 8 i vs) (zip3 f (read ns) (read xs) (read ys))
        ∙ (λ k. scaled_by a (row 8 i vs) (zip3 f (read_row 8 i 32 ns h k) (read_row 8 i 32 xs h k) (read_row 8 i 32 ys h k)))
        ∙ ap (scaled_by a (row 8 i vs)) (row_of_zip3 8 i ns xs ys)
        ∙ row_of_scaled 8 i a vs (zip3 f ns xs ys)
