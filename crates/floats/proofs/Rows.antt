-- Lanes in rows: operators, comparisons and choices on vectors computed lane by lane, what `.all()` says of each lane, and a list that is read and written row by row.
use Rattle.std.proofs.Common.{◌≡◌, ℕ, zero, suc, ◌+◌, ◌-◌, ◌*◌, ◌%◌, ◌^◌, ◌<◌, ◌≤◌, Bool, true, false, cond, ◌&&◌, ◌||◌, List, [], ◌∷◌, ◌++◌, map, take, drop, length, get_or, bit_and, bit_or, sym, refl, ap, ◌∙◌, subst, inl, inr, arith}
use Rattle.std.proofs.lemmas.Simd.{tops_compared, zip2_of_maps, mask_l-mod, length-chunk, length-put_chunk, put_chunk_is, get_or-chunk, Each1-get_or}
use Rattle.std.proofs.lemmas.Bool.{cases_lt}
use Rattle.std.proofs.lemmas.List.{drop-drop, drop-map, length-append, length-map, length-take-le, take-map, take-take, take_all, take_at, append_assoc}
use Rattle.std.specs.Simd.{first_chunks}
use native.Mathlib.Nat.{mul-suc}
use mir.Syntax.{Width}
use mir.Val.{bits, hbits}
use lib.Bits.{and_self, or_self, and_zero_l, and_zero_r, or_zero_l, or_zero_r}
use lib.Lanes.{Each1, zip2, sel_l, mask_l, top, chunk, put_chunk}
use lib.Seq.{take-add}
use borrow.Rule.Slice.PartMut.{mid_of, post_of, put_mid, same_len_mid}

-- ---- computed lane by lane: see also `zip2_of_maps` and `splat_is_map` of Simd
pub as_map : {A : Type 0} (xs : List A) → xs ≡ map (λ x. x) xs
as_map [] = refl
as_map (x ∷ xs) = ap (λ l. x ∷ l) (as_map xs)

-- ---- a comparison, and a choice by it
sel_map : {V A : Type 0} (c : V → Bool) (g h : V → A) (vs : List V) → sel_l (map c vs) (map g vs) (map h vs) ≡ map (λ v. cond (c v) (g v) (h v)) vs
sel_map c g h [] = refl
sel_map c g h (v ∷ vs) = ap (λ l. cond (c v) (g v) (h v) ∷ l) (sel_map c g h vs)

-- a lane of a mask of width w, and the mask of a comparison
abbrev pub lane : Width → Bool → ℕ
lane w b = cond b (2 ^ bits w - 1) 0

abbrev pub compared : {X : Type 0} → Width → (X → X → Bool) → List X → List X → List ℕ
compared w t xs ys = zip2 (λ a b. lane w (t a b)) xs ys

-- what a choice and `.all()` read of a mask
abbrev pub tests : Width → List ℕ → List Bool
tests w ms = map (top (hbits w)) ms

module _ {V : Type 0} (w : Width) (p : V → Bool) (vs : List V) {ms : List ℕ} (m : ms ≡ map (λ v. lane w (p v)) vs) where
  pub tests_of_mask : tests w ms ≡ map p vs
  tests_of_mask =
      let first = λ (x y : V). p x in
      ap (tests w) (m ∙ sym (zip2_of_maps (λ x y. lane w (first x y)) (λ v. v) (λ v. v) vs (as_map vs) (as_map vs)))
      ∙ tops_compared w first vs vs
      ∙ zip2_of_maps first (λ v. v) (λ v. v) vs (as_map vs) (as_map vs)

  pub select_by_mask : {A : Type 0} (g h : V → A) {us zs : List A} → us ≡ map g vs → zs ≡ map h vs → sel_l (tests w ms) us zs ≡ map (λ v. cond (p v) (g v) (h v)) vs
  select_by_mask g h r s = (λ i. sel_l (tests_of_mask i) (r i) (s i)) ∙ sel_map p g h vs

  -- both, and either, of two masks
  module _ (q : V → Bool) {ns : List ℕ} (n : ns ≡ map (λ v. lane w (q v)) vs) where
    pub both : zip2 bit_and ms ns ≡ map (λ v. lane w (p v && q v)) vs
    both = zip2_of_maps bit_and (λ v. lane w (p v)) (λ v. lane w (q v)) vs m n ∙ (λ i. map (λ v. each (p v) (q v) i) vs)
      where
        each : (a b : Bool) → bit_and (lane w a) (lane w b) ≡ lane w (a && b)
        each true true = and_self (2 ^ bits w - 1)
        each true false = and_zero_r (2 ^ bits w - 1)
        each false b = and_zero_l (lane w b)

    pub either : zip2 bit_or ms ns ≡ map (λ v. lane w (p v || q v)) vs
    either = zip2_of_maps bit_or (λ v. lane w (p v)) (λ v. lane w (q v)) vs m n ∙ (λ i. map (λ v. each (p v) (q v) i) vs)
      where
        each : (a b : Bool) → bit_or (lane w a) (lane w b) ≡ lane w (a || b)
        each true true = or_self (2 ^ bits w - 1)
        each true false = or_zero_r (2 ^ bits w - 1)
        each false b = or_zero_l (lane w b)

module _ {V X : Type 0} (w : Width) (t : X → X → Bool) (a b : V → X) (vs : List V) {xs ys : List X} (p : xs ≡ map a vs) (q : ys ≡ map b vs) where
  pub compared_of_maps : compared w t xs ys ≡ map (λ v. lane w (t (a v) (b v))) vs
  compared_of_maps = zip2_of_maps (λ x y. lane w (t x y)) a b vs p q

  pub select_of_maps : {A : Type 0} (g h : V → A) {us zs : List A} → us ≡ map g vs → zs ≡ map h vs → sel_l (tests w (compared w t xs ys)) us zs ≡ map (λ v. cond (t (a v) (b v)) (g v) (h v)) vs
  select_of_maps g h r s = select_by_mask w (λ v. t (a v) (b v)) vs compared_of_maps g h r s

-- ---- `.all()`: the number of a mask has a 1 for each lane
-- the number of n lanes that are set
full : ℕ → ℕ
full zero = 0
full (suc n) = 1 + 2 * full n

module _ {V : Type 0} (p : V → Bool) where
  each_set : (vs : List V) → mask_l (map p vs) ≡ full (length vs) → Each1 (λ v. p v ≡ true) vs
  unfolding full
  each_set [] e = tt
  each_set (v ∷ vs) e = (first (p v) e, each_set vs (rest (p v) e))
    where
      first : (b : Bool) → cond b 1 0 + 2 * mask_l (map p vs) ≡ 1 + 2 * full (length vs) → b ≡ true
      first true e = refl
      first false e = absurd (omega arith)

      rest : (b : Bool) → cond b 1 0 + 2 * mask_l (map p vs) ≡ 1 + 2 * full (length vs) → mask_l (map p vs) ≡ full (length vs)
      rest true e = omega arith
      rest false e = absurd (omega arith)

  -- of 8 lanes
  pub all_of_mask : (w : Width) (vs : List V) {ms : List ℕ} → length vs ≡ 8 → ms ≡ map (λ v. lane w (p v)) vs → mask_l (tests w ms) % 2 ^ 64 ≡ 255 → Each1 (λ v. p v ≡ true) vs
  unfolding full
  all_of_mask w vs {ms} l m e = each_set vs (sym (ap (λ ts. mask_l ts % 2 ^ 64) (tests_of_mask w p vs m) ∙ mask_l-mod (map p vs) 64 (omega (arith, length-map vs p, l))) ∙ e ∙ ap full (sym l))

-- two facts of each lane, as one
pub each_with : {A : Type 0} (P Q R : A → Type 0) → ((a : A) → P a → Q a → R a) → (xs : List A) → Each1 P xs → Each1 Q xs → Each1 R xs
each_with P Q R f [] p q = tt
each_with P Q R f (x ∷ xs) p q = (f x p.0 q.0, each_with P Q R f xs p.1 q.1)

-- ---- reading by rows: the row of r from index i on
abbrev pub row : {A : Type 0} → ℕ → ℕ → List A → List A
row r i xs = take r (drop i xs)

-- what `from_slice(&xs[i..])` reads, n being the length
pub read_row : {A : Type 0} (r i n : ℕ) (xs : List A) → i + r ≤ n → chunk 0 r (mid_of i (n - i) xs) ≡ row r i xs
read_row r i n xs h = take-take r (n - i) (drop i xs) (omega arith)

pub length_row : {A : Type 0} (r i : ℕ) (xs : List A) → i + r ≤ length xs → length (row r i xs) ≡ r
length_row r i xs h = length-chunk i r xs h

pub row_of_map : {A B : Type 0} (f : A → B) (r i : ℕ) (xs : List A) → map f (row r i xs) ≡ row r i (map f xs)
row_of_map f r i xs = sym (ap (take r) (drop-map f i xs) ∙ take-map f r (drop i xs))

module _ {A B C : Type 0} (f : A → B → C) where
  pub row_of_zip2 : (r i : ℕ) (xs : List A) (ys : List B) → zip2 f (row r i xs) (row r i ys) ≡ row r i (zip2 f xs ys)
  row_of_zip2 zero i xs ys = refl
  row_of_zip2 (suc r) zero [] ys = refl
  row_of_zip2 (suc r) (suc i) [] ys = refl
  row_of_zip2 (suc r) zero (x ∷ xs) [] = refl
  row_of_zip2 (suc r) zero (x ∷ xs) (y ∷ ys) = ap (λ l. f x y ∷ l) (row_of_zip2 r zero xs ys)
  row_of_zip2 (suc r) (suc i) (x ∷ xs) [] = nothing (row (suc r) i xs)
    where
      nothing : (l : List A) → zip2 f l [] ≡ []
      nothing [] = refl
      nothing (x ∷ l) = refl
  row_of_zip2 (suc r) (suc i) (x ∷ xs) (y ∷ ys) = row_of_zip2 (suc r) i xs ys

-- a row of `as_chunks`
pub first_chunk : {A : Type 0} (n k i : ℕ) (xs : List A) → i < k → get_or (first_chunks n k xs) i [] ≡ take n (drop (n * i) xs)
first_chunk n zero i xs h = absurd (omega arith)
first_chunk n (suc k) zero xs h = ap (λ (m : ℕ). take n (drop m xs)) {x = 0} {y = n * 0} (omega arith)
first_chunk n (suc k) (suc i) xs h = first_chunk n k i (drop n xs) (omega arith) ∙ ap (take n) (drop-drop (n * i) n xs ∙ ap (λ (m : ℕ). drop m xs) {x = n + n * i} {y = n * suc i} (omega (arith, mul-suc n i)))

-- what holds of each element tested so far, one row on
pub each_more : {A : Type 0} (P : A → Type 0) (r i m : ℕ) (xs : List A) (d : A) → m ≡ i + r → m ≤ length xs → Each1 P (row r i xs) → ((k : ℕ) → k < i → P (get_or xs k d)) → (k : ℕ) → k < m → P (get_or xs k d)
each_more P r i m xs d next room here before k h = elim (cases_lt k i) [
  | inl l ↦ before k l
  | inr g ↦ subst P (get_or-chunk i r xs (k - i) d (omega arith) ∙ ap (λ j. get_or xs j d) {x = i + (k - i)} {y = k} (omega arith)) (Each1-get_or P (row r i xs) (k - i) d (omega (arith, length_row r i xs)) here)
]

-- ---- writing by rows: of ys, the first i are those of zs, and `v.copy_to_slice(&mut ys[i..])` writes zs's row; n is the length
module _ {A : Type 0} (r i n : ℕ) (v ys zs : List A) (ly : length ys ≡ n) (fits : i + r ≤ n) where
  abbrev pub stored : List A
  stored = put_mid i (n - i) ys (put_chunk 0 (mid_of i (n - i) ys) v)

  pub length_stored : length stored ≡ n
  length_stored = same_len_mid i (n - i) ys (put_chunk 0 (mid_of i (n - i) ys) v) (length-put_chunk 0 (mid_of i (n - i) ys) v) ∙ ly

  pub rows_next : (m : ℕ) → m ≡ i + r → length zs ≡ n → take i ys ≡ take i zs → v ≡ row r i zs → take m stored ≡ take m zs
  rows_next m next lz e w =
      let mid = mid_of i (n - i) ys in
      let post = post_of i (n - i) ys in
      let lv : length v ≡ r = ap length w ∙ length_row r i zs (omega arith) in
      let lm : length mid ≡ n - i = length-chunk i (n - i) ys (omega arith) in
      ap (λ l. take m (take i ys ++ (l ++ post))) (put_chunk_is 0 mid v (omega arith))
      ∙ ap (λ l. take m (take i ys ++ l)) (append_assoc v (drop (length v) mid) post)
      ∙ ap (take m) (sym (append_assoc (take i ys) v (drop (length v) mid ++ post)))
      ∙ take_at (take i ys ++ v) (drop (length v) mid ++ post) m (omega (arith, length-take-le i ys, length-append (take i ys) v, lv))
      ∙ (λ k. e k ++ w k)
      ∙ sym (take-add i r zs)
      ∙ ap (λ k. take k zs) (sym next)

pub rows_end : {A : Type 0} (i : ℕ) (ys zs : List A) → length ys ≤ i → length zs ≤ i → take i ys ≡ take i zs → ys ≡ zs
rows_end i ys zs ly lz e = sym (take_all i ys ly) ∙ e ∙ take_all i zs lz

-- ---- a loop that writes f of each element of xs over ys, row by row
module _ {A B : Type 0} (f : A → B) (r n : ℕ) (xs : List A) where
  -- k rows of r are written; n is the length
  abbrev pub Mapped : ℕ → List B → Type 0
  Mapped k ys = (length ys ≡ n) × (take (k * r) ys ≡ take (k * r) (map f xs))

  pub mapped_next : length xs ≡ n → (k : ℕ) (ys v : List B) (m : Mapped k ys) (fits : k * r + r ≤ n) → v ≡ map f (chunk 0 r (mid_of (k * r) (n - k * r) xs))
      → Mapped (k + 1) (stored r (k * r) n v ys (map f xs) m.0 fits)
  mapped_next lx k ys v m fits e = (
    length_stored r (k * r) n v ys (map f xs) m.0 fits,
    rows_next r (k * r) n v ys (map f xs) m.0 fits ((k + 1) * r) (omega arith) (length-map xs f ∙ lx) m.1 (e ∙ ap (map f) (read_row r (k * r) n xs fits) ∙ row_of_map f r (k * r) xs),
  )

  pub mapped_end : length xs ≡ n → (k : ℕ) (ys : List B) → Mapped k ys → n ≤ k * r → ys ≡ map f xs
  mapped_end lx k ys m h = rows_end (k * r) ys (map f xs) (omega arith) (omega (arith, length-map xs f)) m.1
