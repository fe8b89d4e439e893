-- Values written one by one over the first places of a list are `values_left`.
use Rattle.std.proofs.Common.{◌≡◌, ℕ, zero, suc, ◌+◌, ◌<◌, ◌≤◌, min, Bool, List, [], ◌∷◌, ◌++◌, length, get_or, take, drop, sym, refl, ap, ◌∙◌, inl, inr, le_of_eq, le_of_lt, arith, add-one, take_all, drop-cons, append_assoc, length-take-le, length-append, length-drop}
use Rattle.std.proofs.Math.ListN.{set}
use Rattle.std.proofs.Math.Seq.{set-append_seam}
use Rattle.std.proofs.lemmas.List.{take_more, drop_all}
use lib.Ieee.{Float, nan}
use Rattle.float_rounding.proofs.Size.{le_or_lt}
use Rattle.block_values.specs.BlockValues.{values_at, values_left}
use Rattle.block_values.specs.BlockValuesModel.{value_in}

-- the first i of some values over those of a list
unfoldable pub first_of : ℕ → List Float → List Float → List Float
first_of i vs old = take i vs ++ drop i old

pub none_yet : (vs old : List Float) → old ≡ first_of 0 vs old
unfolding first_of
none_yet vs old = refl

pub one_more : (i : ℕ) (vs old : List Float) (v : Float) → i < length vs → i < length old → v ≡ get_or vs i nan → set (first_of i vs old) i v ≡ first_of (i + 1) vs old
unfolding first_of
one_more i vs old v h g e =
    ap (λ (t : List Float). set (take i vs ++ t) i v) (drop-cons old i nan g)
    ∙ ap (λ (n : ℕ). set (take i vs ++ (get_or old i nan ∷ drop (suc i) old)) n v) (sym (length-take-le i vs (le_of_lt h)))
    ∙ set-append_seam (take i vs) (get_or old i nan) (drop (suc i) old) v
    ∙ ap (λ (w : Float). take i vs ++ (w ∷ drop (suc i) old)) e
    ∙ sym (ap (λ (t : List Float). t ++ drop (i + 1) old) (take_more vs i nan h) ∙ append_assoc (take i vs) (get_or vs i nan ∷ []) (drop (i + 1) old) ∙ ap (λ (n : ℕ). take i vs ++ (get_or vs i nan ∷ drop n old)) (add-one i))

pub all_left : (i : ℕ) (vs old : List Float) → i ≡ min (length old) (length vs) → first_of i vs old ≡ values_left vs old
unfolding first_of values_left
all_left i vs old e = elim (le_or_lt (length old) (length vs)) [
  | inl h ↦
      ap (λ (n : ℕ). take n vs ++ drop n old) (short i (length old) (length vs) e h)
      ∙ ap (λ (t : List Float). take (length old) vs ++ t) (drop_all (length old) old (le_of_eq refl) ∙ sym (drop_all (length vs) old h))
  | inr h ↦
      ap (λ (n : ℕ). take n vs ++ drop n old) (long i (length old) (length vs) e h)
      ∙ ap (λ (t : List Float). t ++ drop (length vs) old) (take_all (length vs) vs (le_of_eq refl) ∙ sym (take_all (length old) vs (le_of_lt h)))
]
  where
    short : (i m n : ℕ) → i ≡ min m n → m ≤ n → i ≡ m
    short i m n e h = omega arith

    long : (i m n : ℕ) → i ≡ min m n → n < m → i ≡ n
    long i m n e h = omega arith

pub length_first : (i : ℕ) (vs old : List Float) → i ≤ length vs → i ≤ length old → length (first_of i vs old) ≡ length old
unfolding first_of
length_first i vs old h g = simp (length-append, length-take-le i vs h, length-drop) (omega arith)

-- ---- the values of a block
pub length_values : (sps : ℕ) (p : List Float) (padded : List Bool) (phases : List Float) (is : List ℕ) → length phases ≡ length is → length (values_at sps p padded phases is) ≡ length is
unfolding values_at
length_values sps p padded [] [] e = refl
length_values sps p padded [] (i ∷ is) e = absurd (omega arith)
length_values sps p padded (x ∷ phases) [] e = absurd (omega arith)
length_values sps p padded (x ∷ phases) (i ∷ is) e = ap suc (length_values sps p padded phases is (omega arith))

pub value_at : (sps : ℕ) (p : List Float) (padded : List Bool) (phases : List Float) (is : List ℕ) (k : ℕ) → k < length phases → k < length is → value_in sps p padded phases is k ≡ get_or (values_at sps p padded phases is) k nan
unfolding values_at
value_at sps p padded [] is k h g = absurd (omega arith)
value_at sps p padded (x ∷ phases) [] k h g = absurd (omega arith)
value_at sps p padded (x ∷ phases) (i ∷ is) zero h g = refl
value_at sps p padded (x ∷ phases) (i ∷ is) (suc k) h g = value_at sps p padded phases is k (omega arith) (omega arith)

-- ---- for the loops: E are the values of a block
module _ (sps : ℕ) (p : List Float) (padded : List Bool) (phases : List Float) (is : List ℕ) (old : List Float) (all_phases : length phases ≡ 32) (all_indices : length is ≡ 32) where
  abbrev E : List Float
  E = values_at sps p padded phases is

  whole : length E ≡ 32
  whole = length_values sps p padded phases is (all_phases ∙ sym all_indices) ∙ all_indices

  pub one_written : (i : ℕ) (values : List Float) (v : Float) → i < 32 → i < length old → values ≡ first_of i E old → v ≡ value_in sps p padded phases is i → set values i v ≡ first_of (i + 1) E old
  one_written i values v h g e f =
      ap (λ (t : List Float). set t i v) e
      ∙ one_more i E old v (within i (length E) h whole) g (f ∙ value_at sps p padded phases is i (within i (length phases) h all_phases) (within i (length is) h all_indices))
    where
      within : (i n : ℕ) → i < 32 → n ≡ 32 → i < n
      within i n h e = omega arith

  pub four_written : (i : ℕ) (values : List Float) → i + 4 ≤ 32 → i + 4 ≤ length old → values ≡ first_of i E old
      → let v = value_in sps p padded phases is in set (set (set (set values i (v i)) (i + 1) (v (i + 1))) (i + 2) (v (i + 2))) (i + 3) (v (i + 3)) ≡ first_of (i + 4) E old
  four_written i values h g e =
      let n1 : i + 1 + 1 ≡ i + 2 = omega arith in
      let n2 : i + 2 + 1 ≡ i + 3 = omega arith in
      let n3 : i + 3 + 1 ≡ i + 4 = omega arith in
      let q0 = one_written i values _ (omega arith) (omega arith) e refl in
      let q1 = one_written (i + 1) _ _ (omega arith) (omega arith) q0 refl ∙ ap (λ (n : ℕ). first_of n E old) n1 in
      let q2 = one_written (i + 2) _ _ (omega arith) (omega arith) q1 refl ∙ ap (λ (n : ℕ). first_of n E old) n2 in
      one_written (i + 3) _ _ (omega arith) (omega arith) q2 refl ∙ ap (λ (n : ℕ). first_of n E old) n3

  pub all_written : (i n : ℕ) (values : List Float) → values ≡ first_of i E old → n ≡ min (length old) 32 → i ≤ n → n ≤ i → values ≡ values_left E old
  all_written i n values e m h g = e ∙ all_left i E old (last i n (length old) (length E) m whole h g)
    where
      last : (i n a b : ℕ) → n ≡ min a 32 → b ≡ 32 → i ≤ n → n ≤ i → i ≡ min a b
      last i n a b m w h g = omega arith
