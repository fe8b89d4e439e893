-- The sum of taps that are worked out one by one is the padded sum of the taps at a phase.
use Rattle.std.proofs.Common.{◌≡◌, ℕ, ◌+◌, ◌-◌, ◌*◌, ◌<◌, ◌≤◌, Bool, true, false, cond, eqb, List, [], ◌∷◌, length, get_or, map, drop, sym, refl, ap, ◌∙◌, subst, inl, inr, mul-add, mul-one, arith, le-ltb, lt-ltb, eq-eqb}
use lib.Ieee.{Float, nan, binary32, of_bits, add, sub, mul}
use Rattle.float_rounding.proofs.Size.{le_or_lt}
use Rattle.constants.specs.declared.SamplesPerPulse.{SamplesPerPulse}
use Rattle.constants.specs.Setting.{per_pulse}
use Rattle.constants.specs.Rate.{branches, prototype_length}
use Rattle.filterbank.specs.Taps.{one, branch_of, tau_of, branch, next_branch, between, filter_taps}
use Rattle.filterbank.specs.PaddedPulsesModel.{padded_sum}
use Rattle.filterbank.proofs.Literals.{seven_taps, rolled_taps, sum_seven, sum_past}
use Rattle.block_values.specs.BlockValuesModel.{tap_at, last_tap_at, plus_where, lane, Found, EachPlaced, value_in}
use Rattle.floats.specs.Narrow.{narrow}
use Rattle.std.proofs.lemmas.List.{get_or-map}

-- ---- a branch's number is that of a branch
chosen : (n b : ℕ) → 0 < b → cond (Rattle.std.proofs.Common.ltb n b) n 0 < b
chosen n b h = elim (le_or_lt b n) [
  | inl l ↦ subst (λ (t : Bool). cond t n 0 < b) (sym (le-ltb n b l)) h
  | inr l ↦ subst (λ (t : Bool). cond t n 0 < b) (sym (lt-ltb n b l)) l
]

some : (s : SamplesPerPulse) → 0 < branches (per_pulse s)
some SamplesPerPulse.Four = omega arith
some SamplesPerPulse.Eight = omega arith

pub branch_lt : (s : SamplesPerPulse) (phase : Float) → branch_of (per_pulse s) phase < branches (per_pulse s)
unfolding branch_of
branch_lt s phase = chosen _ (branches (per_pulse s)) (some s)

-- ---- seven sums over a list of seven taps
abbrev summed : List Bool → ℕ → Float → Float → Float → Float → Float → Float → Float → Float
summed padded index r0 r1 r2 r3 r4 r5 r6 =
    plus_where (get_or padded index false)
    (plus_where (get_or padded (index + 1) false)
    (plus_where (get_or padded (index + 2) false)
    (plus_where (get_or padded (index + 3) false)
    (plus_where (get_or padded (index + 4) false)
    (plus_where (get_or padded (index + 5) false)
    (plus_where (get_or padded (index + 6) false) (of_bits binary32 0) r0) r1) r2) r3) r4) r5) r6

over : (padded : List Bool) (index : ℕ) (taps : List Float) (r0 r1 r2 r3 r4 r5 r6 : Float) → r0 ∷ r1 ∷ r2 ∷ r3 ∷ r4 ∷ r5 ∷ r6 ∷ [] ≡ taps → index < 246 → summed padded index r0 r1 r2 r3 r4 r5 r6 ≡ padded_sum taps padded index
over padded index taps r0 r1 r2 r3 r4 r5 r6 e h =
    sum_seven (r0 ∷ r1 ∷ r2 ∷ r3 ∷ r4 ∷ r5 ∷ r6 ∷ []) padded index _ _ _ _ _ _ _ refl h refl refl refl refl refl refl refl
    ∙ ap (λ (t : List Float). padded_sum t padded index) e

-- ---- the taps
-- u * p[i] + tau * p[j]
abbrev mixed : List Float → Float → Float → ℕ → ℕ → Float
mixed p u tau i j = add binary32 (mul binary32 u (get_or p i nan)) (mul binary32 tau (get_or p j nan))

next : (p : List Float) (u tau : Float) (i j : ℕ) → i + 1 ≡ j → mixed p u tau i (i + 1) ≡ mixed p u tau i j
next p u tau i j e = ap (mixed p u tau i) e

-- the taps at a phase, of a prototype of the right length
taps_are : (s : SamplesPerPulse) (p : List Float) (phase : Float) → length p ≡ prototype_length (per_pulse s)
    → filter_taps (per_pulse s) p phase ≡ between (tau_of (per_pulse s) phase) (branch (per_pulse s) p (branch_of (per_pulse s) phase)) (next_branch (per_pulse s) p (branch_of (per_pulse s) phase))
unfolding filter_taps
taps_are s p phase e = rw (eq-eqb (length p) (prototype_length (per_pulse s)) e)

last_is : (p : List Float) (u tau : Float) (i : ℕ) → i + 1 < length p → last_tap_at p u tau i ≡ mixed p u tau i (i + 1)
last_is p u tau i h = ap (λ (t : Bool). cond t (mixed p u tau i (i + 1)) (mul binary32 u (get_or p i nan))) (lt-ltb (i + 1) (length p) h)

last_no : (p : List Float) (u tau : Float) (i : ℕ) → length p ≤ i + 1 → last_tap_at p u tau i ≡ mul binary32 u (get_or p i nan)
last_no p u tau i h = ap (λ (t : Bool). cond t (mixed p u tau i (i + 1)) (mul binary32 u (get_or p i nan))) (le-ltb (i + 1) (length p) h)

-- within the bank
within : (sps a : ℕ) (p : List Float) (tau : Float) → length p ≡ branches sps * 7 → a + 1 < branches sps
    → let n = branches sps in let u = sub binary32 one tau in
    tap_at p u tau a ∷ tap_at p u tau (a + n) ∷ tap_at p u tau (a + n * 2) ∷ tap_at p u tau (a + n * 3) ∷ tap_at p u tau (a + n * 4) ∷ tap_at p u tau (a + n * 5) ∷ last_tap_at p u tau (a + n * 6) ∷ []
    ≡ between tau (branch sps p a) (branch sps p (a + 1))
within sps a p tau l h =
    let n = branches sps in
    let u = sub binary32 one tau in
    seven_taps sps n refl p tau a _ _ _ _ _ _ _
    refl
    (next p u tau (a + n) (a + 1 + n) (shift a n))
    (next p u tau (a + n * 2) (a + 1 + n * 2) (shift a (n * 2)))
    (next p u tau (a + n * 3) (a + 1 + n * 3) (shift a (n * 3)))
    (next p u tau (a + n * 4) (a + 1 + n * 4) (shift a (n * 4)))
    (next p u tau (a + n * 5) (a + 1 + n * 5) (shift a (n * 5)))
    (last_is p u tau (a + n * 6) (inside n a (length p) l h) ∙ next p u tau (a + n * 6) (a + 1 + n * 6) (shift a (n * 6)))
  where
    shift : (a m : ℕ) → a + m + 1 ≡ a + 1 + m
    shift a m = omega arith

    inside : (n a l : ℕ) → l ≡ n * 7 → a + 1 < n → a + n * 6 + 1 < l
    inside n a l e h = omega arith

-- at its end
at_end : (sps a : ℕ) (p : List Float) (tau : Float) → length p ≡ branches sps * 7 → a ≡ branches sps - 1 → 0 < branches sps
    → let n = branches sps in let u = sub binary32 one tau in
    tap_at p u tau a ∷ tap_at p u tau (a + n) ∷ tap_at p u tau (a + n * 2) ∷ tap_at p u tau (a + n * 3) ∷ tap_at p u tau (a + n * 4) ∷ tap_at p u tau (a + n * 5) ∷ last_tap_at p u tau (a + n * 6) ∷ []
    ≡ between tau (branch sps p (branches sps - 1)) (drop 1 (branch sps p 0))
at_end sps a p tau l e h =
    let n = branches sps in
    let u = sub binary32 one tau in
    ap (λ (x : Float). tap_at p u tau a ∷ tap_at p u tau (a + n) ∷ tap_at p u tau (a + n * 2) ∷ tap_at p u tau (a + n * 3) ∷ tap_at p u tau (a + n * 4) ∷ tap_at p u tau (a + n * 5) ∷ x ∷ []) (last_no p u tau (a + n * 6) (outside n a (length p) l e h))
    ∙ rolled_taps sps n a refl e p tau
    (next p u tau a n (first n a e h))
    (next p u tau (a + n) (n * 2) (second n a e h))
    (next p u tau (a + n * 2) (n * 3) (turn n a 2 e h))
    (next p u tau (a + n * 3) (n * 4) (turn n a 3 e h))
    (next p u tau (a + n * 4) (n * 5) (turn n a 4 e h))
    (next p u tau (a + n * 5) (n * 6) (turn n a 5 e h))
  where
    turn : (n a k : ℕ) → a ≡ n - 1 → 0 < n → a + n * k + 1 ≡ n * (k + 1)
    turn n a k e h = omega (arith, mul-add n k 1, mul-one n)

    first : (n a : ℕ) → a ≡ n - 1 → 0 < n → a + 1 ≡ n
    first n a e h = omega arith

    second : (n a : ℕ) → a ≡ n - 1 → 0 < n → a + n + 1 ≡ n * 2
    second n a e h = omega arith

    outside : (n a l : ℕ) → l ≡ n * 7 → a ≡ n - 1 → 0 < n → l ≤ a + n * 6 + 1
    outside n a l e f h = omega arith

-- either way
abbrev worked_out : ℕ → List Float → ℕ → Float → List Float
worked_out n p a tau =
    let u = sub binary32 one tau in
    tap_at p u tau a ∷ tap_at p u tau (a + n) ∷ tap_at p u tau (a + n * 2) ∷ tap_at p u tau (a + n * 3) ∷ tap_at p u tau (a + n * 4) ∷ tap_at p u tau (a + n * 5) ∷ last_tap_at p u tau (a + n * 6) ∷ []

all_taps : (s : SamplesPerPulse) (p : List Float) (phase : Float) → length p ≡ prototype_length (per_pulse s) → worked_out (branches (per_pulse s)) p (branch_of (per_pulse s) phase) (tau_of (per_pulse s) phase) ≡ filter_taps (per_pulse s) p phase
unfolding next_branch
all_taps s p phase l = elim (le_or_lt (branches (per_pulse s) - 1) (branch_of (per_pulse s) phase)) [
  | inr h ↦
      within (per_pulse s) (branch_of (per_pulse s) phase) p (tau_of (per_pulse s) phase) l (inner (branch_of (per_pulse s) phase) (branches (per_pulse s)) h)
      ∙ sym (taps_are s p phase l ∙ ap (λ (t : Bool). between (tau_of (per_pulse s) phase) (branch (per_pulse s) p (branch_of (per_pulse s) phase)) (cond t (branch (per_pulse s) p (branch_of (per_pulse s) phase + 1)) (drop 1 (branch (per_pulse s) p 0)))) (lt-ltb (branch_of (per_pulse s) phase) (branches (per_pulse s) - 1) h))
  | inl h ↦
      let e = last (branch_of (per_pulse s) phase) (branches (per_pulse s)) h (branch_lt s phase) in
      at_end (per_pulse s) (branch_of (per_pulse s) phase) p (tau_of (per_pulse s) phase) l e (some s)
      ∙ sym (taps_are s p phase l ∙ ap (λ (t : Bool). between (tau_of (per_pulse s) phase) (branch (per_pulse s) p (branch_of (per_pulse s) phase)) (cond t (branch (per_pulse s) p (branch_of (per_pulse s) phase + 1)) (drop 1 (branch (per_pulse s) p 0)))) (le-ltb (branch_of (per_pulse s) phase) (branches (per_pulse s) - 1) h)
      ∙ ap (λ (a : ℕ). between (tau_of (per_pulse s) phase) (branch (per_pulse s) p a) (drop 1 (branch (per_pulse s) p 0))) e)
]
  where
    inner : (a n : ℕ) → a < n - 1 → a + 1 < n
    inner a n h = omega arith

    last : (a n : ℕ) → n - 1 ≤ a → a < n → a ≡ n - 1
    last a n h l = omega arith

-- ---- the law
found : (s : SamplesPerPulse) (p : List Float) (padded : List Bool) (phase : Float) (index : ℕ) → length p ≡ prototype_length (per_pulse s)
    → lane p (branches (per_pulse s)) padded index (branch_of (per_pulse s) phase) (tau_of (per_pulse s) phase) (sub binary32 one (tau_of (per_pulse s) phase)) ≡ padded_sum (filter_taps (per_pulse s) p phase) padded index
unfolding lane
found s p padded phase index l =
    let n = branches (per_pulse s) in
    let a = branch_of (per_pulse s) phase in
    let tau = tau_of (per_pulse s) phase in
    let u = sub binary32 one tau in
    elim (le_or_lt 246 index) [
      | inl h ↦
          ap (λ (t : Bool). cond t (summed padded index (tap_at p u tau a) (tap_at p u tau (a + n)) (tap_at p u tau (a + n * 2)) (tap_at p u tau (a + n * 3)) (tap_at p u tau (a + n * 4)) (tap_at p u tau (a + n * 5)) (last_tap_at p u tau (a + n * 6))) (of_bits binary32 0)) (le-ltb index 246 h)
          ∙ sum_past (filter_taps (per_pulse s) p phase) padded index h
      | inr h ↦
          ap (λ (t : Bool). cond t (summed padded index (tap_at p u tau a) (tap_at p u tau (a + n)) (tap_at p u tau (a + n * 2)) (tap_at p u tau (a + n * 3)) (tap_at p u tau (a + n * 4)) (tap_at p u tau (a + n * 5)) (last_tap_at p u tau (a + n * 6))) (of_bits binary32 0)) (lt-ltb index 246 h)
          ∙ over padded index (filter_taps (per_pulse s) p phase) _ _ _ _ _ _ _ (all_taps s p phase l) h
    ]

pub lane_value : (s : SamplesPerPulse) (p : List Float) (padded : List Bool) (phase : Float) (index n a : ℕ) (tau u : Float) → length p ≡ prototype_length (per_pulse s) → n ≡ branches (per_pulse s) → a ≡ branch_of (per_pulse s) phase → tau ≡ tau_of (per_pulse s) phase → u ≡ sub binary32 one tau
    → lane p n padded index a tau u ≡ padded_sum (filter_taps (per_pulse s) p phase) padded index
lane_value s p padded phase index n a tau u l e f g h =
    ap (λ (x : Float). lane p n padded index a tau x) (h ∙ ap (sub binary32 one) g)
    ∙ ap (λ (x : Float). lane p n padded index a x (sub binary32 one (tau_of (per_pulse s) phase))) g
    ∙ ap (λ (x : ℕ). lane p n padded index x (tau_of (per_pulse s) phase) (sub binary32 one (tau_of (per_pulse s) phase))) f
    ∙ ap (λ (x : ℕ). lane p x padded index (branch_of (per_pulse s) phase) (tau_of (per_pulse s) phase) (sub binary32 one (tau_of (per_pulse s) phase))) e
    ∙ found s p padded phase index l

pub in_bank : (s : SamplesPerPulse) (phase : Float) (n a : ℕ) → n ≡ branches (per_pulse s) → a ≡ branch_of (per_pulse s) phase → a < n
in_bank s phase n a e f = less a n (branch_of (per_pulse s) phase) (branches (per_pulse s)) e f (branch_lt s phase)
  where
    less : (a n x y : ℕ) → n ≡ y → a ≡ x → x < y → a < n
    less a n x y e f h = omega arith

-- at place k of a block
pub lane_in : (s : SamplesPerPulse) (p : List Float) (padded : List Bool) (phases : List Float) (is at : List ℕ) (taus : List Float) (k : ℕ) (index n a : ℕ) (tau u : Float) → length p ≡ prototype_length (per_pulse s) → n ≡ branches (per_pulse s) → Found (per_pulse s) phases at taus → k < 32
    → index ≡ get_or is k 0 → a ≡ get_or at k 0 → tau ≡ get_or taus k nan → u ≡ sub binary32 one (get_or taus k nan) → lane p n padded index a tau u ≡ value_in (per_pulse s) p padded phases is k
lane_in s p padded phases is at taus k index n a tau u l e f h i j g v =
    lane_value s p padded (get_or phases k nan) index n a tau u l e (j ∙ (f k h).0) (g ∙ (f k h).1) (v ∙ ap (sub binary32 one) (sym g))
    ∙ ap (padded_sum (filter_taps (per_pulse s) p (get_or phases k nan)) padded) i

-- the rests as tau
pub found_of : (sps : ℕ) (phases : List Float) (at : List ℕ) (rest tau : List Float) → EachPlaced sps phases at rest 32 → tau ≡ map narrow rest → length rest ≡ 32 → Found sps phases at tau
unfolding tau_of
found_of sps phases at rest tau f e l k h =
    let q = f k h in
    (q.0, ap (λ (t : List Float). get_or t k nan) e ∙ get_or-map narrow rest k nan nan (inside k (length rest) h l) ∙ ap narrow q.1)
  where
    inside : (k n : ℕ) → k < 32 → n ≡ 32 → k < n
    inside k n h e = omega arith
