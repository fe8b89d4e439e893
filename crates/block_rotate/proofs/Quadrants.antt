-- Sine and cosine by the number of limits above a phase, lane by lane; and narrowed before the quadrant is taken or after.
use Rattle.std.proofs.Common.{◌≡◌, ℕ, zero, suc, ◌+◌, ◌%◌, ◌^◌, ◌≤◌, Bool, cond, eqb, bit_and, List, [], ◌∷◌, map, length, replicate, refl, sym, ◌∙◌, arith}
use Rattle.std.proofs.lemmas.Simd.{zip2_splat, zip2_of_maps, splat_is_map}
use mir.Syntax.{w32}
use lib.Lanes.{Each1, zip2, sel_l}
use lib.Ieee.{Float, neg}
use Rattle.floats.specs.Narrow.{narrow}
use Rattle.floats.proofs.NarrowOrder.{narrow_neg}
use Rattle.math.specs.Carrier.{quadrant}
use Rattle.block_rotate.specs.BlockModel.{quarter, zip3, turned_sine, turned_cosine}
use Rattle.floats.proofs.Rows.{compared, tests, compared_of_maps, tests_of_mask}

-- one of two by a first test, negative by a second
abbrev chosen : Bool → Bool → Float → Float → Float
chosen first negative u w = cond negative (neg (cond first u w)) (cond first u w)

abbrev AtMost4 : List ℕ → Type 0
AtMost4 ns = Each1 (λ n. n ≤ 4) ns

module _ (first negative : ℕ → Bool) (f : ℕ → Float → Float → Float) (here : (n : ℕ) (u w : Float) → n ≤ 4 → chosen (first n) (negative n) u w ≡ f n u w) where
  chosen_all : (ns : List ℕ) (us ws : List Float) → AtMost4 ns → sel_l (map negative ns) (map neg (sel_l (map first ns) us ws)) (sel_l (map first ns) us ws) ≡ zip3 f ns us ws
  unfolding zip3
  chosen_all [] us ws h = refl
  chosen_all (n ∷ ns) [] ws h = refl
  chosen_all (n ∷ ns) (u ∷ us) [] h = refl
  chosen_all (n ∷ ns) (u ∷ us) (w ∷ ws) h = λ i. here n u w h.0 i ∷ chosen_all ns us ws h.1 i

-- ---- the code's tests of n: whether n is odd, and of n + 1 and of n whether two is left out
abbrev one_further : ℕ → ℕ
one_further n = (n + 1) % 2 ^ 32

sine_here : (n : ℕ) (c s : Float) → n ≤ 4 → chosen (eqb (bit_and n 1) 1) (eqb (bit_and (one_further n) 2) 0) c s ≡ (quadrant (quarter n) s c).sin
unfolding quadrant quarter
sine_here zero c s h = refl
sine_here (suc zero) c s h = refl
sine_here (suc (suc zero)) c s h = refl
sine_here (suc (suc (suc zero))) c s h = refl
sine_here (suc (suc (suc (suc zero)))) c s h = refl
sine_here (suc (suc (suc (suc (suc n))))) c s h = absurd (omega arith)

cosine_here : (n : ℕ) (s c : Float) → n ≤ 4 → chosen (eqb (bit_and n 1) 1) (eqb (bit_and n 2) 0) s c ≡ (quadrant (quarter n) s c).cos
unfolding quadrant quarter
cosine_here zero s c h = refl
cosine_here (suc zero) s c h = refl
cosine_here (suc (suc zero)) s c h = refl
cosine_here (suc (suc (suc zero))) s c h = refl
cosine_here (suc (suc (suc (suc zero)))) s c h = refl
cosine_here (suc (suc (suc (suc (suc n))))) s c h = absurd (omega arith)

-- ---- a row
-- a test of two numbers of each lane
tested : (a b : ℕ → ℕ) (ns : List ℕ) {xs ys : List ℕ} → xs ≡ map a ns → ys ≡ map b ns → tests w32 (compared w32 eqb xs ys) ≡ map (λ n. eqb (a n) (b n)) ns
tested a b ns p q = tests_of_mask w32 (λ n. eqb (a n) (b n)) ns (compared_of_maps w32 eqb a b ns p q)

module _ (ns : List ℕ) (l : length ns ≡ 8) where
  -- a bit of each lane
  abbrev pub bits_of : List ℕ → ℕ → List ℕ
  bits_of xs b = zip2 bit_and xs (replicate 8 b)

  abbrev pub odd : List Bool
  odd = tests w32 (compared w32 eqb (bits_of ns 1) (replicate 8 1))

  odd_is : odd ≡ map (λ n. eqb (bit_and n 1) 1) ns
  odd_is = tested (λ n. bit_and n 1) (λ _. 1) ns (zip2_splat bit_and ns 8 1 l) (splat_is_map ns 8 1 l)

  abbrev pub further : List ℕ
  further = zip2 (λ a b. (a + b) % 2 ^ 32) ns (replicate 8 1)

  further_is : bits_of further 2 ≡ map (λ n. bit_and (one_further n) 2) ns
  further_is = zip2_of_maps bit_and one_further (λ _. 2) ns (zip2_splat (λ a b. (a + b) % 2 ^ 32) ns 8 1 l) (splat_is_map ns 8 2 l)

  pub sines_are : (ss cs : List Float) → AtMost4 ns
      → sel_l (tests w32 (compared w32 eqb (bits_of further 2) (replicate 8 0))) (map neg (sel_l odd cs ss)) (sel_l odd cs ss) ≡ turned_sine ns ss cs
  unfolding turned_sine
  sines_are ss cs h =
      (λ i. sel_l (tested (λ n. bit_and (one_further n) 2) (λ _. 0) ns further_is (splat_is_map ns 8 0 l) i) (map neg (sel_l (odd_is i) cs ss)) (sel_l (odd_is i) cs ss))
      ∙ chosen_all (λ n. eqb (bit_and n 1) 1) (λ n. eqb (bit_and (one_further n) 2) 0) (λ n c s. (quadrant (quarter n) s c).sin) sine_here ns cs ss h

  pub cosines_are : (ss cs : List Float) → AtMost4 ns
      → sel_l (tests w32 (compared w32 eqb (bits_of ns 2) (replicate 8 0))) (map neg (sel_l odd ss cs)) (sel_l odd ss cs) ≡ turned_cosine ns ss cs
  unfolding turned_cosine
  cosines_are ss cs h =
      (λ i. sel_l (tested (λ n. bit_and n 2) (λ _. 0) ns (zip2_splat bit_and ns 8 2 l) (splat_is_map ns 8 0 l) i) (map neg (sel_l (odd_is i) ss cs)) (sel_l (odd_is i) ss cs))
      ∙ chosen_all (λ n. eqb (bit_and n 1) 1) (λ n. eqb (bit_and n 2) 0) (λ n s c. (quadrant (quarter n) s c).cos) cosine_here ns ss cs h

-- ---- narrowed
pub narrowed_sine : (q : ℕ) (s c : Float) → (quadrant q (narrow s) (narrow c)).sin ≡ narrow (quadrant q s c).sin
unfolding quadrant
narrowed_sine zero s c = refl
narrowed_sine (suc zero) s c = refl
narrowed_sine (suc (suc zero)) s c = sym (narrow_neg s)
narrowed_sine (suc (suc (suc q))) s c = sym (narrow_neg c)

pub narrowed_cosine : (q : ℕ) (s c : Float) → (quadrant q (narrow s) (narrow c)).cos ≡ narrow (quadrant q s c).cos
unfolding quadrant
narrowed_cosine zero s c = refl
narrowed_cosine (suc zero) s c = sym (narrow_neg s)
narrowed_cosine (suc (suc zero)) s c = sym (narrow_neg c)
narrowed_cosine (suc (suc (suc q))) s c = refl
