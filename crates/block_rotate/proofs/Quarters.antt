-- The number of limits above a phase: at most four, and the phase's quadrant by it.
use Rattle.std.proofs.Common.{◌≡◌, ℕ, ◌+◌, ◌≤◌, Bool, true, false, cond, T, List, [], ◌∷◌, map, sym, refl, subst, arith, lit≤}
use Rattle.std.proofs.lemmas.Float.{lt_trans}
use lib.Lanes.{Each1}
use lib.Ieee.{Float, binary64, of_bits, add, sub, mul, div, neg, lt}
use Rattle.math.specs.declared.Reduced.{Reduced}
use Rattle.math.specs.Phase.{pi}
use Rattle.math.specs.Carrier.{half_pi, outer_limit, inner_limit, reduced}
use Rattle.block_rotate.specs.BlockModel.{bit, limits_above, quarter}

-- ---- at most four
few : (p : Float) → limits_above p ≤ 4
unfolding limits_above bit
few p = go (lt p (neg outer_limit)) (lt p (neg inner_limit)) (lt p inner_limit) (lt p outer_limit)
  where
    one : (b : Bool) → cond b 1 0 ≤ 1
    one true = lit≤ tt
    one false = lit≤ tt

    go : (a b c d : Bool) → cond a 1 0 + cond b 1 0 + cond c 1 0 + cond d 1 0 ≤ 4
    go a b c d = omega (arith, one a, one b, one c, one d)

each_few : (ps : List Float) → Each1 (λ k. k ≤ 4) (map limits_above ps)
each_few [] = tt
each_few (p ∷ ps) = (few p, each_few ps)

pub turns_few : (ps : List Float) (ns : List ℕ) → ns ≡ map limits_above ps → Each1 (λ k. k ≤ 4) ns
turns_few ps ns e = subst (Each1 (λ k. k ≤ 4)) (sym e) (each_few ps)

-- ---- by the tests
-- a limit that lies above has the next above it too
first_next : (p : Float) → T (lt p (neg outer_limit)) → T (lt p (neg inner_limit))
first_next p t = lt_trans p (neg outer_limit) (neg inner_limit) t (unfold outer_limit inner_limit half_pi pi mul div of_bits neg lt in tt)

second_next : (p : Float) → T (lt p (neg inner_limit)) → T (lt p inner_limit)
second_next p t = lt_trans p (neg inner_limit) inner_limit t (unfold inner_limit half_pi pi mul div of_bits neg lt in tt)

third_next : (p : Float) → T (lt p inner_limit) → T (lt p outer_limit)
third_next p t = lt_trans p inner_limit outer_limit t (unfold outer_limit inner_limit half_pi pi mul div of_bits lt in tt)

-- so only five cases are left
pub by_tests : (P : Bool → Bool → Bool → Bool → Type 0) → P true true true true → P false true true true → P false false true true → P false false false true → P false false false false
    → (p : Float) → P (lt p (neg outer_limit)) (lt p (neg inner_limit)) (lt p inner_limit) (lt p outer_limit)
by_tests P four three two one none p = go (lt p (neg outer_limit)) (lt p (neg inner_limit)) (lt p inner_limit) (lt p outer_limit) (first_next p) (second_next p) (third_next p)
  where
    go : (a b c d : Bool) → (T a → T b) → (T b → T c) → (T c → T d) → P a b c d
    go true true true true f g h = four
    go false true true true f g h = three
    go false false true true f g h = two
    go false false false true f g h = one
    go false false false false f g h = none
    go true false c d f g h = absurd (f tt)
    go a true false d f g h = absurd (g tt)
    go a b true false f g h = absurd (h tt)

-- the first table of SPECIFICATION 6.11 by its tests
abbrev pub row_of : Float → Bool → Bool → Bool → Bool → Reduced
row_of p a b c d = cond a (record { r = add binary64 p pi; q = 2 }) (cond b (record { r = add binary64 p half_pi; q = 3 }) (cond c (record { r = p; q = 0 }) (cond d (record { r = sub binary64 p half_pi; q = 1 }) (record { r = sub binary64 p pi; q = 2 }))))

-- ---- the quadrant
pub quarter_is : (p : Float) → quarter (limits_above p) ≡ (reduced p).q
unfolding limits_above reduced quarter bit
quarter_is p = by_tests (λ a b c d. quarter (bit a + bit b + bit c + bit d) ≡ (row_of p a b c d).q) refl refl refl refl refl p
