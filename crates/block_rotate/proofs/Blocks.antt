-- The samples of a block, from what its loops compute, and their number.
use Rattle.std.proofs.Common.{◌≡◌, ℕ, ◌+◌, ◌-◌, ◌*◌, ◌<◌, ◌≤◌, min, List, [], ◌∷◌, length, take, drop, map, refl, sym, ap, ◌∙◌, zero-le, arith}
use Rattle.std.proofs.lemmas.List.{take_min, take-take, drop-take, length-take}
use native.Mathlib.Nat.{sub-zero}
use lib.Ieee.{Float, binary32, mul}
use Rattle.constants.specs.Rate.{working_memory, ring_slots}
use Rattle.floats.specs.Narrow.{narrow}
use Rattle.math.specs.Carrier.{reduced, sine_sum, cosine_sum, sin_cos, quadrant}
use Rattle.reply_samples.specs.declared.Sample.{Sample}
use Rattle.reply_samples.specs.Samples.{sample_at}
use Rattle.reply_samples.specs.RingModel.{added_reply}
use Rattle.reply_samples.proofs.AtSlot.{added_here}
use Rattle.block_rotate.specs.BlockSamples.{samples_at}
use Rattle.block_rotate.specs.BlockModel.{limits_above, quarter, zip3, turned_sine, turned_cosine, scaled_by, zipped, added_line}
use Rattle.block_rotate.proofs.Quarters.{quarter_is}
use Rattle.block_rotate.proofs.Quadrants.{narrowed_sine, narrowed_cosine}
use Rattle.block_rotate.proofs.Stretches.{two_lines}

-- ---- the samples
at : (a v p : Float) → record {
  re = mul binary32 (mul binary32 a v) (quadrant (quarter (limits_above p)) (narrow (sine_sum (reduced p).r)) (narrow (cosine_sum (reduced p).r))).cos;
  im = mul binary32 (mul binary32 a v) (quadrant (quarter (limits_above p)) (narrow (sine_sum (reduced p).r)) (narrow (cosine_sum (reduced p).r))).sin;
} ≡ sample_at a v p
unfolding sample_at sin_cos
at a v p = λ t. record {
  re = mul binary32 (mul binary32 a v) (((λ u. (quadrant (quarter_is p u) (narrow (sine_sum (reduced p).r)) (narrow (cosine_sum (reduced p).r))).cos) ∙ narrowed_cosine (reduced p).q (sine_sum (reduced p).r) (cosine_sum (reduced p).r)) t);
  im = mul binary32 (mul binary32 a v) (((λ u. (quadrant (quarter_is p u) (narrow (sine_sum (reduced p).r)) (narrow (cosine_sum (reduced p).r))).sin) ∙ narrowed_sine (reduced p).q (sine_sum (reduced p).r) (cosine_sum (reduced p).r)) t);
}

-- what is left of each phase, as its sine and cosine
abbrev sines_left : List Float → List Float
sines_left ps = map (λ p. sine_sum (reduced p).r) ps

abbrev cosines_left : List Float → List Float
cosines_left ps = map (λ p. cosine_sum (reduced p).r) ps

turned_all : (a : Float) (vs ps : List Float)
    → zipped (scaled_by a vs (turned_cosine (map limits_above ps) (map narrow (sines_left ps)) (map narrow (cosines_left ps)))) (scaled_by a vs (turned_sine (map limits_above ps) (map narrow (sines_left ps)) (map narrow (cosines_left ps)))) ≡ samples_at a vs ps
unfolding zipped scaled_by turned_sine turned_cosine zip3 samples_at
turned_all a [] ps = refl
turned_all a (v ∷ vs) [] = refl
turned_all a (v ∷ vs) (p ∷ ps) = λ t. at a v p t ∷ turned_all a vs ps t

pub samples_length : (a : Float) (vs ps : List Float) → length (samples_at a vs ps) ≡ min (length vs) (length ps)
unfolding samples_at
samples_length a [] ps = omega arith
samples_length a (v ∷ vs) [] = omega arith
samples_length a (v ∷ vs) (p ∷ ps) = let e = samples_length a vs ps in omega (arith, e)

pub block_samples : (a : Float) (vs ps s c sine cosine re im : List Float) (ns : List ℕ) → ns ≡ map limits_above ps → s ≡ sines_left ps → c ≡ cosines_left ps → sine ≡ map narrow s → cosine ≡ map narrow c
    → re ≡ scaled_by a vs (turned_cosine ns sine cosine) → im ≡ scaled_by a vs (turned_sine ns sine cosine) → zipped re im ≡ samples_at a vs ps
block_samples a vs ps s c sine cosine re im ns en es ec ew em er ei =
    let S : sine ≡ map narrow (sines_left ps) = ew ∙ ap (map narrow) es in
    let C : cosine ≡ map narrow (cosines_left ps) = em ∙ ap (map narrow) ec in
    (λ t. zipped (er t) (ei t))
    ∙ (λ t. zipped (scaled_by a vs (turned_cosine (en t) (S t) (C t))) (scaled_by a vs (turned_sine (en t) (S t) (C t))))
    ∙ turned_all a vs ps

-- ---- and where they are added
pub block_added : (sps : ℕ) (m m1 m2 : List Float) (slot n most k : ℕ) (zs ys : List Sample) → zs ≡ ys → n ≡ min most (length ys) → k ≡ min n (ring_slots sps - slot) → n ≤ ring_slots sps → length m ≡ working_memory sps → slot < ring_slots sps
    → m1 ≡ added_line m slot (take (k - 0) (drop 0 zs)) → m2 ≡ added_line m1 0 (take (n - k) (drop k zs)) → m2 ≡ added_reply sps m slot (take most ys)
block_added sps m m1 m2 slot n most k zs ys e l ek h lm hs e1 e2 =
    added_here sps m m2 slot (take most ys) lm hs
    (e2
    ∙ (λ t. added_line (e1 t) 0 (take (n - k) (drop k (e t))))
    ∙ (λ t. added_line (added_line m slot (take (sub-zero k t) (e t))) 0 (take (n - k) (drop k ys)))
    ∙ (λ t. added_line (added_line m slot (first t)) 0 (rest t))
    ∙ sym (two_lines sps m slot (take most ys) k hs (omega (arith, long)) (ek ∙ ap (λ (i : ℕ). min i (ring_slots sps - slot)) (sym long))))
  where
    firsts : take n ys ≡ take most ys
    firsts = ap (λ (i : ℕ). take i ys) l ∙ take_min most ys

    long : length (take most ys) ≡ n
    long = length-take most ys ∙ sym l

    within : k ≤ n
    within = omega arith

    first : take k ys ≡ take k (take most ys)
    first = sym (take-take k n ys within) ∙ ap (take k) firsts

    rest : take (n - k) (drop k ys) ≡ drop k (take most ys)
    rest = sym (drop-take k (n - k) ys) ∙ ap (λ (i : ℕ). drop k (take i ys)) (split k n within) ∙ ap (drop k) firsts
      where
        split : (k n : ℕ) → k ≤ n → k + (n - k) ≡ n
        split k n h = omega arith

-- the bounds of the two stretches, among w slots of a memory of l numbers
pub first_bounds : (n v w slot k l : ℕ) → n ≡ min v 32 → k ≡ min n (w - slot) → slot < w → l ≡ 2 * w → (0 ≤ k) × (k ≤ 32) × (2 * (slot + (k - 0)) ≤ l)
first_bounds n v w slot k l en ek h el = (zero-le, omega arith, omega arith)

-- the second from a slot on that has 32 behind it
pub second_bounds : (n v w slot at k l : ℕ) → n ≡ min v 32 → k ≡ min n (w - slot) → l ≡ 2 * w → at + 32 ≤ w → (k ≤ n) × (n ≤ 32) × (2 * (at + (n - k)) ≤ l)
second_bounds n v w slot at k l en ek el h = (omega arith, omega arith, omega arith)
