-- Scaled noise: one number more, and how many.
use Prim.Native.Nat.{ℕ, zero, suc, ◌+◌, ◌<◌}
use mathlib.Core.Path.{◌≡◌, refl, sym, ap, ◌∙◌}
use mathlib.Core.List.{List, [], ◌∷◌, ◌++◌}
use native.Mathlib.Numerals.{add-one}
use native.Mathlib.Omega.{arith}
use lib.ListN.{length, get_or, set, take}
use lib.Seq.{take-suc-set}
use lib.Ieee.{Float, nan, binary32, mul}
use Rattle.run_theory.specs.FloatGenerator.{noise_scale}
use Rattle.single_add.specs.Stretch.{scaled_noise}

scaled_more : (vs : List Float) (i : ℕ) → i < length vs → scaled_noise (take (suc i) vs) ≡ scaled_noise (take i vs) ++ (mul binary32 (get_or vs i nan) noise_scale ∷ [])
unfolding scaled_noise
scaled_more [] i h = absurd (omega arith)
scaled_more (v ∷ vs) zero h = refl
scaled_more (v ∷ vs) (suc i) h = ap (λ (l : List Float). mul binary32 v noise_scale ∷ l) (scaled_more vs i (omega arith))

pub scaled_length : (vs : List Float) → length (scaled_noise vs) ≡ length vs
unfolding scaled_noise
scaled_length [] = refl
scaled_length (v ∷ vs) = ap suc (scaled_length vs)

pub scaled_next : (vs out : List Float) (i : ℕ) (x : Float) → x ≡ mul binary32 (get_or vs i nan) noise_scale → i < length vs → i < length out → take i out ≡ scaled_noise (take i vs) → take (i + 1) (set out i x) ≡ scaled_noise (take (i + 1) vs)
scaled_next vs out i x s h k e =
    ap (λ (n : ℕ). take n (set out i x)) (add-one i)
    ∙ take-suc-set out i x k
    ∙ (λ j. e j ++ (s j ∷ []))
    ∙ sym (scaled_more vs i h)
    ∙ ap (λ (n : ℕ). scaled_noise (take n vs)) (sym (add-one i))
