-- The search for the first noise value at fault, step by step.
use Rattle.std.specs.Prelude.{Option, Some, None}
use mathlib.Core.Path.{◌≡◌, refl, sym, ap, subst, ◌∙◌}
use mathlib.Core.Bool.{Bool, true, false, cond, not, ◌&&◌}
use mathlib.Core.List.{List, [], ◌∷◌}
use Prim.Native.Nat.{ℕ, ◌+◌, ◌≤◌, ◌<◌}
use native.Mathlib.Numerals.{add-one}
use native.Mathlib.Omega.{arith}
use lib.ListN.{length, get_or, drop, length-drop}
use lib.Seq.{drop-cons}
use lib.Ieee.{Float, nan, binary32, of_bits}
use Rattle.run_theory.specs.PlainBench as Bench
use Rattle.floats.specs.Range.{within}
use Rattle.run_generator.specs.Instance.{out_of_range}
use Rattle.run_call.specs.NoiseModel.{out_of_range_from, noise_fault_read}

module _ (noise : List Float) (k : ℕ) where
  abbrev v : Float
  v = get_or noise k nan

  here : k < length noise → out_of_range_from k (drop k noise) ≡ cond (not (within v (of_bits binary32 0x4280_0000))) (Some (Bench.wrong_noise k)) (out_of_range_from (k + 1) (drop (k + 1) noise))
  unfolding out_of_range_from out_of_range
  here h =
      ap (out_of_range_from k) (drop-cons noise k nan h)
      ∙ ap (λ (n : ℕ). cond (not (within v (of_bits binary32 0x4280_0000))) (Some (Bench.wrong_noise k)) (out_of_range_from n (drop n noise))) (sym (add-one k))

  pub out_of_range_at : k < length noise → within v (of_bits binary32 0x4280_0000) ≡ false → noise_fault_read (Some k) ≡ out_of_range_from k (drop k noise)
  unfolding noise_fault_read
  out_of_range_at h e = sym (here h ∙ ap (λ (b : Bool). cond (not b) (Some (Bench.wrong_noise k)) (out_of_range_from (k + 1) (drop (k + 1) noise))) e)

  pub out_of_range_on : k < length noise → within v (of_bits binary32 0x4280_0000) ≡ true → out_of_range_from (k + 1) (drop (k + 1) noise) ≡ out_of_range_from k (drop k noise)
  out_of_range_on h e = sym (here h ∙ ap (λ (b : Bool). cond (not b) (Some (Bench.wrong_noise k)) (out_of_range_from (k + 1) (drop (k + 1) noise))) e)

  pub out_of_range_end : length noise ≤ k → noise_fault_read None ≡ out_of_range_from k (drop k noise)
  unfolding noise_fault_read out_of_range_from
  out_of_range_end h = go (drop k noise) (omega (arith, length-drop k noise))
    where
      go : (l : List Float) → length l ≤ 0 → None ≡ out_of_range_from k l
      go [] q = refl
      go (x ∷ l) q = absurd (omega arith)
