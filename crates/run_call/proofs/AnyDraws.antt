-- Samples that are due are the same whatever draws mean: `written` and `cleared` of any generator with f64 times and f32 samples at one rate.
use mathlib.Core.List.{List, [], ◌∷◌}
use mathlib.Core.Path.{◌≡◌, refl, ap}
use Prim.Native.Nat.{ℕ, zero, suc, ◌%◌}
use lib.Ieee.{Float, nan}
use Rattle.run_theory.specs.Generator.{Pair, silence, noisy}
use Rattle.run_theory.specs.PlainBench.{pairs, flatten}
use Rattle.run_call_model.specs.Machine.{window, rd, wr}
use Rattle.run_call_model.specs.Batch.{written, cleared}
use Rattle.constants.specs.Setting.{per_pulse}
use Rattle.constants.specs.declared.SamplesPerPulse.{SamplesPerPulse}
use Rattle.run_theory.specs.FloatGenerator.{Draws, generator}
use Rattle.run_call.specs.DueModel.{gen, samples_of, clear_of}

module _ (S : Draws) (s : SamplesPerPulse) (total : ℕ) where
  same_written : (vs : List (Pair Float)) (m : List Float) (w : ℕ) → written (generator S (per_pulse s) total) nan m w vs ≡ written (gen s) nan m w vs
  same_written [] m w = refl
  same_written (v ∷ vs) m w =
      ap (λ (l : List (Pair Float)). noisy (gen s) (rd (gen s) nan m (w % window (gen s) nan)) v ∷ l) (same_written vs (wr (gen s) nan m (w % window (gen s) nan) (silence (gen s))) (suc w))

  pub any_samples : (m : List Float) (w : ℕ) (xs : List Float) → flatten (written (generator S (per_pulse s) total) nan m w (pairs xs)) ≡ samples_of s m w xs
  unfolding samples_of
  any_samples m w xs = ap (λ (l : List (Pair Float)). flatten l) (same_written (pairs xs) m w)

  same_cleared : (n : ℕ) (m : List Float) (w : ℕ) → cleared (generator S (per_pulse s) total) nan m w n ≡ cleared (gen s) nan m w n
  same_cleared zero m w = refl
  same_cleared (suc n) m w = same_cleared n (wr (gen s) nan m (w % window (gen s) nan) (silence (gen s))) (suc w)

  pub any_memory : (m : List Float) (w n : ℕ) → cleared (generator S (per_pulse s) total) nan m w n ≡ clear_of s m w n
  unfolding clear_of
  any_memory m w n = same_cleared n m w
