-- The test of the buffers, from facts, and what writing leaves where they fit.
use mathlib.Core.Bool.{Bool, true, false, cond, ◌&&◌}
use mathlib.Core.List.{List, ◌++◌}
use mathlib.Core.Path.{◌≡◌, sym, ap, ◌∙◌}
use Prim.Native.Nat.{ℕ, ◌+◌, ◌*◌, ◌/◌, ◌≤◌, ◌<◌, min}
use native.Mathlib.Omega.{arith}
use lib.Ieee.{Float}
use lib.ListN.{length, take, drop, length-drop}
use lib.Seq.{drop-drop, length-take-le}
use lib.Dec.{leb}
use borrow.Author.Tests.{eq-eqb, ne_eqb, le-leb, tests}
use Rattle.constants.specs.Rate.{working_memory}
use Rattle.constants.specs.Setting.{per_pulse}
use Rattle.constants.specs.declared.SamplesPerPulse.{SamplesPerPulse}
use Rattle.le_read.specs.LeBytes.{overwritten}
use Rattle.run_call_model.proofs.FlatLists.{behind}
use Rattle.run_call.specs.DueModel.{samples_of, clear_of, fits_of, DueBuffers, due_of}

pub record Fits (s : SamplesPerPulse) (memory noise output k n : ℕ) : Type 0 where
  pub memory_is : memory ≡ working_memory (per_pulse s)
  pub noise_holds : 2 * (k + n) ≤ noise
  pub output_holds : 2 * (k + n) ≤ output

pub fits_if : (s : SamplesPerPulse) (memory noise output k n : ℕ) → Fits s memory noise output k n → true ≡ fits_of s memory noise output k n
unfolding fits_of
fits_if s memory noise output k n f = sym (rw (eq-eqb memory (working_memory (per_pulse s)) f.memory_is, le-leb (2 * (k + n)) noise f.noise_holds, le-leb (2 * (k + n)) output f.output_holds))

fits_not : (s : SamplesPerPulse) (memory noise output k n : ℕ) → min noise output / 2 < k + n → false ≡ fits_of s memory noise output k n
unfolding fits_of
fits_not s memory noise output k n h = grind (arith, tests)

memory_not : (s : SamplesPerPulse) (memory noise output k n : ℕ) → (memory ≡ working_memory (per_pulse s) → ⊥) → false ≡ fits_of s memory noise output k n
unfolding fits_of
memory_not s memory noise output k n h = ap (λ (b : Bool). b && leb (2 * (k + n)) noise && leb (2 * (k + n)) output) (sym (ne_eqb memory (working_memory (per_pulse s)) h))

-- what is left where n more do not fit, and where a part of b numbers is written from a of noise
module _ (s : SamplesPerPulse) (noise memory output : List Float) (w k n : ℕ) where
  -- what is left, by whether they fit
  abbrev left : Bool → DueBuffers
  left b = cond b (record { memory = clear_of s memory w n; output = overwritten output (2 * k) (samples_of s memory w (take (2 * n) (drop (2 * k) noise))) }) (record { memory = memory; output = output })

  pub other_memory : (length memory ≡ working_memory (per_pulse s) → ⊥) → record { memory = memory; output = output } ≡ due_of s noise w k n (record { memory = memory; output = output })
  unfolding due_of
  other_memory h = ap left (memory_not s (length memory) (length noise) (length output) k n h)

  pub unchanged : min (length noise) (length output) / 2 < k + n → record { memory = memory; output = output } ≡ due_of s noise w k n (record { memory = memory; output = output })
  unfolding due_of
  unchanged h = ap left (fits_not s (length memory) (length noise) (length output) k n h)

  pub changed : (memory' part : List Float) (a b : ℕ) → length memory ≡ working_memory (per_pulse s) → k + n ≤ min (length noise) (length output) / 2 → a ≡ 2 * n → b ≡ 2 * n → length part ≡ b
      → part ≡ samples_of s memory w (take a (drop (2 * k) noise)) → memory' ≡ clear_of s memory w (length (take a (drop (2 * k) noise)) / 2)
      → ◌≡◌ {A = DueBuffers} (record { memory = memory'; output = take (2 * k) output ++ (part ++ drop b (drop (2 * k) output)) }) (due_of s noise w k n (record { memory = memory; output = output }))
  unfolding due_of
  changed memory' part a b m h ea eb long p q =
      (λ i. record { memory = (q ∙ ap (clear_of s memory w) half) i; output = take (2 * k) output ++ (part ++ (drop-drop b (2 * k) output ∙ ap (λ (j : ℕ). drop (2 * k + j) output) (sym long)) i) })
      ∙ (λ i. record { memory = clear_of s memory w n; output = sym (behind (2 * k) part output) i })
      ∙ (λ i. record { memory = clear_of s memory w n; output = overwritten output (2 * k) ((p ∙ (λ j. samples_of s memory w (take (ea j) (drop (2 * k) noise)))) i) })
      ∙ ap left (fits_if s (length memory) (length noise) (length output) k n (record { memory_is = m; noise_holds = omega arith; output_holds = omega arith }))
    where
      half : length (take a (drop (2 * k) noise)) / 2 ≡ n
      half = omega (arith, length-take-le a (drop (2 * k) noise) (omega (arith, length-drop (2 * k) noise)), ea)
