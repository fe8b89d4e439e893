-- What writing due samples leaves, where they fit.
use mathlib.Core.Path.{◌≡◌, sym, ap, ◌∙◌}
use mathlib.Core.Bool.{Bool, cond}
use mathlib.Core.List.{List}
use Prim.Native.Nat.{ℕ, ◌+◌, ◌*◌, ◌≤◌}
use lib.ListN.{length, take, drop}
use lib.Ieee.{Float}
use Rattle.constants.specs.Rate.{working_memory}
use Rattle.constants.specs.Setting.{per_pulse}
use Rattle.constants.specs.declared.SamplesPerPulse.{SamplesPerPulse}
use Rattle.le_read.specs.LeBytes.{overwritten}
use Rattle.run_call.specs.DueModel.{samples_of, clear_of, DueBuffers, due_of}
use Rattle.run_call.proofs.BuffersTest.{fits_if}

made : List Float → List Float → DueBuffers
made memory output = record { memory = memory; output = output }

module _ (s : SamplesPerPulse) (noise memory output memory' output' : List Float) (w k n : ℕ) (l : length memory ≡ working_memory (per_pulse s)) (in-noise : 2 * (k + n) ≤ length noise) (in-output : 2 * (k + n) ≤ length output)
    (e : record { memory = memory'; output = output' } ≡ due_of s noise w k n (record { memory = memory; output = output })) where
  both : made memory' output' ≡ made (clear_of s memory w n) (overwritten output (2 * k) (samples_of s memory w (take (2 * n) (drop (2 * k) noise))))
  unfolding due_of made
  both =
      e
      ∙ ap (λ (b : Bool). cond b (made (clear_of s memory w n) (overwritten output (2 * k) (samples_of s memory w (take (2 * n) (drop (2 * k) noise))))) (made memory output))
      (sym (fits_if s (length memory) (length noise) (length output) k n (record { memory_is = l; noise_holds = in-noise; output_holds = in-output })))

  pub samples_written_memory : memory' ≡ clear_of s memory w n
  unfolding made
  samples_written_memory = ap (λ (x : DueBuffers). x.memory) both

  pub samples_written_output : output' ≡ overwritten output (2 * k) (samples_of s memory w (take (2 * n) (drop (2 * k) noise)))
  unfolding made
  samples_written_output = ap (λ (x : DueBuffers). x.output) both
