-- What is known where refusal 9 is not given.
use mathlib.Core.Path.{◌≡◌, refl, sym}
use mathlib.Core.Bool.{Bool, true, false, not, ◌||◌, false≢true}
use Prim.Native.Nat.{ℕ}
use lib.Dec.{eqb}
use borrow.Author.Tests.{eqb-true}
use Rattle.constants.specs.Rate.{working_memory, prototype_length}
use Rattle.constants.specs.Setting.{per_pulse}
use Rattle.constants.specs.declared.SamplesPerPulse.{SamplesPerPulse}
use Rattle.run_call.specs.Checks.{wrong_memory}
use Rattle.run_call.specs.ChecksModel.{wrong_buffers}

-- memory that is not refused has its length
pub right_memory : (s : SamplesPerPulse) (memory mode_s mode_ac output draws : ℕ) → (wrong_memory (per_pulse s) memory mode_s mode_ac || wrong_buffers output draws) ≡ false → memory ≡ working_memory (per_pulse s)
right_memory s memory mode_s mode_ac output draws e = go (eqb memory (working_memory (per_pulse s))) refl e
  where
    go : (x : Bool) → eqb memory (working_memory (per_pulse s)) ≡ x → ((not x || not (eqb mode_s (prototype_length (per_pulse s))) || not (eqb mode_ac (prototype_length (per_pulse s)))) || wrong_buffers output draws) ≡ false → memory ≡ working_memory (per_pulse s)
    go true p q = eqb-true memory (working_memory (per_pulse s)) p
    go false p q = absurd (false≢true (sym q))
