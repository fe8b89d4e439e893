-- The claim that no NaN is stored of an opened run: `NoNan`, at the end of this file. Its prototypes are at most 16 in size and working memory at most 2^53 after every list of run calls, refused ones among them; neither an infinity nor a NaN is.
use Rattle.std.specs.Prelude.{List, ℕ, ◌≡◌, true, Float}
use Rattle.pulse_shape.specs.Accepted.{all_within16}
use Rattle.run_theory.specs.Each.{Each}
use Rattle.run_call.specs.Buffers.{Left, CallBuffers}
use Rattle.run_open.specs.Opening as Opening
use Rattle.run_theorem.specs.OpenedRuns as Runs

pub record Finite (r : Runs.Run) : Type 0 where
  pub mode_s : all_within16 r.buffers.mode_s ≡ true
  pub mode_ac : all_within16 r.buffers.mode_ac ≡ true
  pub memory : (cs : List CallBuffers) → Each (λ (l : Left). Each Runs.Finite53 l.memory) (Runs.calls r cs)

abbrev pub NoNan : Type 0
NoNan = (taps_s taps_ac : List Float) (settings : List ℕ) (given : Opening.OpenBuffers) (r : Runs.Run) → Runs.Opens taps_s taps_ac settings given r → Finite r
