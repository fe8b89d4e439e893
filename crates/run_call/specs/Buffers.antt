-- What a run call is given beside what opening was given, and what it answers and leaves.
use Rattle.std.specs.Prelude.{ℕ, List, Float}
use Rattle.run_call.specs.declared.Ran.{Ran}

-- what a call answers, and what it leaves in its buffers
pub record Left : Type 0 where
  pub ran : Ran
  pub memory : List Float
  pub output : List Float
  pub records : List ℕ

-- the buffers of a run call, beside those of opening
pub record CallBuffers : Type 0 where
  pub draws : List ℕ
  pub noise : List Float
  pub output : List Float
  pub records : List ℕ
