-- What a function answers: what it accepts, or a refusal, whose number and values `Number` gives.
use Rattle.std.specs.Prelude.{Option, Some, None, Result, Ok, Err}
use Rattle.refusals.specs.declared.Refusal.{Refusal}

-- what is accepted where there is no refusal
unfoldable pub unless : {A : Type 0} → Option Refusal → A → Result A Refusal
unless None a = Ok a
unless (Some refusal) a = Err refusal
