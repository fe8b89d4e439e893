-- What one reply alone answers: that its samples are made, or a refusal, whose number and values `refusals` gives.
use Rattle.std.specs.Prelude.{Result, Ok, Err}
use Rattle.refusals.specs.declared.Refusal.{Refusal}
use Rattle.run_call.specs.declared.State.{State}

unfoldable pub answer_of : Result State Refusal → Result (Unit {0}) Refusal
answer_of (Ok state) = Ok tt
answer_of (Err refusal) = Err refusal
