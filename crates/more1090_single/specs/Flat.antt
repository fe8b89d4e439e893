-- What one reply alone answers, as C has it: the number and values of a refusal (SPECIFICATION 3.1), or 0.
use Rattle.std.specs.Prelude.{Result, Ok, Err}
use Rattle.refusals.specs.declared.Refusal.{Refusal}
use Rattle.refusals.specs.Number.{number_of}
use Rattle.refusals.specs.Flat.{values_flat}
use Rattle.more1090_single.specs.declared.FlatSingle.{FlatSingle}

unfoldable pub refusal_flat : Refusal → FlatSingle
refusal_flat q = record { refusal = number_of q; value = (values_flat q).value; field = (values_flat q).field }

unfoldable pub single_flat : Result (Unit {0}) Refusal → FlatSingle
single_flat (Ok tt) = record { refusal = 0; value = 0; field = 0 }
single_flat (Err q) = refusal_flat q
