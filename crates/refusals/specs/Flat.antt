-- The values that are returned beside a refusal's number (SPECIFICATION 3.1), as two numbers.
use Rattle.std.specs.Prelude.{get_or}
use Rattle.refusals.specs.declared.Refusal.{Refusal}
use Rattle.refusals.specs.Number.{values_of}
use Rattle.refusals.specs.declared.Values.{Values}

-- 0 where there is none
unfoldable pub values_flat : Refusal → Values
values_flat q = record { value = get_or (values_of q) 0 0; field = get_or (values_of q) 1 0 }
