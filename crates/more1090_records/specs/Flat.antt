-- Pages and lines as C has them.
use Rattle.std.specs.Prelude.{Option, Some, None, Result, Ok, Err, ℕ, List, replicate}
use Rattle.refusals.specs.declared.Refusal.{Refusal}
use Rattle.refusals.specs.Number.{number_of}
use Rattle.refusals.specs.Flat.{values_flat}
use Rattle.page.specs.declared.LineFields.{LineFields}
use Rattle.more1090_records.specs.declared.FlatPages.{FlatPages}
use Rattle.more1090_records.specs.declared.FlatLine.{FlatLine}

-- refusal 0 is none; the value is 0 where there is none
unfoldable pub flat_answer : Result ℕ Refusal → FlatPages
flat_answer (Ok pages) = record { refusal = 0; value = 0; pages = pages }
flat_answer (Err refusal) = record { refusal = number_of refusal; value = (values_flat refusal).value; pages = 0 }

-- all fields but the message; found is 1 of a record's line, else all are 0
unfoldable pub flat_line : Option LineFields → FlatLine
flat_line (Some f) = record { found = 1; first = f.first; kind = f.kind; count = f.count; size = f.size }
flat_line None = record { found = 0; first = 0; kind = 0; count = 0; size = 0 }

-- the message, zeros where there is none
unfoldable pub line_message : Option LineFields → List ℕ
line_message (Some f) = f.message
line_message None = replicate 14 0
