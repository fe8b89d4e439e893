-- The claim on lines (SPECIFICATION 11.6): the line of every accepted record has exactly 72 bytes, and reading it gives the record's four fields back.
use Rattle.std.specs.Prelude.{Some, ℕ, ◌+◌, ◌<◌, true, List, ◌≡◌, length, get_or}
use Rattle.record_check.specs.Accepted.{first_sample, type_of, count_of, length_of, accepted}
use Rattle.page.specs.Line.{page_line}
use Rattle.page.specs.declared.LineFields.{LineFields}
use Rattle.page.specs.Fields.{fields_of}

-- a list of bytes, as every slice of u8 is
abbrev pub Bytes : List ℕ → Type 0
Bytes r = (i : ℕ) → get_or r i 0 < 256

pub record ReadBack (r : List ℕ) : Type 0 where
  pub width : length (page_line r) ≡ 72
  pub fields : LineFields
  pub found : fields_of (page_line r) ≡ Some fields
  pub first : fields.first ≡ first_sample r
  pub type : fields.kind ≡ type_of r
  pub count : fields.count ≡ count_of r
  pub size : fields.size ≡ length_of r
  -- each byte of the message, in the record's order
  pub message : (k : ℕ) → k < length_of r → get_or fields.message k 0 ≡ get_or r (52 + k) 0

abbrev pub EveryLine : Type 0
EveryLine = (r : List ℕ) → accepted r ≡ true → Bytes r → ReadBack r
