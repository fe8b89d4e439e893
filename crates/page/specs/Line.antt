-- A line of the record on paper (SPECIFICATION 11.5). Text is a list of ASCII codes.
use Rattle.std.specs.Prelude.{ℕ, ◌-◌, Bool, cond, ◌&&◌, List, [], ◌∷◌, ◌++◌, length, replicate}
use Rattle.le_read.specs.LeBytes.{inside, overwritten}
use Rattle.record_check.specs.Accepted.{first_sample, type_of, count_of, accepted}
use Rattle.tape_text.specs.Text.{decimal, hex, message_of}

-- blanks are spaces
abbrev pub blanks : ℕ → List ℕ
blanks n = replicate n 32

unfoldable pub right_aligned : ℕ → List ℕ → List ℕ
right_aligned width text = blanks (width - length text) ++ text

unfoldable pub left_aligned : ℕ → List ℕ → List ℕ
left_aligned width text = text ++ blanks (width - length text)

-- a number right-aligned in its columns, and a space
unfoldable pub number_field : ℕ → ℕ → List ℕ
number_field width n = right_aligned width (decimal n) ++ (32 ∷ [])

-- first sample in 16, type in 1, count in 4
unfoldable pub numbers : ℕ → ℕ → ℕ → List ℕ
numbers first type count = number_field 16 first ++ number_field 1 type ++ number_field 4 count

-- a message in hexadecimal in 28, then 20 blanks
unfoldable pub message_field : List ℕ → List ℕ
message_field message = left_aligned 28 (hex message) ++ blanks 20

-- the line of a record, without its line feed
unfoldable pub page_line : List ℕ → List ℕ
page_line r = numbers (first_sample r) (type_of r) (count_of r) ++ message_field (message_of r)

-- a line of blanks
unfoldable pub blank_line : List ℕ
blank_line = blanks 72

-- a line and its line feed
unfoldable pub with_feed : List ℕ → List ℕ
with_feed line = line ++ (10 ∷ [])

-- ---- one line put at an offset of a buffer
-- whether the record at the start of the bytes is accepted, and 73 bytes are left from the offset
unfoldable pub line_fits : List ℕ → List ℕ → ℕ → Bool
line_fits r out at = accepted r && inside 73 out at

-- the buffer after it; as it was where it does not fit
unfoldable pub line_at : List ℕ → List ℕ → ℕ → List ℕ
line_at r out at = cond (line_fits r out at) (overwritten out at (with_feed (page_line r))) out

unfoldable pub blank_at : List ℕ → ℕ → List ℕ
blank_at out at = cond (inside 73 out at) (overwritten out at (with_feed blank_line)) out
