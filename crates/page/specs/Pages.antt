-- Records on paper (SPECIFICATION 11.5): their pages, and what is answered.
use Rattle.std.specs.Prelude.{Option, Some, None, Result, Ok, Err, ℕ, zero, suc, ◌+◌, ◌-◌, ◌*◌, ◌/◌, ◌%◌, is_ok, cond, List, [], ◌++◌, eqb, leb, length}
use Rattle.refusals.specs.declared.Refusal.{Refusal}
use Rattle.le_read.specs.LeBytes.{overwritten}
use Rattle.refusals.specs.declared.Refusal.TheVariants.{Length, Record}
use Rattle.record_check.specs.FirstFault.{first_fault}
use Rattle.record_check.specs.FaultLaws.{record_at}
use Rattle.page.specs.Line.{page_line, blank_line, with_feed}

-- the pages of n records, 60 on each; none for none
unfoldable pub page_count : ℕ → ℕ
page_count n = (n + 59) / 60

-- the lines of the first n records
unfoldable pub record_lines : ℕ → List ℕ → List ℕ
record_lines zero records = []
record_lines (suc n) records = record_lines n records ++ with_feed (page_line (record_at records n))

-- n lines of blanks
unfoldable pub blank_lines : ℕ → List ℕ
blank_lines zero = []
blank_lines (suc n) = blank_lines n ++ with_feed blank_line

-- the pages: all lines, and lines of blanks to the end of the last page
unfoldable pub pages_text : List ℕ → List ℕ
pages_text records = record_lines (length records / 66) records ++ blank_lines (60 * page_count (length records / 66) - length records / 66)

-- what is answered where the lengths are right: refusal 18 with the first record at fault, or the pages written
unfoldable pub by_fault : Option ℕ → ℕ → Result ℕ Refusal
by_fault None pages = Ok pages
by_fault (Some k) pages = Err (Record k)

-- what is answered for records and room in bytes: refusal 9 for record bytes no multiple of 66 or room for fewer bytes than the pages have, before 18
unfoldable pub pages_answer : List ℕ → ℕ → Result ℕ Refusal
pages_answer records room =
    cond (eqb (length records % 66) 0)
    (cond (leb (4380 * page_count (length records / 66)) room) (by_fault (first_fault records) (page_count (length records / 66))) (Err Length))
    (Err Length)

-- the buffer after it: the pages from its start on, or as it was
unfoldable pub pages_left : List ℕ → List ℕ → List ℕ
pages_left records out = cond (is_ok (pages_answer records (length out))) (overwritten out 0 (pages_text records)) out
