-- Lines put one behind the other, from the first record to the end of the last page.
use Rattle.std.specs.Prelude.{None}
use Prim.Native.Nat.{ℕ, zero, suc, ◌+◌, ◌-◌, ◌*◌, ◌/◌, ◌≤◌, ◌<◌}
use mathlib.Core.Path.{◌≡◌, refl, sym, ap, ◌∙◌}
use mathlib.Core.Bool.{Bool, true, cond, ◌&&◌}
use mathlib.Core.List.{List, [], ◌∷◌, ◌++◌}
use native.Mathlib.Numerals.{add-one}
use native.Mathlib.Omega.{arith}
use lib.ListN.{length, drop, take, length-append, length-drop, length-replicate}
use lib.Seq.{take_all}
use borrow.Author.Tests.{le-leb}
use Rattle.le_read.specs.LeBytes.{inside, overwritten}
use Rattle.le_read.proofs.RoundTrip.{length_overwritten}
use Rattle.reply_record.proofs.Overwritten.{next}
use Rattle.record_check.specs.Accepted.{accepted}
use Rattle.record_check.specs.FirstFault.{first_fault}
use Rattle.record_check.specs.FaultLaws.{record_at}
use Rattle.record_check.proofs.Accepting.{in_range}
use Rattle.record_check.proofs.FaultLaws.{fault_laws}
use Rattle.page.specs.Line.{page_line, blank_line, with_feed, line_fits, line_at, blank_at}
use Rattle.page.proofs.Fields.{length_line}
use Rattle.page.specs.Pages.{page_count, record_lines, blank_lines, pages_text}
use Rattle.page.proofs.Judged.{pages_within}

with_feed_lem : (line : List ℕ) → length line ≡ 72 → length (with_feed line) ≡ 73
unfolding with_feed
with_feed_lem line e = length-append line (10 ∷ []) ∙ ap (λ (k : ℕ). k + 1) e

length_blank : length (with_feed blank_line) ≡ 73
unfolding blank_line
length_blank = with_feed_lem blank_line (length-replicate {A = ℕ} 72 32)

pub length_blanks : (n : ℕ) → length (blank_lines n) ≡ 73 * n
unfolding blank_lines
length_blanks zero = refl
length_blanks (suc n) = length-append (blank_lines n) (with_feed blank_line) ∙ omega (arith, length_blanks n, length_blank)

one_line : (k : ℕ) → blank_lines k ++ with_feed blank_line ≡ blank_lines (k + 1)
unfolding blank_lines
one_line k = ap blank_lines (sym (add-one k))

one_line_more : (k : ℕ) (records : List ℕ) → record_lines k records ++ with_feed (page_line (record_at records k)) ≡ record_lines (k + 1) records
unfolding record_lines
one_line_more k records = ap (λ (m : ℕ). record_lines m records) (sym (add-one k))

-- ---- lines of blanks, one more
module _ (n : ℕ) (s : List ℕ) (start : ℕ) (room : start + 73 * n ≤ length s) (out : List ℕ) (k : ℕ) (held : out ≡ overwritten s start (blank_lines k)) (h : k < n) where
  blank_length : length out ≡ length s
  blank_length = ap length held ∙ length_overwritten s start (blank_lines k) (omega (arith, length_blanks k))

  pub one_blank : {out' : List ℕ} → out' ≡ blank_at out (start + 73 * k) → out' ≡ overwritten s start (blank_lines (k + 1))
  unfolding blank_at
  one_blank {out'} e = next s start (73 * k) (blank_lines k) (with_feed blank_line) out out' (length_blanks k) (omega arith) held put_there ∙ ap (overwritten s start) (one_line k)
    where
      fits : inside 73 out (start + 73 * k) ≡ true
      fits = le-leb (start + 73 * k + 73) (length out) (omega (arith, blank_length))

      put_there : out' ≡ overwritten out (start + 73 * k) (with_feed blank_line)
      put_there = e ∙ ap (λ (t : Bool). cond t (overwritten out (start + 73 * k) (with_feed blank_line)) out) fits

-- ---- the lines of records, one more
module _ (records : List ℕ) (ok : first_fault records ≡ None) where
  accepted_at : (k : ℕ) → 66 * k + 66 ≤ length records → accepted (record_at records k) ≡ true
  accepted_at = (fault_laws records).all_accepted ok

  length_one : (k : ℕ) → 66 * k + 66 ≤ length records → length (with_feed (page_line (record_at records k))) ≡ 73
  length_one k h = with_feed_lem (page_line (record_at records k)) (length_line (record_at records k) (in_range (record_at records k) (accepted_at k h)))

  pub length_lines : (n : ℕ) → 66 * n ≤ length records → length (record_lines n records) ≡ 73 * n
  unfolding record_lines
  length_lines zero h = refl
  length_lines (suc n) h =
      length-append (record_lines n records) (with_feed (page_line (record_at records n)))
      ∙ omega (arith, length_lines n (omega arith), length_one n (omega arith))

  module _ (s : List ℕ) (room : 73 * (length records / 66) ≤ length s) (out : List ℕ) (k : ℕ) (held : out ≡ overwritten s 0 (record_lines k records)) (h : k < length records / 66) where
    filled_length : length out ≡ length s
    filled_length = ap length held ∙ length_overwritten s 0 (record_lines k records) (omega (arith, length_lines k (omega arith)))

    pub one_filled : {out' : List ℕ} → out' ≡ line_at (take (length records - 66 * k) (drop (66 * k) records)) out (73 * k) → out' ≡ overwritten s 0 (record_lines (k + 1) records)
    unfolding line_at line_fits
    one_filled {out'} e =
        next s 0 (73 * k) (record_lines k records) (with_feed (page_line (record_at records k))) out out' (length_lines k (omega arith)) (omega arith) held put_there
        ∙ ap (overwritten s 0) (one_line_more k records)
      where
        here : take (length records - 66 * k) (drop (66 * k) records) ≡ record_at records k
        here = take_all (length records - 66 * k) (drop (66 * k) records) (simp length-drop (omega arith))

        fits : line_fits (record_at records k) out (73 * k) ≡ true
        fits = (λ i. accepted_at k (omega arith) i && le-leb (73 * k + 73) (length out) (omega (arith, filled_length)) i)

        from : 73 * k ≡ 0 + 73 * k
        from = omega arith

        put_there : out' ≡ overwritten out (0 + 73 * k) (with_feed (page_line (record_at records k)))
        put_there =
            e ∙ ap (λ (r : List ℕ). line_at r out (73 * k)) here
            ∙ ap (λ (t : Bool). cond t (overwritten out (73 * k) (with_feed (page_line (record_at records k)))) out) fits
            ∙ ap (λ (m : ℕ). overwritten out m (with_feed (page_line (record_at records k)))) from

  -- ---- the pages
  module _ (s : List ℕ) {d e : List ℕ} (room : 4380 * page_count (length records / 66) ≤ length s) where
    pub pages_put : {pages blank start : ℕ} → pages ≡ page_count (length records / 66) → blank ≡ 60 * pages - length records / 66 → start ≡ 73 * (length records / 66) → d ≡ overwritten s 0 (record_lines (length records / 66) records)
        → e ≡ overwritten d start (blank_lines blank) → e ≡ overwritten s 0 (pages_text records)
    unfolding pages_text
    pages_put {pages} {blank} {start} g b z p q =
        let n = length records / 66 in
        let w = pages_within n in
        let m : start ≡ 0 + 73 * n = omega arith in
        next s 0 (73 * n) (record_lines n records) (blank_lines (60 * page_count n - n)) d e (length_lines n (omega arith)) (omega (arith, w.0, w.1)) p
        (q ∙ (λ i. overwritten d (m i) (blank_lines ((b ∙ ap (λ (k : ℕ). 60 * k - n) g) i))))
