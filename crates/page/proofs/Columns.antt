-- The columns of a number, put from the last to the first; and blanks.
use Prim.Native.Nat.{ℕ, zero, suc, ◌+◌, ◌-◌, ◌/◌, ◌≤◌, ◌<◌}
use mathlib.Core.Path.{◌≡◌, sym, ap, ◌∙◌}
use mathlib.Core.List.{List, [], ◌∷◌, ◌++◌, append_assoc, append-nil}
use native.Mathlib.Omega.{arith}
use lib.ListN.{length, take, drop, set, replicate, length-replicate, length-take, length-drop}
use borrow.Rule.Slice.PartMut.{put_mid}
use Rattle.tape_text.proofs.Puts.{mid_overwritten}
use Rattle.le_read.specs.LeBytes.{overwritten}
use Rattle.le_read.proofs.Halves.{overwritten_one}
use Rattle.le_read.proofs.RoundTrip.{length_overwritten}
use Rattle.reply_record.proofs.Overwritten.{none_overwritten, next}
use Rattle.page.specs.Line.{blanks}
use Rattle.page.specs.TensModel.{tens_digit, tens}
use Rattle.page.proofs.Laid.{in_front}

-- k columns are left, with the rest of the number; those behind are put
pub record Going (n width : ℕ) (s : List ℕ) (at : ℕ) (out : List ℕ) (k rest : ℕ) : Type 0 where
  pub behind : List ℕ
  pub count : k + length behind ≡ width
  pub held : out ≡ overwritten s (at + k) behind
  pub joined : tens k rest ++ behind ≡ tens width n

columns : (j rest : ℕ) (ys : List ℕ) → tens j (rest / 10) ++ (tens_digit rest ∷ ys) ≡ tens (suc j) rest ++ ys
unfolding tens
columns j rest ys = sym (append_assoc (tens j (rest / 10)) (tens_digit rest ∷ []) ys)

none_before : (k rest : ℕ) (ys : List ℕ) → k ≡ 0 → ys ≡ tens k rest ++ ys
unfolding tens
none_before k rest ys e = sym (ap (λ (m : ℕ). tens m rest ++ ys) e)

module _ (n width : ℕ) (s : List ℕ) (at : ℕ) where
  pub at_last : (k : ℕ) → k ≡ width → Going n width s at s k n
  at_last k e = record { behind = []; count = omega arith; held = none_overwritten s (at + k); joined = append-nil (tens k n) ∙ ap (λ (m : ℕ). tens m n) e }

  pub one_less : (out : List ℕ) (k rest : ℕ) {digit column less : ℕ} → at + width ≤ length s → 0 < k → Going n width s at out k rest → digit ≡ tens_digit rest → column ≡ at + (k - 1) → less ≡ k - 1
      → Going n width s at (set out column digit) less (rest / 10)
  one_less out zero rest h z g e q o = absurd (omega arith)
  one_less out (suc j) rest {digit} {column} {less} h z g e q o = record {
    behind = tens_digit rest ∷ g.behind;
    count = omega (arith, g.count);
    held =
        (λ i. set (g.held i) (q i) (e i))
        ∙ (λ i. set (overwritten s (place i) g.behind) (at + here i) (tens_digit rest))
        ∙ in_front s (at + j) g.behind (tens_digit rest) (omega (arith, g.count))
        ∙ ap (λ (m : ℕ). overwritten s (at + m) (tens_digit rest ∷ g.behind)) (sym there);
    joined = ap (λ (m : ℕ). tens m (rest / 10) ++ (tens_digit rest ∷ g.behind)) there ∙ by_column;
  }
    where
      here : suc j - 1 ≡ j
      here = omega arith

      there : less ≡ j
      there = omega arith

      place : at + suc j ≡ at + j + 1
      place = omega arith

      by_column : tens j (rest / 10) ++ (tens_digit rest ∷ g.behind) ≡ tens width n
      by_column = columns j rest g.behind ∙ g.joined

  pub at_first : (out : List ℕ) (k rest : ℕ) → k ≤ 0 → Going n width s at out k rest → out ≡ overwritten s at (tens width n)
  at_first out k rest z g =
      let e : k ≡ 0 = omega arith in
      let start : at + k ≡ at = omega arith in
      let all : g.behind ≡ tens width n = none_before k rest g.behind e ∙ g.joined in
      g.held ∙ (λ i. overwritten s (start i) (all i))

-- ---- blanks
-- a part filled with blanks
pub blanks_put : (s : List ℕ) (at n k : ℕ) (xs : List ℕ) → at + n < length s → k ≡ n → xs ≡ replicate (length (take k (drop at s))) 32 → put_mid at k s xs ≡ overwritten s at (blanks n)
blanks_put s at n k xs h e p =
    let l : length (take k (drop at s)) ≡ n = simp (length-take, length-drop) (omega arith) in
    ap (put_mid at k s) (p ∙ ap (λ (m : ℕ). replicate m 32) l) ∙ mid_overwritten s at k (blanks n) (e ∙ sym (length-replicate {A = ℕ} n 32))

-- a byte behind bytes that are put
pub byte_behind : (s : List ℕ) (at k : ℕ) (xs d : List ℕ) (b : ℕ) → length xs ≡ k → at + k < length s → d ≡ overwritten s at xs → set d (at + k) b ≡ overwritten s at (xs ++ (b ∷ []))
byte_behind s at k xs d b l h p =
    let m : length d ≡ length s = ap length p ∙ length_overwritten s at xs (omega arith) in
    next s at k xs (b ∷ []) d (set d (at + k) b) l (omega arith) p (overwritten_one d (at + k) b (omega arith))
