-- The text of a run with the records that were written is that with the whole room for them (`text_taken`): a line depends on the bytes of its own record alone.
use Prim.Native.Nat.{ℕ, zero, suc, ◌+◌, ◌-◌, ◌*◌, ◌/◌, ◌≤◌, ◌<◌, min}
use mathlib.Core.Bool.{cond}
use mathlib.Core.List.{List, [], ◌∷◌, ◌++◌}
use mathlib.Core.Path.{◌≡◌, refl, ap, ◌∙◌}
use native.Mathlib.Omega.{arith}
use lib.Dec.{eqb, lit<}
use lib.ListN.{length, get_or, take, drop, length-take}
use lib.Seq.{take-take}
use Rattle.std.proofs.lemmas.List.{drop-take, get_or-take}
use Rattle.le_read.specs.LeBytes.{le_of, le_at}
use Rattle.tape_text.specs.Text.{number, hex_line, message_of, line_of, lines_of, header, samples_word, run_text}

module _ (m : ℕ) (r : List ℕ) (h : 66 ≤ m) where
  part : (k at : ℕ) → at + k ≤ 66 → take k (drop at (take m r)) ≡ take k (drop at r)
  part k at p =
      ap (λ (x : ℕ). take k (drop at (take x r))) {x = m} {y = at + (m - at)} (omega arith)
      ∙ ap (take k) (drop-take at (m - at) r)
      ∙ take-take k (m - at) (drop at r) (omega arith)

  byte : (n : ℕ) → n < 66 → get_or (take m r) n 0 ≡ get_or r n 0
  byte n p = get_or-take m r n 0 (omega arith)

  message_taken : message_of (take m r) ≡ message_of r
  unfolding message_of
  message_taken = λ i. cond (eqb (byte 48 (lit< tt) i) 6) (byte 53 (lit< tt) i ∷ byte 52 (lit< tt) i ∷ []) (take (byte 51 (lit< tt) i) (part 14 52 (omega arith) i))

  line_taken : line_of (take m r) ≡ line_of r
  unfolding line_of le_at
  line_taken = λ i. number (le_of (part 8 40 (omega arith) i)) 32 ++ number (byte 48 (lit< tt) i) 32 ++ number (le_of (part 2 49 (omega arith) i)) 32 ++ hex_line (message_taken i)

lines_taken : (k n : ℕ) (r : List ℕ) → k ≤ n → lines_of k (take (66 * n) r) ≡ lines_of k r
unfolding lines_of
lines_taken zero n r h = refl
lines_taken (suc k) zero r h = absurd (omega arith)
lines_taken (suc k) (suc n) r h =
    (λ i. line_taken (66 * suc n) r (omega arith) i ++ lines_of k (rest i))
    ∙ ap (λ (t : List ℕ). line_of r ++ t) (lines_taken k n (drop 66 r) (omega arith))
  where
    rest : drop 66 (take (66 * suc n) r) ≡ take (66 * n) (drop 66 r)
    rest = ap (λ (x : ℕ). drop 66 (take x r)) {x = 66 * suc n} {y = 66 + 66 * n} (omega arith) ∙ drop-take 66 (66 * n) r

pub text_taken : (n s : ℕ) (r : List ℕ) → run_text (take (66 * n) r) (length (take (66 * n) r) / 66) s ≡ run_text r n s
unfolding run_text
text_taken n s r =
    ap (λ (k : ℕ). header ++ lines_of k (take (66 * n) r) ++ samples_word ++ number s 10) same
    ∙ ap (λ (t : List ℕ). header ++ t ++ samples_word ++ number s 10) (lines_taken (min n (min (length r / 66) 400)) n r (omega arith))
  where
    same : min (length (take (66 * n) r) / 66) (min (length (take (66 * n) r) / 66) 400) ≡ min n (min (length r / 66) 400)
    same = omega (arith, length-take (66 * n) r)
