-- The lines of records do not depend on what stands behind them: the text of a run with its records at the start of a buffer is that of its records alone (`run-text-over`).
use Prim.Native.Nat.{ℕ, zero, suc, ◌+◌, ◌*◌, ◌/◌, ◌≤◌, ◌<◌, min}
use mathlib.Core.Bool.{cond}
use mathlib.Core.List.{List, [], ◌∷◌, ◌++◌, append_assoc}
use mathlib.Core.Path.{◌≡◌, refl, sym, ap, ◌∙◌}
use native.Mathlib.Omega.{arith}
use lib.Dec.{eqb, lit<}
use lib.ListN.{length, get_or, take, drop, length-drop, get_or-append}
use lib.Seq.{drop_at, take-append-le, drop-append-le}
use Rattle.le_read.specs.LeBytes.{le_of, le_at}
use Rattle.run_theory.specs.PlainBench.{join, over}
use Rattle.run_call_model.proofs.FlatLists.{AllOf, length_join, length_over}
use Rattle.tape_text.specs.Text.{number, hex_line, message_of, line_of, lines_of, header, samples_word, run_text}

module _ (l xs : List ℕ) (h : length l ≡ 66) where
  part : (n at : ℕ) → n + at ≤ 66 → take n (drop at (l ++ xs)) ≡ take n (drop at l)
  part n at p = ap (take n) (drop-append-le at l xs (omega (arith, h))) ∙ take-append-le n (drop at l) xs (omega (arith, h, length-drop at l))

  byte : (n : ℕ) → n < 66 → get_or (l ++ xs) n 0 ≡ get_or l n 0
  byte n p = get_or-append l xs 0 n (omega (arith, h))

  message_first : message_of (l ++ xs) ≡ message_of l
  unfolding message_of
  message_first = λ i. cond (eqb (byte 48 (lit< tt) i) 6) (byte 53 (lit< tt) i ∷ byte 52 (lit< tt) i ∷ []) (take (byte 51 (lit< tt) i) (part 14 52 (omega arith) i))

  line_first : line_of (l ++ xs) ≡ line_of l
  unfolding line_of le_at
  line_first = λ i. number (le_of (part 8 40 (omega arith) i)) 32 ++ number (byte 48 (lit< tt) i) 32 ++ number (le_of (part 2 49 (omega arith) i)) 32 ++ hex_line (message_first i)

lines_first : (n : ℕ) (ls : List (List ℕ)) (rest : List ℕ) → AllOf 66 ls → n ≤ length ls → lines_of n (join ls ++ rest) ≡ lines_of n (join ls)
unfolding lines_of
lines_first zero ls rest a h = refl
lines_first (suc n) [] rest a h = absurd (omega arith)
lines_first (suc n) (l ∷ ls) rest a h =
    ap (λ (r : List ℕ). line_of r ++ lines_of n (drop 66 r)) (append_assoc l (join ls) rest)
    ∙ (λ i. line_first l (join ls ++ rest) a.0 i ++ lines_of n (drop_at l (join ls ++ rest) 66 a.0 i))
    ∙ ap (λ (t : List ℕ). line_of l ++ t) (lines_first n ls rest a.1 (omega arith))
    ∙ sym (λ i. line_first l (join ls) a.0 i ++ lines_of n (drop_at l (join ls) 66 a.0 i))

pub run_text_over : (ls : List (List ℕ)) (buffer : List ℕ) (samples : ℕ) → AllOf 66 ls → 66 * length ls ≤ length buffer → run_text (over (join ls) buffer) (length ls) samples ≡ run_text (join ls) (length ls) samples
unfolding run_text
run_text_over ls buffer samples a h =
    ap (λ (n : ℕ). header ++ lines_of n (over (join ls) buffer) ++ samples_word ++ number samples 10) same
    ∙ ap (λ (t : List ℕ). header ++ t ++ samples_word ++ number samples 10) (lines_first (min (length ls) (min (length (join ls) / 66) 400)) ls (drop (length (join ls)) buffer) a (omega arith))
  where
    same : min (length ls) (min (length (over (join ls) buffer) / 66) 400) ≡ min (length ls) (min (length (join ls) / 66) 400)
    same = omega (arith, length_join 66 ls a, length_over (join ls) buffer (omega (arith, length_join 66 ls a)))

-- the text's bound of 400 lines is idle where there are no more records, as on a tape, which has 400 draws at most
pub every_line : (ls : List (List ℕ)) (samples : ℕ) → AllOf 66 ls → length ls ≤ 400 → run_text (join ls) (length ls) samples ≡ header ++ lines_of (length ls) (join ls) ++ samples_word ++ number samples 10
unfolding run_text
every_line ls samples a h = ap (λ (n : ℕ). header ++ lines_of n (join ls) ++ samples_word ++ number samples 10) {x = min (length ls) (min (length (join ls) / 66) 400)} {y = length ls} (omega (arith, length_join 66 ls a))
