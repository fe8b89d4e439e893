-- Words and floats read back from their bytes: `words_back` and `floats_back`.
use Prim.Native.Nat.{ℕ, ◌+◌, ◌^◌, ◌≤◌, ◌<◌}
use native.Mathlib.Nat.{mod-eq_of_lt}
use mathlib.Core.Path.{◌≡◌, refl, sym, ap, ◌∙◌}
use mathlib.Core.Bool.{Bool, cond}
use mathlib.Core.List.{List, [], ◌∷◌, ◌++◌, append_assoc}
use native.Mathlib.Omega.{arith}
use lib.Dec.{T}
use lib.ListN.{length, take, drop, length-append}
use lib.Seq.{take_at, drop_at}
use lib.Ieee.{Float, binary32, fits, of_bits, to_bits}
use lib.Ieee.Bits.{of_bits-to_bits, to_bits-lt}
use borrow.Author.Tests.{le-leb}
use Rattle.le_read.specs.LeBytes.{le_of, bytes_of, le_at, read_at, number_at}
use Rattle.le_read.proofs.Halves.{length_bytes}
use Rattle.le_read.proofs.RoundTrip.{le_bytes}
use Rattle.run_theory.specs.Each.{Each}
use Rattle.tape_sections.specs.Floats.{floats_of, float_bytes}
use Rattle.run_bytes.specs.Layout.{word_bytes}
use Rattle.run_bytes.specs.Reading.{words_at}

-- the n bytes of a number behind others
pub number_back : (n : ℕ) (front : List ℕ) (v : ℕ) (rest : List ℕ) (at : ℕ) → length front ≡ at → v < 256 ^ n → le_at n (front ++ (bytes_of n v ++ rest)) at ≡ v
unfolding le_at
number_back n front v rest at l h =
    ap (λ (b : List ℕ). le_of (take n b)) (drop_at front (bytes_of n v ++ rest) at l) ∙ ap le_of (take_at (bytes_of n v) rest n (length_bytes n v)) ∙ le_bytes n v ∙ mod-eq_of_lt h

word_back : (front : List ℕ) (v : ℕ) (rest : List ℕ) (at : ℕ) → length front ≡ at → v < 2 ^ 64 → number_at 8 (front ++ (bytes_of 8 v ++ rest)) at ≡ v
unfolding read_at
word_back front v rest at l h =
    let b = front ++ (bytes_of 8 v ++ rest) in
    let room : at + 8 ≤ length b = omega (arith, l, length-append front (bytes_of 8 v ++ rest), length-append (bytes_of 8 v) rest, length_bytes 8 v) in
    ap (λ (t : Bool). cond t (le_at 8 b at) 0) (le-leb (at + 8) (length b) room) ∙ number_back 8 front v rest at l h

-- words behind others, with more behind them
pub words_back : (ws front rest : List ℕ) (at : ℕ) → length front ≡ at → Each (λ w. w < 2 ^ 64) ws → words_at (length ws) (front ++ (word_bytes ws ++ rest)) at ≡ ws
unfolding words_at word_bytes
words_back [] front rest at l t = refl
words_back (w ∷ ws) front rest at l (h, t) =
    let b = front ++ (bytes_of 8 w ++ word_bytes ws ++ rest) in
    let one : b ≡ front ++ (bytes_of 8 w ++ (word_bytes ws ++ rest)) = ap (λ (x : List ℕ). front ++ x) (append_assoc (bytes_of 8 w) (word_bytes ws) rest) in
    let two : b ≡ front ++ bytes_of 8 w ++ (word_bytes ws ++ rest) = one ∙ sym (append_assoc front (bytes_of 8 w) (word_bytes ws ++ rest)) in
    let m : length (front ++ bytes_of 8 w) ≡ at + 8 = length-append front (bytes_of 8 w) ∙ omega (arith, l, length_bytes 8 w) in
    let first : number_at 8 b at ≡ w = ap (λ (x : List ℕ). number_at 8 x at) one ∙ word_back front w (word_bytes ws ++ rest) at l h in
    let others : words_at (length ws) b (at + 8) ≡ ws = ap (λ (x : List ℕ). words_at (length ws) x (at + 8)) two ∙ words_back ws (front ++ bytes_of 8 w) rest (at + 8) m t in
    λ i. first i ∷ others i

-- floats, with more bytes behind them
pub floats_back : (xs : List Float) (rest : List ℕ) → Each (λ x. T (fits binary32 x)) xs → floats_of (length xs) (float_bytes xs ++ rest) ≡ xs
unfolding floats_of float_bytes
floats_back [] rest t = refl
floats_back (x ∷ xs) rest (h, t) =
    let v = to_bits binary32 x in
    let b = bytes_of 4 v ++ float_bytes xs ++ rest in
    let one : b ≡ bytes_of 4 v ++ (float_bytes xs ++ rest) = append_assoc (bytes_of 4 v) (float_bytes xs) rest in
    let first : of_bits binary32 (le_at 4 b 0) ≡ x =
    ap (λ (y : List ℕ). of_bits binary32 (le_at 4 y 0)) one ∙ ap (of_bits binary32) (number_back 4 [] v (float_bytes xs ++ rest) 0 refl (to_bits-lt binary32 x h)) ∙ of_bits-to_bits binary32 x h in
    let others : floats_of (length xs) (drop 4 b) ≡ xs =
    ap (λ (y : List ℕ). floats_of (length xs) (drop 4 y)) one ∙ ap (floats_of (length xs)) (drop_at (bytes_of 4 v) (float_bytes xs ++ rest) 4 (length_bytes 4 v)) ∙ floats_back xs rest t in
    λ i. first i ∷ others i
