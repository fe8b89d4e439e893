-- Words and floats written behind what was written: one word more (`write_word`), and the part of a slice that a row of floats fills (`part_written`).
use Rattle.std.specs.Prelude.{min}
use Prim.Native.Nat.{ℕ, ◌+◌, ◌-◌, ◌*◌, ◌/◌, ◌≤◌, ◌<◌}
use mathlib.Core.Path.{◌≡◌, refl, sym, ap, ◌∙◌}
use mathlib.Core.List.{List, [], ◌∷◌, ◌++◌, append_assoc, append-nil}
use native.Mathlib.Numerals.{add-one}
use native.Mathlib.Omega.{arith}
use lib.ListN.{length, get_or, take, drop, length-append, length-drop, drop_of_length-le}
use lib.Seq.{take-suc, take_all, length-take-le}
use lib.Ieee.{Float}
use borrow.Rule.Slice.PartMut.{put_mid, mid_of, Post-is}
use Rattle.le_read.specs.LeBytes.{bytes_of, overwritten, put}
use Rattle.le_read.proofs.Halves.{length_bytes}
use Rattle.reply_record.proofs.Overwritten.{next_put}
use Rattle.tape_sections.specs.Floats.{float_bytes}
use Rattle.tape_sections.proofs.Rows.{length_float_bytes}
use Rattle.run_bytes.specs.Layout.{word_bytes}

pub length_words : (ws : List ℕ) → length (word_bytes ws) ≡ 8 * length ws
unfolding word_bytes
length_words [] = refl
length_words (w ∷ ws) = length-append (bytes_of 8 w) (word_bytes ws) ∙ omega (arith, length_bytes 8 w, length_words ws)

pub words_of_both : (xs ys : List ℕ) → word_bytes (xs ++ ys) ≡ word_bytes xs ++ word_bytes ys
unfolding word_bytes
words_of_both [] ys = refl
words_of_both (x ∷ xs) ys = ap (λ (l : List ℕ). bytes_of 8 x ++ l) (words_of_both xs ys) ∙ sym (append_assoc (bytes_of 8 x) (word_bytes xs) (word_bytes ys))

pub write_word : (v s d : List ℕ) (at k z : ℕ) → k < length v → at + 8 * length v ≤ length s → d ≡ overwritten s at (word_bytes (take k v))
    → put 8 d (at + 8 * k) (get_or v k z) ≡ overwritten s at (word_bytes (take (k + 1) v))
unfolding word_bytes
write_word v s d at k z h g p =
    let l : length (word_bytes (take k v)) ≡ 8 * k = length_words (take k v) ∙ ap (λ (n : ℕ). 8 * n) (length-take-le k v (omega arith)) in
    let x = get_or v k z in
    next_put s at (8 * k) (word_bytes (take k v)) 8 x d (put 8 d (at + 8 * k) x) l (omega arith) p refl
    ∙ ap (overwritten s at)
    (ap (λ (m : List ℕ). word_bytes (take k v) ++ m) (sym (append-nil (bytes_of 8 x)))
    ∙ sym (words_of_both (take k v) (x ∷ []))
    ∙ ap word_bytes (sym (ap (λ (n : ℕ). take n v) (add-one k) ∙ take-suc v k z h)))

-- all of a list written over
pub whole_written : (d bs : List ℕ) → length bs ≡ length d → overwritten d 0 bs ≡ bs
unfolding overwritten
whole_written d bs e = ap (λ (l : List ℕ). bs ++ l) (drop_of_length-le d {i = 0 + length bs} (omega arith)) ∙ append-nil bs

-- a part of a slice that a row of floats fills
pub part_written : (s : List ℕ) (at n : ℕ) (xs : List Float) (r : ℕ) (part : List ℕ) → n ≡ at + 4 * length xs → n ≤ length s → r ≡ min (length xs) (length (mid_of at (n - at) s) / 4)
    → part ≡ overwritten (mid_of at (n - at) s) 0 (float_bytes (take r xs)) → put_mid at (n - at) s part ≡ overwritten s at (float_bytes xs)
unfolding overwritten
part_written s at n xs r part e h q p =
    let bs = float_bytes xs in
    let l : length bs ≡ 4 * length xs = length_float_bytes xs in
    let m : length (mid_of at (n - at) s) ≡ 4 * length xs = length-take-le (n - at) (drop at s) (simp length-drop (omega arith)) ∙ omega arith in
    let t : take r xs ≡ xs = take_all r xs (omega (arith, q, m)) in
    let w : part ≡ bs = p ∙ ap (λ (ys : List Float). overwritten (mid_of at (n - at) s) 0 (float_bytes ys)) t ∙ whole_written (mid_of at (n - at) s) bs (omega (arith, l, m)) in
    ap (put_mid at (n - at) s) w
    ∙ ap (λ (z : List ℕ). take at s ++ (bs ++ z)) (Post-is at n s (omega arith))
    ∙ ap (λ (k : ℕ). take at s ++ (bs ++ drop k s)) {x = n} {y = at + length bs} (omega (arith, l))
    ∙ sym (append_assoc (take at s) bs (drop (at + length bs) s))
