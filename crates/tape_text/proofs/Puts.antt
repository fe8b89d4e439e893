-- Text put part after part, and the bytes of a hexadecimal text.
use Prim.Native.Nat.{ℕ, ◌+◌, ◌*◌, ◌/◌, ◌%◌, ◌≤◌, ◌<◌}
use mathlib.Core.Path.{◌≡◌, refl, sym, ap, ◌∙◌}
use mathlib.Core.List.{List, [], ◌∷◌, ◌++◌}
use native.Mathlib.Omega.{arith}
use native.Mathlib.Numerals.{add-one}
use lib.ListN.{length, get_or, take, drop, length-append}
use lib.Seq.{take-suc, take_all, length-take-le}
use borrow.Rule.Slice.PartMut.{put_mid}
use Rattle.std.proofs.lemmas.Slice.{put_mid-paste}
use Rattle.le_read.specs.LeBytes.{overwritten}
use Rattle.le_read.proofs.RoundTrip.{length_overwritten}
use Rattle.reply_record.proofs.Overwritten.{next}
use Rattle.tape_text.specs.Text.{hex_digit, hex, Put}

-- xs was put, then ys behind it
pub then_put : {xs ys s d e : List ℕ} {at a b : ℕ} → at + length xs ≤ length s → Put xs s at d a → Put ys d a e b → Put (xs ++ ys) s at e b
then_put {xs} {ys} {s} {d} {e} {at} {a} {b} h p q = record {
  held = next s at (length xs) xs ys d e refl h p.held (q.held ∙ ap (λ (n : ℕ). overwritten d n ys) p.ends);
  ends = q.ends ∙ omega (arith, p.ends, length-append xs ys);
}

-- a buffer keeps its length
pub put_length : {xs s d : List ℕ} {at a : ℕ} → at + length xs ≤ length s → Put xs s at d a → length d ≡ length s
put_length {xs} {s} {d} {at} h p = ap length p.held ∙ length_overwritten s at xs h

pub hex_append : (xs ys : List ℕ) → hex (xs ++ ys) ≡ hex xs ++ hex ys
unfolding hex
hex_append [] ys = refl
hex_append (x ∷ xs) ys = ap (λ (l : List ℕ). hex_digit (x / 16) ∷ hex_digit (x % 16) ∷ l) (hex_append xs ys)

pub length_hex : (xs : List ℕ) → length (hex xs) ≡ 2 * length xs
unfolding hex
length_hex [] = refl
length_hex (x ∷ xs) = omega (arith, length_hex xs)

-- one more byte in hexadecimal, of the first n
pub hex_of_first : (s : List ℕ) (at : ℕ) (b : List ℕ) (n k : ℕ) (d e : List ℕ) → k < n → n ≤ length b → at + 2 * n ≤ length s → d ≡ overwritten s at (hex (take k b)) → e ≡ overwritten d (at + 2 * k) (hex (get_or b k 0 ∷ []))
    → e ≡ overwritten s at (hex (take (k + 1) b))
hex_of_first s at b n k d e h m r p q =
    let l : length (hex (take k b)) ≡ 2 * k = length_hex (take k b) ∙ ap (λ (n : ℕ). 2 * n) (length-take-le k b (omega arith)) in
    next s at (2 * k) (hex (take k b)) (hex (get_or b k 0 ∷ [])) d e l (omega arith) p q
    ∙ ap (overwritten s at) (sym (hex_append (take k b) (get_or b k 0 ∷ [])) ∙ ap hex (sym (ap (λ (n : ℕ). take n b) (add-one k) ∙ take-suc b k 0 (omega arith))))

-- bytes copied over a part of as many
pub mid_overwritten : (s : List ℕ) (at k : ℕ) (bs : List ℕ) → k ≡ length bs → put_mid at k s bs ≡ overwritten s at bs
unfolding overwritten
mid_overwritten s at k bs e =
    put_mid-paste at k s bs bs k refl refl e
    ∙ ap (λ (l : List ℕ). take at s ++ l ++ drop (at + k) s) (take_all k bs (omega arith))
    ∙ ap (λ (n : ℕ). take at s ++ bs ++ drop (at + n) s) e

-- a byte as two digits
pub hex_byte : (s : List ℕ) (at b high low : ℕ) (d e : List ℕ) → at + 2 ≤ length s → high ≡ hex_digit (b / 16) → low ≡ hex_digit (b % 16) → d ≡ overwritten s at (high ∷ []) → e ≡ overwritten d (at + 1) (low ∷ []) → e ≡ overwritten s at (hex (b ∷ []))
unfolding hex
hex_byte s at b high low d e h p q r t = next s at 1 (high ∷ []) (low ∷ []) d e refl (omega arith) r t ∙ (λ i. overwritten s at (p i ∷ q i ∷ []))
