-- Words read one after the other (`read_word`), and the sums of bytes, one byte more each (`next_sum`).
use Prim.Native.Nat.{ℕ, zero, suc, ◌+◌, ◌*◌, ◌<◌}
use mathlib.Core.Path.{◌≡◌, refl, sym, ap, ◌∙◌}
use mathlib.Core.List.{List, [], ◌∷◌, ◌++◌, append_assoc}
use native.Mathlib.Numerals.{add-one}
use native.Mathlib.Omega.{arith}
use lib.ListN.{length, get_or, drop, set}
use lib.Seq.{drop-cons, set_at}
use Rattle.le_read.specs.LeBytes.{number_at}
use Rattle.run_bytes.specs.declared.Sums.{Sums}
use Rattle.run_bytes.specs.Sums.{sums_from}
use Rattle.run_bytes.specs.Reading.{words_at}

pub length_words_at : (n : ℕ) (bytes : List ℕ) (at : ℕ) → length (words_at n bytes at) ≡ n
unfolding words_at
length_words_at zero bytes at = refl
length_words_at (suc n) bytes at = ap suc (length_words_at n bytes (at + 8))

words_more : (k : ℕ) (b : List ℕ) (at : ℕ) → words_at (suc k) b at ≡ words_at k b at ++ (number_at 8 b (at + 8 * k) ∷ [])
unfolding words_at
words_more zero b at = ap (λ (n : ℕ). number_at 8 b n ∷ []) {x = at} {y = at + 8 * 0} (omega arith)
words_more (suc k) b at =
    ap (λ (l : List ℕ). number_at 8 b at ∷ l)
    (words_more k b (at + 8) ∙ ap (λ (n : ℕ). words_at k b (at + 8) ++ (number_at 8 b n ∷ [])) {x = at + 8 + 8 * k} {y = at + 8 * suc k} (omega arith))

pub read_word : (b s d : List ℕ) (at k x : ℕ) → k < length s → d ≡ words_at k b at ++ drop k s → x ≡ number_at 8 b (at + 8 * k) → set d k x ≡ words_at (k + 1) b at ++ drop (k + 1) s
read_word b s d at k x g p q =
    let y = number_at 8 b (at + 8 * k) in
    (λ i. set (p i) k (q i))
    ∙ ap (λ (l : List ℕ). set (words_at k b at ++ l) k y) (drop-cons s k y g)
    ∙ set_at (words_at k b at) (get_or s k y) (drop (suc k) s) y k (length_words_at k b at)
    ∙ sym (append_assoc (words_at k b at) (y ∷ []) (drop (suc k) s))
    ∙ ap (λ (l : List ℕ). l ++ drop (suc k) s) (sym (words_more k b at))
    ∙ sym (λ i. words_at (add-one k i) b at ++ drop (add-one k i) s)

pub next_sum : (bs : List ℕ) (k a b : ℕ) {s : Sums} → k < length bs → sums_from a b (drop k bs) ≡ s
    → sums_from (a + get_or bs k 0) (b + (a + get_or bs k 0)) (drop (k + 1) bs) ≡ s
unfolding sums_from
next_sum bs k a b h e =
    ap (λ (n : ℕ). sums_from (a + get_or bs k 0) (b + (a + get_or bs k 0)) (drop n bs)) (add-one k) ∙ sym (ap (sums_from a b) (drop-cons bs k 0 h)) ∙ e
