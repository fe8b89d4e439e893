-- A row of values, one more each step: read (`read_next`), and written (`write_next`).
use Prim.Native.Nat.{ℕ, zero, suc, ◌+◌, ◌*◌, ◌≤◌, ◌<◌}
use mathlib.Core.Path.{◌≡◌, refl, sym, ap, ◌∙◌}
use mathlib.Core.List.{List, [], ◌∷◌, ◌++◌, append_assoc, append-nil}
use native.Mathlib.Omega.{arith}
use native.Mathlib.Numerals.{add-one}
use lib.ListN.{length, get_or, take, drop, set, length-append}
use lib.Seq.{drop-drop, drop-cons, set_at, take-suc, length-take-le}
use lib.Ieee.{Float, binary32, of_bits, to_bits}
use Rattle.le_read.specs.LeBytes.{le_at, number_at, bytes_of, overwritten, put}
use Rattle.le_read.proofs.Halves.{length_bytes}
use Rattle.settings.proofs.Inside.{number_there}
use Rattle.reply_record.proofs.Overwritten.{next_put}
use Rattle.tape_sections.specs.Floats.{floats_of, float_bytes}

pub length_floats : (n : ℕ) (b : List ℕ) → length (floats_of n b) ≡ n
unfolding floats_of
length_floats zero b = refl
length_floats (suc n) b = ap suc (length_floats n (drop 4 b))

-- m values, and n behind them
pub floats_add : (m n : ℕ) (b : List ℕ) → floats_of (m + n) b ≡ floats_of m b ++ floats_of n (drop (4 * m) b)
unfolding floats_of
floats_add zero n b = ap (λ (k : ℕ). floats_of k b) {x = 0 + n} {y = n} (omega arith)
floats_add (suc m) n b =
    ap (λ (k : ℕ). floats_of k b) {x = suc m + n} {y = suc (m + n)} (omega arith)
    ∙ ap (λ (l : List Float). of_bits binary32 (le_at 4 b 0) ∷ l)
    (floats_add m n (drop 4 b) ∙ ap (λ (l : List ℕ). floats_of m (drop 4 b) ++ floats_of n l) (drop-drop (4 * m) 4 b ∙ ap (λ (k : ℕ). drop k b) {x = 4 + 4 * m} {y = 4 * suc m} (omega arith)))

le_drop : (b : List ℕ) (at : ℕ) → le_at 4 (drop at b) 0 ≡ le_at 4 b at
unfolding le_at
le_drop b at = refl

floats_more : (k : ℕ) (b : List ℕ) → floats_of (k + 1) b ≡ floats_of k b ++ (of_bits binary32 (le_at 4 b (4 * k)) ∷ [])
unfolding floats_of
floats_more k b = floats_add k 1 b ∙ ap (λ (n : ℕ). floats_of k b ++ (of_bits binary32 n ∷ [])) (le_drop b (4 * k))

pub read_next : (b : List ℕ) (s d : List Float) (k : ℕ) (x : Float) {at : ℕ} → at ≡ 4 * k → 4 * k + 4 ≤ length b → k < length s → d ≡ floats_of k b ++ drop k s → x ≡ of_bits binary32 (number_at 4 b at) → set d k x ≡ floats_of (k + 1) b ++ drop (k + 1) s
read_next b s d k x r h g p q =
    let y : Float = of_bits binary32 (le_at 4 b (4 * k)) in
    (λ i. set (p i) k ((q ∙ ap (λ (n : ℕ). of_bits binary32 (number_at 4 b n)) r ∙ ap (of_bits binary32) (number_there 4 b (4 * k) h)) i))
    ∙ ap (λ (l : List Float). set (floats_of k b ++ l) k y) (drop-cons s k y g)
    ∙ set_at (floats_of k b) (get_or s k y) (drop (suc k) s) y k (length_floats k b)
    ∙ sym (append_assoc (floats_of k b) (y ∷ []) (drop (suc k) s))
    ∙ sym (λ i. floats_more k b i ++ drop (add-one k i) s)

pub length_float_bytes : (xs : List Float) → length (float_bytes xs) ≡ 4 * length xs
unfolding float_bytes
length_float_bytes [] = refl
length_float_bytes (x ∷ xs) = length-append (bytes_of 4 (to_bits binary32 x)) (float_bytes xs) ∙ omega (arith, length_bytes 4 (to_bits binary32 x), length_float_bytes xs)

pub bytes_of_both : (xs ys : List Float) → float_bytes (xs ++ ys) ≡ float_bytes xs ++ float_bytes ys
unfolding float_bytes
bytes_of_both [] ys = refl
bytes_of_both (x ∷ xs) ys = ap (λ (l : List ℕ). bytes_of 4 (to_bits binary32 x) ++ l) (bytes_of_both xs ys) ∙ sym (append_assoc (bytes_of 4 (to_bits binary32 x)) (float_bytes xs) (float_bytes ys))

pub write_next : (v : List Float) (s d : List ℕ) (k : ℕ) (z : Float) → k < length v → 4 * k + 4 ≤ length s → d ≡ overwritten s 0 (float_bytes (take k v))
    → put 4 d (4 * k) (to_bits binary32 (get_or v k z)) ≡ overwritten s 0 (float_bytes (take (k + 1) v))
unfolding float_bytes
write_next v s d k z h g p =
    let l : length (float_bytes (take k v)) ≡ 4 * k = length_float_bytes (take k v) ∙ ap (λ (n : ℕ). 4 * n) (length-take-le k v (omega arith)) in
    let x = to_bits binary32 (get_or v k z) in
    next_put s 0 (4 * k) (float_bytes (take k v)) 4 x d (put 4 d (4 * k) x) l (omega arith) p (ap (λ (n : ℕ). put 4 d n x) {x = 4 * k} {y = 0 + 4 * k} (omega arith))
    ∙ ap (overwritten s 0)
    (ap (λ (m : List ℕ). float_bytes (take k v) ++ m) (sym (append-nil (bytes_of 4 x)))
    ∙ sym (bytes_of_both (take k v) (get_or v k z ∷ []))
    ∙ ap float_bytes (sym (ap (λ (n : ℕ). take n v) (add-one k) ∙ take-suc v k z h)))
