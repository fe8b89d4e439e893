-- A number of m + n bytes is one of m bytes and, above it, one of n: for the value, for the bytes, for a read and for a write.
use Prim.Native.Nat.{ℕ, zero, suc, ◌+◌, ◌*◌, ◌/◌, ◌%◌, ◌^◌, ◌≤◌, ◌<◌}
use mathlib.Core.Path.{◌≡◌, refl, sym, ap, ◌∙◌}
use mathlib.Core.List.{List, [], ◌∷◌, ◌++◌, append_assoc}
use native.Mathlib.Nat.{zero-add, suc-add, add_assoc, add-zero, mul-add, mul_assoc, one-mul, div-one, pow-succ', div-div-eq-div-mul}
use native.Mathlib.Numerals.{add-one}
use native.Mathlib.Omega.{arith}
use lib.ListN.{length, get_or, take, drop, set, length-append, length-drop}
use lib.Seq.{take-add, drop-drop, drop-cons, length-take-le, take_at, drop_at, sets-eq}
use Rattle.le_read.specs.LeBytes.{le_of, bytes_of, le_at, overwritten}

pub le_append : (xs ys : List ℕ) → le_of (xs ++ ys) ≡ le_of xs + 256 ^ length xs * le_of ys
unfolding le_of
le_append [] ys = sym (zero-add (1 * le_of ys) ∙ one-mul (le_of ys))
le_append (x ∷ xs) ys =
    ap (λ (v : ℕ). x + 256 * v) (le_append xs ys)
    ∙ ap (λ (v : ℕ). x + v) (mul-add 256 (le_of xs) (256 ^ length xs * le_of ys))
    ∙ sym (add_assoc x (256 * le_of xs) (256 * (256 ^ length xs * le_of ys)))
    ∙ ap (λ (v : ℕ). x + 256 * le_of xs + v) (sym (mul_assoc 256 (256 ^ length xs) (le_of ys)) ∙ ap (λ (p : ℕ). p * le_of ys) (sym (pow-succ' 256 (length xs))))

pub length_bytes : (n v : ℕ) → length (bytes_of n v) ≡ n
unfolding bytes_of
length_bytes zero v = refl
length_bytes (suc n) v = ap suc (length_bytes n (v / 256))

pub bytes_append : (m n v : ℕ) → bytes_of (m + n) v ≡ bytes_of m v ++ bytes_of n (v / 256 ^ m)
unfolding bytes_of
bytes_append zero n v = ap (λ (k : ℕ). bytes_of k v) (zero-add n) ∙ ap (bytes_of n) (sym (div-one v))
bytes_append (suc m) n v =
    ap (λ (k : ℕ). bytes_of k v) (suc-add m n)
    ∙ ap (λ (bs : List ℕ). v % 256 ∷ bs)
    (bytes_append m n (v / 256) ∙ ap (λ (w : ℕ). bytes_of m (v / 256) ++ bytes_of n w) (div-div-eq-div-mul v 256 (256 ^ m) ∙ ap (λ (p : ℕ). v / p) (sym (pow-succ' 256 m))))

-- a read, of bytes that are all there
pub le_halves : (m n : ℕ) (s : List ℕ) (at : ℕ) → at + m ≤ length s → le_at (m + n) s at ≡ le_at m s at + 256 ^ m * le_at n s (at + m)
unfolding le_at
le_halves m n s at h =
    ap le_of (take-add m n (drop at s) ∙ ap (λ (l : List ℕ). take m (drop at s) ++ take n l) (drop-drop m at s))
    ∙ le_append (take m (drop at s)) (take n (drop (at + m) s))
    ∙ ap (λ (k : ℕ). le_at m s at + 256 ^ k * le_at n s (at + m)) (length-take-le m (drop at s) (simp length-drop (omega arith)))

pub le_one : (s : List ℕ) (at : ℕ) → at < length s → le_at 1 s at ≡ get_or s at 0
unfolding le_at le_of
le_one s at h = ap (λ (l : List ℕ). le_of (take 1 l)) (drop-cons s at 0 h) ∙ add-zero (get_or s at 0)

-- two numbers that were read one after the other are the halves of one
pub joined : (m n : ℕ) (s : List ℕ) (at : ℕ) {a b : ℕ} → at + m ≤ length s → a ≡ le_at m s at → b ≡ le_at n s (at + m) → a + 256 ^ m * b ≡ le_at (m + n) s at
joined m n s at h p q = (λ i. p i + 256 ^ m * q i) ∙ sym (le_halves m n s at h)

pub joined_two : (s : List ℕ) (at : ℕ) → at + 2 ≤ length s → get_or s at 0 + 256 * get_or s (at + 1) 0 ≡ le_at 2 s at
joined_two s at h = joined 1 1 s at (omega arith) (sym (le_one s at (omega arith))) (sym (le_one s (at + 1) (omega arith)))

pub joined_four : (s : List ℕ) (at : ℕ) → at + 4 ≤ length s → le_at 2 s at + 65536 * le_at 2 s (at + 2) ≡ le_at 4 s at
joined_four s at h = joined 2 2 s at (omega arith) refl refl

pub joined_eight : (s : List ℕ) (at : ℕ) → at + 8 ≤ length s → le_at 4 s at + 4294967296 * le_at 4 s (at + 4) ≡ le_at 8 s at
joined_eight s at h = joined 4 4 s at (omega arith) refl refl

-- bytes written one part after the other
pub overwritten_append : (s : List ℕ) (at : ℕ) (xs ys : List ℕ) → at + length xs ≤ length s → overwritten (overwritten s at xs) (at + length xs) ys ≡ overwritten s at (xs ++ ys)
unfolding overwritten
overwritten_append s at xs ys h =
    let k = at + length xs in
    let front = take at s ++ xs in
    let p : length front ≡ k = length-append (take at s) xs ∙ ap (λ (n : ℕ). n + length xs) (length-take-le at s (omega arith)) in
    let rest : drop (k + length ys) (front ++ drop k s) ≡ drop (k + length ys) s =
    sym (drop-drop (length ys) k (front ++ drop k s)) ∙ ap (drop (length ys)) (drop_at front (drop k s) k p) ∙ drop-drop (length ys) k s in
    ap (λ (l : List ℕ). l ++ ys ++ drop (k + length ys) (front ++ drop k s)) (take_at front (drop k s) k p)
    ∙ ap (λ (l : List ℕ). front ++ ys ++ l) rest
    ∙ ap (λ (l : List ℕ). l ++ drop (k + length ys) s) (append_assoc (take at s) xs ys)
    ∙ ap (λ (n : ℕ). take at s ++ (xs ++ ys) ++ drop n s) (add_assoc at (length xs) (length ys) ∙ ap (λ (n : ℕ). at + n) (sym (length-append xs ys)))

-- a write, of bytes that are all there
pub put_halves : (m n : ℕ) (s : List ℕ) (at v : ℕ) → at + m ≤ length s → overwritten (overwritten s at (bytes_of m v)) (at + m) (bytes_of n (v / 256 ^ m)) ≡ overwritten s at (bytes_of (m + n) v)
put_halves m n s at v h =
    let e = length_bytes m v in
    ap (λ (k : ℕ). overwritten (overwritten s at (bytes_of m v)) (at + k) (bytes_of n (v / 256 ^ m))) (sym e)
    ∙ overwritten_append s at (bytes_of m v) (bytes_of n (v / 256 ^ m)) (omega arith)
    ∙ ap (overwritten s at) (sym (bytes_append m n v))

-- one byte stored is one byte laid, and two are two
pub overwritten_one : (s : List ℕ) (at b : ℕ) → at < length s → set s at b ≡ overwritten s at (b ∷ [])
unfolding overwritten
overwritten_one s at b h = sets-eq (b ∷ []) s at (omega arith)

pub overwritten_two : (s : List ℕ) (at v : ℕ) → at + 2 ≤ length s → set (set s at (v % 256)) (at + 1) (v / 256 % 256) ≡ overwritten s at (bytes_of 2 v)
unfolding overwritten bytes_of
overwritten_two s at v h = ap (λ (k : ℕ). set (set s at (v % 256)) k (v / 256 % 256)) (add-one at) ∙ sets-eq (v % 256 ∷ v / 256 % 256 ∷ []) s at h

pub overwritten_four : (s : List ℕ) (at v : ℕ) → at + 4 ≤ length s → overwritten (overwritten s at (bytes_of 2 v)) (at + 2) (bytes_of 2 (v / 65536)) ≡ overwritten s at (bytes_of 4 v)
overwritten_four s at v h = put_halves 2 2 s at v (omega arith)

pub overwritten_eight : (s : List ℕ) (at v : ℕ) → at + 8 ≤ length s → overwritten (overwritten s at (bytes_of 4 v)) (at + 4) (bytes_of 4 (v / 4294967296)) ≡ overwritten s at (bytes_of 8 v)
overwritten_eight s at v h = put_halves 4 4 s at v (omega arith)
