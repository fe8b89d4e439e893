-- Digits by the code's tests, a number column by column, and a message byte by byte.
use Prim.Native.Nat.{ℕ, zero, suc, ◌+◌, ◌-◌, ◌*◌, ◌^◌, ◌≤◌, ◌<◌}
use mathlib.Core.Path.{◌≡◌, refl, sym, ap, ◌∙◌}
use mathlib.Core.Bool.{Bool, cond}
use mathlib.Core.List.{List, [], ◌∷◌, ◌++◌}
use native.Mathlib.Nat.{pow-suc, pow-le-pow_right}
use native.Mathlib.Numerals.{add-one}
use native.Mathlib.Omega.{arith}
use lib.Dec.{ltb, lit<}
use lib.ListN.{length, get_or, take, drop, set, replicate, length-append}
use lib.Seq.{take-suc, set_at, append_snoc}
use borrow.Author.Tests.{lt-ltb, le-ltb}
use Rattle.record_check.specs.Accepted.{type_length}
use Rattle.page.specs.Fields.{digit_value, hex_value, read_from, read_number, shown_byte, place, shown_bytes, shown_message, shown_fields}
use Rattle.page.specs.declared.LineFields.{LineFields}

module _ (c : ℕ) where
  pub before_0 : c < 48 → 0 ≡ digit_value c
  unfolding digit_value
  before_0 h = sym (ap (λ (b : Bool). cond b 0 (cond (ltb c 58) (c - 48) 0)) (lt-ltb c 48 h))

  from_0 : 48 ≤ c → digit_value c ≡ cond (ltb c 58) (c - 48) 0
  unfolding digit_value
  from_0 h = ap (λ (b : Bool). cond b 0 (cond (ltb c 58) (c - 48) 0)) (le-ltb c 48 h)

  pub to_9 : 48 ≤ c → c < 58 → c - 48 ≡ digit_value c
  to_9 h g = sym (from_0 h ∙ ap (λ (b : Bool). cond b (c - 48) 0) (lt-ltb c 58 g))

  pub before_a : c < 97 → digit_value c ≡ hex_value c
  unfolding hex_value
  before_a h = sym (ap (λ (b : Bool). cond b (digit_value c) (cond (ltb c 103) (c - 87) (digit_value c))) (lt-ltb c 97 h))

  from_a : 97 ≤ c → hex_value c ≡ cond (ltb c 103) (c - 87) (digit_value c)
  unfolding hex_value
  from_a h = ap (λ (b : Bool). cond b (digit_value c) (cond (ltb c 103) (c - 87) (digit_value c))) (le-ltb c 97 h)

  pub to_f : 97 ≤ c → c < 103 → c - 87 ≡ hex_value c
  to_f h g = sym (from_a h ∙ ap (λ (b : Bool). cond b (c - 87) (digit_value c)) (lt-ltb c 103 g))

-- ---- a number
pub read_more : (v : ℕ) (xs : List ℕ) (c : ℕ) → read_from v (xs ++ (c ∷ [])) ≡ read_from v xs * 10 + digit_value c
unfolding read_from
read_more v [] c = refl
read_more v (x ∷ xs) c = read_more (v * 10 + digit_value x) xs c

-- one more column: the number, and its bound
pub next_column : (columns : List ℕ) (k v d : ℕ) → k < length columns → v ≡ read_number (take k columns) → v < 10 ^ k → d ≡ digit_value (get_or columns k 0) → d < 10 → (v * 10 + d ≡ read_number (take (k + 1) columns)) × (v * 10 + d < 10 ^ (k + 1))
unfolding read_number
next_column columns k v d h e b q m = (
  (λ i. e i * 10 + q i) ∙ sym (ap (λ (n : ℕ). read_from 0 (take n columns)) (add-one k) ∙ ap (read_from 0) (take-suc columns k 0 h) ∙ read_more 0 (take k columns) (get_or columns k 0)),
  let p : 10 ^ (k + 1) ≡ 10 ^ k * 10 = ap (λ (n : ℕ). 10 ^ n) (add-one k) ∙ pow-suc 10 k in omega arith,
)

-- 16 columns fit
pub below_2_64 : (k v : ℕ) → k < 16 → v < 10 ^ k → v < 10 ^ 15
below_2_64 k v h b = let p : 10 ^ k ≤ 10 ^ 15 = pow-le-pow_right (lit< {m = 0} {n = 10} tt) {i = k} {j = 15} (omega arith) in omega arith

-- ---- a message
pub length_shown : (type : ℕ) (l : List ℕ) (n : ℕ) → length (shown_bytes type l n) ≡ n
unfolding shown_bytes
length_shown type l zero = refl
length_shown type l (suc n) = length-append (shown_bytes type l n) (shown_byte l (place type n) ∷ []) ∙ omega (arith, length_shown type l n)

pub no_byte : (type : ℕ) (l : List ℕ) → replicate 14 0 ≡ shown_message type l 0
unfolding shown_message shown_bytes
no_byte type l = refl

pub next_shown : (type : ℕ) (l : List ℕ) (k : ℕ) (m : List ℕ) {b j : ℕ} → k < 14 → m ≡ shown_message type l k → b ≡ shown_byte l j → j ≡ place type k → set m k b ≡ shown_message type l (k + 1)
unfolding shown_message shown_bytes
next_shown type l k m {b} {j} h e p q =
    let s = shown_bytes type l k in
    let one : 14 - k ≡ suc (14 - (k + 1)) = omega arith in
    (λ i. set (e i) k ((p ∙ ap (shown_byte l) q) i))
    ∙ ap (λ (n : ℕ). set (s ++ replicate n 0) k (shown_byte l (place type k))) one
    ∙ set_at s 0 (replicate (14 - (k + 1)) 0) (shown_byte l (place type k)) k (length_shown type l k)
    ∙ sym (append_snoc s (shown_byte l (place type k)) (replicate (14 - (k + 1)) 0))
    ∙ ap (λ (x : List ℕ). x ++ replicate (14 - (k + 1)) 0) (sym (ap (shown_bytes type l) (add-one k)))

pub type_at_most_14 : (type : ℕ) → type_length type ≤ 14
unfolding type_length
type_at_most_14 zero = omega arith
type_at_most_14 (suc zero) = omega arith
type_at_most_14 (suc (suc zero)) = omega arith
type_at_most_14 (suc (suc (suc zero))) = omega arith
type_at_most_14 (suc (suc (suc (suc zero)))) = omega arith
type_at_most_14 (suc (suc (suc (suc (suc zero))))) = omega arith
type_at_most_14 (suc (suc (suc (suc (suc (suc zero)))))) = omega arith
type_at_most_14 (suc (suc (suc (suc (suc (suc (suc n))))))) = omega arith

-- ---- the fields
abbrev made : ℕ → ℕ → ℕ → ℕ → List ℕ → LineFields
made first kind count size message = record { first = first; kind = kind; count = count; size = size; message = message }

pub fields : (l : List ℕ) {first kind count size : ℕ} {message : List ℕ} → kind ≡ digit_value (get_or l 17 0) → size ≡ type_length kind → first ≡ read_number (take 16 (drop 0 l)) → count ≡ read_number (take 4 (drop 19 l)) → message ≡ shown_message kind l size
    → made first kind count size message ≡ shown_fields l
unfolding shown_fields
fields l {first} {kind} {count} {size} {message} k s f c m =
    let s' : size ≡ type_length (digit_value (get_or l 17 0)) = s ∙ ap type_length k in
    (λ i. made (f i) (k i) (c i) (s' i) ((m ∙ (λ j. shown_message (k j) l (s' j))) i))
