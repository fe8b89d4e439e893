-- `refuses` is a term of the claim `Refuses`: of two lists of bytes that the check fits, which differ at two places at most, the first is the second (`fit_both`).
use Rattle.std.specs.Prelude.{Result, Ok, Err, is_ok, is_some}
use Prim.Native.Nat.{ℕ, zero, suc, ◌+◌, ◌-◌, ◌≤◌}
use mathlib.Core.Path.{◌≡◌, refl, sym, ap, ◌∙◌}
use mathlib.Core.Bool.{Bool, true, false, cond, ◌&&◌}
use mathlib.Core.List.{List, [], ◌∷◌, ◌++◌}
use native.Mathlib.Omega.{arith}
use lib.Dec.{eqb, ltb}
use lib.ListN.{length, get_or, take, drop, length-drop, take-append-drop}
use lib.Seq.{take_all, length-take-le, drop-drop}
use borrow.Author.Tests.{eqb-true, le-leb}
use Rattle.constants.specs.Setting.{setting_from}
use Rattle.le_read.specs.LeBytes.{le_of, le_at, read_at, number_at}
use Rattle.run_theory.specs.Each.{Each}
use Rattle.run_bytes.specs.declared.Unreadable.{Unreadable}
use Rattle.run_bytes.specs.Sums.{sums_of}
use Rattle.run_bytes.specs.Layout.{magic, version, stored_length, stored_bytes}
use Rattle.run_bytes.specs.Reading.{word, is_racked, head_at, sums_match, is_head, sound, head_of, Lent, taken_by, restore_left}
use Rattle.run_bytes.proofs.Lengths.{both, few}
use Rattle.run_bytes_theorem.specs.Damage.{Differ, none, same, changed, Byte, Refused, Refuses}
use Rattle.run_bytes_theorem.proofs.RoundTrip.{chain, check_fits, bytes_long}
use Rattle.run_bytes_theorem.proofs.SmallSums.{stored_are_bytes}
use Rattle.run_bytes_theorem.proofs.EachOf.{each_take, each_drop}
use Rattle.run_bytes_theorem.proofs.Sums.{plain, placed, sums_are, differ_length, never, once_plain, once_placed, twice}

-- ---- parts of lists
data Parts (n k : ℕ) (xs ys : List ℕ) : Type 0 where
  parts : (i j : ℕ) → i + j ≡ n → Differ i (take k xs) (take k ys) → Differ j (drop k xs) (drop k ys) → Parts n k xs ys

same_more : (n k x : ℕ) (xs ys : List ℕ) → Parts n k xs ys → Parts n (suc k) (x ∷ xs) (x ∷ ys)
same_more n k x xs ys (parts i j e d t) = parts i j e (same i x (take k xs) (take k ys) d) t

changed_more : (n k x y : ℕ) (xs ys : List ℕ) → Parts n k xs ys → Parts (suc n) (suc k) (x ∷ xs) (y ∷ ys)
changed_more n k x y xs ys (parts i j e d t) = parts (suc i) j (omega (arith, e)) (changed i x y (take k xs) (take k ys) d) t

split : (k : ℕ) {n : ℕ} {xs ys : List ℕ} → Differ n xs ys → Parts n k xs ys
split zero {n} d = parts 0 n (omega arith) (none 0) d
split (suc k) (none n) = parts 0 n (omega arith) (none 0) (none n)
split (suc k) (same n x xs ys d) = same_more n k x xs ys (split k d)
split (suc k) (changed n x y xs ys d) = changed_more n k x y xs ys (split k d)

-- bytes are determined by the number that they stand for
le_same : (xs ys : List ℕ) → Each Byte xs → Each Byte ys → length xs ≡ length ys → le_of xs ≡ le_of ys → xs ≡ ys
unfolding le_of
le_same [] [] t u l e = refl
le_same [] (y ∷ ys) t u l e = absurd (omega (arith, l))
le_same (x ∷ xs) [] t u l e = absurd (omega (arith, l))
le_same (x ∷ xs) (y ∷ ys) (t, ts) (u, us) l e =
    let p : x ≡ y = omega (arith, e, t, u) in
    let q = le_same xs ys ts us (omega (arith, l)) (omega (arith, e, p)) in
    λ i. p i ∷ q i

-- ---- the check
-- what the check says of bytes: of all but the last sixteen, the sums stand in these
record Fits (bytes : List ℕ) (n : ℕ) : Type 0 where
  sum : plain (take n bytes) ≡ le_of (take 8 (drop n bytes))
  sum_of_sums : placed (take n bytes) ≡ le_of (drop 8 (drop n bytes))

word_there : (bytes : List ℕ) (at : ℕ) → at + 8 ≤ length bytes → number_at 8 bytes at ≡ le_of (take 8 (drop at bytes))
unfolding read_at le_at
word_there bytes at h = ap (λ (t : Bool). cond t (le_at 8 bytes at) 0) (le-leb (at + 8) (length bytes) h)

fitting : (bytes : List ℕ) (n : ℕ) → length bytes ≡ n + 16 → sums_match bytes ≡ true → Fits bytes n
unfolding sums_match
fitting bytes n l e =
    let m : length bytes - 16 ≡ n = omega (arith, l) in
    let sums = sums_of (take n bytes) in
    let f : (eqb (number_at 8 bytes n) sums.sum && eqb (number_at 8 bytes (n + 8)) sums.sum_of_sums) ≡ true =
    sym (ap (λ (k : ℕ). eqb (number_at 8 bytes k) (sums_of (take k bytes)).sum && eqb (number_at 8 bytes (k + 8)) (sums_of (take k bytes)).sum_of_sums) m) ∙ e in
    let g = both (eqb (number_at 8 bytes n) sums.sum) (eqb (number_at 8 bytes (n + 8)) sums.sum_of_sums) f in
    let s = sums_are (take n bytes) in
    let a = eqb-true (number_at 8 bytes n) sums.sum g.0 in
    let b = eqb-true (number_at 8 bytes (n + 8)) sums.sum_of_sums g.1 in
    let last : take 8 (drop (n + 8) bytes) ≡ drop 8 (drop n bytes) =
    ap (take 8) (sym (drop-drop 8 n bytes)) ∙ take_all 8 (drop 8 (drop n bytes)) (omega (arith, length-drop 8 (drop n bytes), length-drop n bytes, l)) in
    record {
      sum = sym s.0 ∙ sym a ∙ word_there bytes n (omega (arith, l));
      sum_of_sums = sym s.1 ∙ sym b ∙ word_there bytes (n + 8) (omega (arith, l)) ∙ ap le_of last;
    }

-- the bytes before the check are the same
module _ {i j k : ℕ} {xs ys us vs cs ds : List ℕ} (h : i + (j + k) ≤ 2) (d : Differ i xs ys) (e : Differ j us vs) (f : Differ k cs ds)
    (p : plain xs ≡ le_of us) (p' : plain ys ≡ le_of vs) (q : placed xs ≡ le_of cs) (q' : placed ys ≡ le_of ds) where
  by_sum : j ≡ 0 → plain xs ≡ plain ys
  by_sum z = p ∙ ap le_of (never e z) ∙ sym p'

  by_second : k ≡ 0 → placed xs ≡ placed ys
  by_second z = q ∙ ap le_of (never f z) ∙ sym q'

  bodies : xs ≡ ys
  bodies = go j k refl refl
    where
      go : (j' k' : ℕ) → j ≡ j' → k ≡ k' → xs ≡ ys
      go zero zero u v = twice d (omega (arith, h)) (by_sum u) (by_second v)
      go zero (suc k') u v = once_plain d (omega (arith, h, u, v)) (by_sum u)
      go (suc j') zero u v = once_placed d (omega (arith, h, u, v)) (by_second v)
      go (suc j') (suc k') u v = never d (omega (arith, h, u, v))

fit_both : (xs ys : List ℕ) (n : ℕ) → Each Byte xs → Each Byte ys → Differ 2 xs ys → length xs ≡ n + 16 → sums_match xs ≡ true → sums_match ys ≡ true → xs ≡ ys
fit_both xs ys n t u d l e f = go (split n d)
  where
    m : length ys ≡ n + 16
    m = sym (differ_length d) ∙ l

    a : Fits xs n
    a = fitting xs n l e

    b : Fits ys n
    b = fitting ys n m f

    tail : (zs : List ℕ) → length zs ≡ n + 16 → length (drop n zs) ≡ 16
    tail zs l = length-drop n zs ∙ omega (arith, l)

    whole : take n xs ≡ take n ys → xs ≡ ys
    whole s =
        let x = drop n xs in
        let y = drop n ys in
        let low = le_same (take 8 x) (take 8 y) (each_take Byte 8 x (each_drop Byte n xs t)) (each_take Byte 8 y (each_drop Byte n ys u)) (length-take-le 8 x (omega (arith, tail xs l)) ∙ sym (length-take-le 8 y (omega (arith, tail ys m)))) (sym a.sum ∙ ap plain s ∙ b.sum) in
        let high = le_same (drop 8 x) (drop 8 y) (each_drop Byte 8 x (each_drop Byte n xs t)) (each_drop Byte 8 y (each_drop Byte n ys u)) (length-drop 8 x ∙ omega (arith, tail xs l, tail ys m) ∙ sym (length-drop 8 y)) (sym a.sum_of_sums ∙ ap placed s ∙ b.sum_of_sums) in
        let z : x ≡ y = sym (take-append-drop 8 x) ∙ (λ i. low i ++ high i) ∙ take-append-drop 8 y in
        sym (take-append-drop n xs) ∙ (λ i. s i ++ z i) ∙ take-append-drop n ys

    then : {i j : ℕ} → i + j ≡ 2 → Differ i (take n xs) (take n ys) → Parts j 8 (drop n xs) (drop n ys) → xs ≡ ys
    then g d (parts j k h p q) = whole (bodies (omega (arith, g, h)) d p q a.sum b.sum a.sum_of_sums b.sum_of_sums)

    go : Parts 2 n xs ys → xs ≡ ys
    go (parts i j g p q) = then g p (split 8 q)

-- ---- what is accepted fits the check
ok_sound : (a b c d e : Bool) (x ws : List ℕ) → chain a b c d e x ≡ Ok ws → e ≡ true
unfolding chain
ok_sound a b c d true x ws h = refl
ok_sound true b c d false x ws h = cc
ok_sound false false c d false x ws h = cc
ok_sound false true false d false x ws h = cc
ok_sound false true true false false x ws h = cc
ok_sound false true true true false x ws h = cc

accepted_fits : (bytes ws : List ℕ) → head_of bytes ≡ Ok ws → sums_match bytes ≡ true
unfolding head_of chain sound
accepted_fits bytes ws e =
    let w = head_at bytes in
    let s : sound w bytes ≡ true = ok_sound (ltb (length bytes) 256) (eqb (word w 0) magic) (eqb (word w 1) version) (eqb (word w 2) (length bytes)) (sound w bytes) w ws e in
    (both (eqb (length bytes) (stored_length (setting_from (get_or w 29 0)) (is_racked w))) (sums_match bytes) (both (is_head w) (eqb (length bytes) (stored_length (setting_from (get_or w 29 0)) (is_racked w)) && sums_match bytes) s).1).1

refused_by : (bytes : List ℕ) (lent : Lent) → ((ws : List ℕ) → head_of bytes ≡ Ok ws → ⊥) → Refused bytes lent
unfolding restore_left taken_by
refused_by bytes lent never = go (head_of bytes) refl
  where
    go : (r : Result (List ℕ) Unreadable) → head_of bytes ≡ r → Refused bytes lent
    go (Err q) e = record { answer = ap (λ (x : Result (List ℕ) Unreadable). is_ok (taken_by bytes lent x).answer) e; lent_left = ap (λ (x : Result (List ℕ) Unreadable). (taken_by bytes lent x).lent) e }
    go (Ok ws) e = absurd (never ws e)

pub refuses : Refuses
refuses h t f bytes u d n lent =
    let k = length (stored_bytes h) - 16 in
    let l : length (stored_bytes h) ≡ k + 16 = omega (arith, bytes_long h t f, (few h.state.setting (is_some h.rack)).0) in
    refused_by bytes lent (λ ws e. n (fit_both (stored_bytes h) bytes k (stored_are_bytes h) u d l (check_fits h t f) (accepted_fits bytes ws e)))
