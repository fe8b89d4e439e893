-- `refuses_flips` is a term of the claim `RefusesFlips`: one changed bit is one changed byte, and two are one or two, other than they were.
use Prim.Native.Nat.{ℕ, zero, suc, ◌*◌, ◌/◌, ◌%◌, ◌^◌, ◌<◌}
use native.Mathlib.Nat.{mod-lt}
use mathlib.Core.Path.{◌≡◌, sym, ap, ◌∙◌}
use mathlib.Core.Logic.{⊎_elim}
use mathlib.Core.List.{List, [], ◌∷◌}
use native.Mathlib.Omega.{arith}
use lib.Dec.{lit<}
use lib.ListN.{length, get_or, set, length-set}
use lib.Seq.{get_or-set_same, get_or-set_other}
use lib.Pow.{pow-lt, pow_pos}
use lib.Bits.{bit_xor, xor_lt, xor_self, xor_assoc}
use Rattle.std.proofs.lemmas.Bool.{cases_order}
use Rattle.mode_s.proofs.Xor.{xor_twice}
use Rattle.mode_s.proofs.Product.{alike}
use Rattle.run_theory.specs.Each.{Each}
use Rattle.run_bytes.specs.Layout.{stored_bytes}
use Rattle.run_bytes_theorem.specs.Damage.{Differ, none, same, changed, Byte, flip, RefusesFlips}
use Rattle.run_bytes_theorem.proofs.EachOf.{each_set}
use Rattle.run_bytes_theorem.proofs.SmallSums.{stored_are_bytes}
use Rattle.run_bytes_theorem.proofs.Damage.{refuses}

-- ---- bytes
each_get : (xs : List ℕ) (i : ℕ) → Each Byte xs → get_or xs i 0 < 256
each_get [] i t = lit< tt
each_get (x ∷ xs) zero (t, ts) = t
each_get (x ∷ xs) (suc i) (t, ts) = each_get xs i ts

bit_small : (p : ℕ) → 2 ^ (p % 8) < 2 ^ 8
bit_small p = pow-lt (mod-lt p (lit< tt))

flip_bytes : (p : ℕ) (xs : List ℕ) → Each Byte xs → Each Byte (flip p xs)
flip_bytes p xs t = each_set Byte xs (p / 8) (bit_xor (get_or xs (p / 8) 0) (2 ^ (p % 8))) t (xor_lt 8 (get_or xs (p / 8) 0) (2 ^ (p % 8)) (each_get xs (p / 8) t) (bit_small p))

-- ---- one place more
itself : (n : ℕ) (xs : List ℕ) → Differ n xs xs
itself n [] = none n
itself n (x ∷ xs) = same n x xs xs (itself n xs)

wider : {n : ℕ} {xs ys : List ℕ} → Differ n xs ys → Differ (suc n) xs ys
wider (none n) = none (suc n)
wider (same n x xs ys d) = same (suc n) x xs ys (wider d)
wider (changed n x y xs ys d) = changed (suc n) x y xs ys (wider d)

one_more : {n : ℕ} {xs ys : List ℕ} (i z : ℕ) → Differ n xs ys → Differ (suc n) xs (set ys i z)
one_more i z (none n) = none (suc n)
one_more zero z (same n x xs ys d) = changed n x z xs ys d
one_more zero z (changed n x y xs ys d) = changed (suc n) x z xs ys (wider d)
one_more (suc i) z (same n x xs ys d) = same (suc n) x xs (set ys i z) (one_more i z d)
one_more (suc i) z (changed n x y xs ys d) = changed (suc n) x y xs (set ys i z) (one_more i z d)

-- ---- the bits
grows : (b c : ℕ) → b < c → 2 ^ b < 2 ^ c
grows b c l = pow-lt l

pow_apart : (b c : ℕ) → 2 ^ b ≡ 2 ^ c → b ≡ c
pow_apart b c e = ⊎_elim (λ x. x) (⊎_elim (λ (l : b < c). absurd (omega (arith, e, grows b c l))) (λ (l : c < b). absurd (omega (arith, e, grows c b l)))) (cases_order b c)

-- laid over a byte, only 0 leaves it
laid_over : (x a : ℕ) → x ≡ bit_xor x a → a ≡ 0
laid_over x a e = sym (xor_twice x a) ∙ ap (bit_xor x) (sym e) ∙ xor_self x

module _ (xs : List ℕ) (p : ℕ) (h : p < 8 * length xs) where
  inside : p / 8 < length xs
  inside = omega (arith, h)

  once_flipped : get_or (flip p xs) (p / 8) 0 ≡ bit_xor (get_or xs (p / 8) 0) (2 ^ (p % 8))
  once_flipped = get_or-set_same xs (p / 8) (bit_xor (get_or xs (p / 8) 0) (2 ^ (p % 8))) 0 inside

  one_other : xs ≡ flip p xs → ⊥
  one_other e = let z = laid_over (get_or xs (p / 8) 0) (2 ^ (p % 8)) (ap (λ (l : List ℕ). get_or l (p / 8) 0) e ∙ once_flipped) in
      omega (arith, z, pow_pos (p % 8))

  module _ (q : ℕ) (k : q < 8 * length xs) (n : p ≡ q → ⊥) (e : xs ≡ flip q (flip p xs)) where
    seen : get_or xs (p / 8) 0 ≡ get_or (flip q (flip p xs)) (p / 8) 0
    seen = ap (λ (l : List ℕ). get_or l (p / 8) 0) e

    -- in two bytes
    there : (p / 8 ≡ q / 8 → ⊥) → ⊥
    there m =
        let z = laid_over (get_or xs (p / 8) 0) (2 ^ (p % 8)) (seen ∙ get_or-set_other (flip p xs) (q / 8) (p / 8) (bit_xor (get_or (flip p xs) (q / 8) 0) (2 ^ (q % 8))) 0 m ∙ once_flipped) in
        omega (arith, z, pow_pos (p % 8))

    -- in one
    here : p / 8 ≡ q / 8 → ⊥
    here s =
        let x = get_or xs (p / 8) 0 in
        let a = 2 ^ (p % 8) in
        let b = 2 ^ (q % 8) in
        let l : q / 8 < length (flip p xs) = omega (arith, k, length-set xs (p / 8) (bit_xor (get_or xs (p / 8) 0) (2 ^ (p % 8)))) in
        let y : x ≡ bit_xor (bit_xor x a) b =
        seen
        ∙ ap (λ (i : ℕ). get_or (flip q (flip p xs)) i 0) s
        ∙ get_or-set_same (flip p xs) (q / 8) (bit_xor (get_or (flip p xs) (q / 8) 0) (2 ^ (q % 8))) 0 l
        ∙ ap (λ (i : ℕ). bit_xor (get_or (flip p xs) i 0) (2 ^ (q % 8))) (sym s)
        ∙ ap (λ (v : ℕ). bit_xor v (2 ^ (q % 8))) once_flipped in
        let z : p % 8 ≡ q % 8 = pow_apart (p % 8) (q % 8) (alike a b (laid_over x (bit_xor a b) (y ∙ xor_assoc x a b))) in
        n (omega (arith, s, z))

    two_other : ⊥
    two_other = there here

pub refuses_flips : RefusesFlips
refuses_flips h t f lent p b =
    let xs = stored_bytes h in
    let u = stored_are_bytes h in (
      refuses h t f (flip p xs) (flip_bytes p xs u) (wider (one_more (p / 8) (bit_xor (get_or xs (p / 8) 0) (2 ^ (p % 8))) (itself 0 xs))) (one_other xs p b) lent,
      λ q c n. refuses h t f (flip q (flip p xs)) (flip_bytes q (flip p xs) (flip_bytes p xs u))
          (one_more (q / 8) (bit_xor (get_or (flip p xs) (q / 8) 0) (2 ^ (q % 8))) (one_more (p / 8) (bit_xor (get_or xs (p / 8) 0) (2 ^ (p % 8))) (itself 0 xs))) (two_other xs p b q c n) lent,
    )
