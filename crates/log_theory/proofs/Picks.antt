-- The scan finds the earliest free and allowed record, of equal ones the first in the records' order; and only one record is that.
use Rattle.std.specs.Prelude.{Option, Some, None}
use mathlib.Core.Path.{◌≡◌, refl, sym, ap, subst}
use mathlib.Core.Bool.{Bool, true, false, cond, ◌&&◌}
use mathlib.Core.Logic.{◌⊎◌, inl, inr}
use Prim.Native.Nat.{ℕ, zero, suc, ◌+◌, ◌≤◌, ◌<◌}
use native.Mathlib.Omega.{arith}
use native.Mathlib.Nat.{eq-or-lt_of_le, le_of_suc-le-suc}
use lib.Dec.{T, ltb, ltb→lt, nltb→le, not_T}
use lib.Ieee.Fits.{and_l, and_r, and_i}
use Rattle.log_theory.specs.Pairing.{Logs, cand, better, scan, earliest}
use Rattle.log_theory.specs.PairingLaws.{Before, Earliest}

module _ (L : Logs) (F : ℕ → Bool) (i : ℕ) where
  pub step : (n : ℕ) (b : Option ℕ) → Earliest L F i n b → Earliest L F i (suc n) (better L F i n b)
  step n None h = go (cand L F i n) refl
    where
      go : (t : Bool) → cand L F i n ≡ t → Earliest L F i (suc n) (cond t (Some n) None)
      go true e = (omega arith, subst (λ (b : Bool). T b) (sym e) tt, λ k lt c. at k c (eq-or-lt_of_le (le_of_suc-le-suc lt)))
        where
          at : (k : ℕ) → T (cand L F i k) → (k ≡ n) ⊎ (k < n) → Before L F i n k
          at k c (inl e) = record { no_later = subst (λ (x : ℕ). L.first x ≤ L.first k) e (omega arith); in_order_lem = λ q. omega arith }
          at k c (inr lt) = absurd (h k lt c)
      go false e = λ k lt c. at k c (eq-or-lt_of_le (le_of_suc-le-suc lt))
        where
          at : (k : ℕ) → T (cand L F i k) → (k ≡ n) ⊎ (k < n) → ⊥
          at k c (inl q) = subst (λ (b : Bool). T b) e (subst (λ (x : ℕ). T (cand L F i x)) q c)
          at k c (inr lt) = h k lt c
  step n (Some g) h = go (cand L F i n && ltb (L.first n) (L.first g)) refl
    where
      go : (t : Bool) → (cand L F i n && ltb (L.first n) (L.first g)) ≡ t → Earliest L F i (suc n) (cond t (Some n) (Some g))
      go true e =
          let t : T (cand L F i n && ltb (L.first n) (L.first g)) = subst (λ (b : Bool). T b) (sym e) tt in
          let lt : L.first n < L.first g = ltb→lt (L.first n) (L.first g) (and_r (cand L F i n) (ltb (L.first n) (L.first g)) t) in
          (omega arith, and_l (cand L F i n) (ltb (L.first n) (L.first g)) t, λ k l c. at lt k c (eq-or-lt_of_le (le_of_suc-le-suc l)))
        where
          at : L.first n < L.first g → (k : ℕ) → T (cand L F i k) → (k ≡ n) ⊎ (k < n) → Before L F i n k
          at lt k c (inl e) = record { no_later = subst (λ (x : ℕ). L.first x ≤ L.first k) e (omega arith); in_order_lem = λ q. omega arith }
          at lt k c (inr l) = let b = h.2 k l c in record { no_later = omega (arith, b.no_later); in_order_lem = λ q. omega (arith, b.no_later) }
      go false e = (omega (arith, h.0), h.1, λ k l c. at k c (eq-or-lt_of_le (le_of_suc-le-suc l)))
        where
          no : T (cand L F i n) → T (ltb (L.first n) (L.first g)) → ⊥
          no c l = subst (λ (b : Bool). T b) e (and_i (cand L F i n) (ltb (L.first n) (L.first g)) c l)

          at : (k : ℕ) → T (cand L F i k) → (k ≡ n) ⊎ (k < n) → Before L F i g k
          at k c (inl q) =
              let le : L.first g ≤ L.first n = nltb→le (L.first n) (L.first g) (not_T (ltb (L.first n) (L.first g)) (no (subst (λ (x : ℕ). T (cand L F i x)) q c))) in
              record { no_later = subst (λ (x : ℕ). L.first g ≤ L.first x) (sym q) le; in_order_lem = λ z. omega (arith, h.0) }
          at k c (inr l) = h.2 k l c

  scans : (r n : ℕ) (b : Option ℕ) → Earliest L F i n b → Earliest L F i (n + r) (scan L F i r n b)
  scans zero n b h = subst (λ (x : ℕ). Earliest L F i x b) {x = n} {y = n + 0} (omega arith) h
  scans (suc r) n b h = subst (λ (x : ℕ). Earliest L F i x (scan L F i r (suc n) (better L F i n b))) {x = suc n + r} {y = n + suc r} (omega arith) (scans r (suc n) (better L F i n b) (step n b h))

  pub found : Earliest L F i L.sent (earliest L F i)
  unfolding earliest
  found = subst (λ (x : ℕ). Earliest L F i x (scan L F i L.sent 0 None)) {x = 0 + L.sent} {y = L.sent} (omega arith) (scans L.sent 0 None (λ k lt c. omega arith))

  -- whatever finds an earliest one finds this one
  pub only : (n : ℕ) (a b : Option ℕ) → Earliest L F i n a → Earliest L F i n b → a ≡ b
  only n None None p q = refl
  only n None (Some g) p q = absurd (p g q.0 q.1)
  only n (Some g) None p q = absurd (q g p.0 p.1)
  only n (Some g) (Some k) p q =
      let a = p.2 k q.0 q.1 in
      let b = q.2 g p.0 p.1 in
      let e : L.first g ≡ L.first k = omega (arith, a.no_later, b.no_later) in
      ap Some {x = g} {y = k} (omega (arith, a.in_order_lem e, b.in_order_lem (sym e)))
