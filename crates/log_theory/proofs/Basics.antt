-- Tests, and records taken one after the other.
use mathlib.Core.Path.{◌≡◌, refl, sym, ap, subst, fun_ext}
use mathlib.Core.Bool.{Bool, true, false, cond, ◌&&◌}
use Prim.Native.Nat.{ℕ, ◌+◌, ◌≤◌}
use lib.Dec.{T, leb, eqb, leb→le, le→leb}
use lib.Ieee.Fits.{and_l, and_r, and_i}
use borrow.Author.Tests.{ne_eqb, eq-eqb}
use Rattle.log_theory.specs.Pairing.{Logs, allowed, without, cand}

pub without_other : (g k : ℕ) (F : ℕ → Bool) → (g ≡ k → ⊥) → without g F k ≡ F k
without_other g k F n = ap (λ (t : Bool). cond t false (F k)) (ne_eqb g k n)

-- what is free without g is free, and not g
pub without_free : (g k : ℕ) (F : ℕ → Bool) → T (without g F k) → T (F k) × (g ≡ k → ⊥)
without_free g k F = go (eqb g k) (eq-eqb g k)
  where
    go : (t : Bool) → (g ≡ k → t ≡ true) → T (cond t false (F k)) → T (F k) × (g ≡ k → ⊥)
    go true h f = absurd f
    go false h f = (f, λ e. absurd (subst (λ (b : Bool). T b) (sym (h e)) tt))

pub without_swap : (a b : ℕ) (F : ℕ → Bool) → without a (without b F) ≡ without b (without a F)
without_swap a b F = fun_ext (λ k. go (eqb a k) (eqb b k) (F k))
  where
    go : (x y f : Bool) → cond x false (cond y false f) ≡ cond y false (cond x false f)
    go true true f = refl
    go true false f = refl
    go false true f = refl
    go false false f = refl

module _ (L : Logs) where
  pub record Near (i j : ℕ) : Type 0 where
    pub same : T (L.alike i j)
    pub late : L.sample i ≤ L.first j + L.within
    pub early : L.first j ≤ L.sample i + L.within

  pub near : (i j : ℕ) → T (allowed L i j) → Near i j
  near i j t =
      let r = and_r (L.alike i j) (leb (L.sample i) (L.first j + L.within) && leb (L.first j) (L.sample i + L.within)) t in
      record {
        same = and_l (L.alike i j) (leb (L.sample i) (L.first j + L.within) && leb (L.first j) (L.sample i + L.within)) t;
        late = leb→le (L.sample i) (L.first j + L.within) (and_l (leb (L.sample i) (L.first j + L.within)) (leb (L.first j) (L.sample i + L.within)) r);
        early = leb→le (L.first j) (L.sample i + L.within) (and_r (leb (L.sample i) (L.first j + L.within)) (leb (L.first j) (L.sample i + L.within)) r);
      }

  pub allow : (i j : ℕ) → Near i j → T (allowed L i j)
  allow i j n =
      and_i (L.alike i j) (leb (L.sample i) (L.first j + L.within) && leb (L.first j) (L.sample i + L.within)) n.same
      (and_i (leb (L.sample i) (L.first j + L.within)) (leb (L.first j) (L.sample i + L.within)) (le→leb (L.sample i) (L.first j + L.within) n.late) (le→leb (L.first j) (L.sample i + L.within) n.early))

  pub cand_free : (F : ℕ → Bool) (i j : ℕ) → T (cand L F i j) → T (F j)
  cand_free F i j t = and_l (F j) (allowed L i j) t

  pub cand_allowed : (F : ℕ → Bool) (i j : ℕ) → T (cand L F i j) → T (allowed L i j)
  cand_allowed F i j t = and_r (F j) (allowed L i j) t

  pub cand_in : (F : ℕ → Bool) (i j : ℕ) → T (F j) → T (allowed L i j) → T (cand L F i j)
  cand_in F i j f t = and_i (F j) (allowed L i j) f t

  -- a candidate without g is a candidate, and not g
  pub cand_without : (g : ℕ) (F : ℕ → Bool) (i j : ℕ) → T (cand L (without g F) i j) → T (cand L F i j) × (g ≡ j → ⊥)
  cand_without g F i j t =
      let f = without_free g j F (cand_free (without g F) i j t) in
      (cand_in F i j f.0 (cand_allowed (without g F) i j t), f.1)

  pub cand_other : (g : ℕ) (F : ℕ → Bool) (i j : ℕ) → T (cand L F i j) → (g ≡ j → ⊥) → T (cand L (without g F) i j)
  cand_other g F i j t n = subst (λ (b : Bool). T (b && allowed L i j)) (sym (without_other g j F n)) t
