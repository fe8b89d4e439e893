-- Laws of distances and of sums kept to 64 bits.
use mathlib.Core.Path.{◌≡◌, refl, sym, ap, ◌∙◌}
use mathlib.Core.Bool.{Bool, true, false, ◌&&◌}
use mathlib.Core.Logic.{◌⊎◌, inl, inr}
use Prim.Native.Nat.{ℕ, suc, ◌+◌, ◌-◌, ◌≤◌, ◌<◌}
use native.Mathlib.Omega.{arith}
use lib.Dec.{leb, ltb}
use borrow.Author.Tests.{le-leb, lt-leb}
use Rattle.log_theory.specs.Pairing.{near}
use Rattle.log_theory.proofs.Window.{le_or_lt}
use Rattle.log_compare.specs.Capped.{capped}

leb_same : (a b c e : ℕ) → (a ≤ b → c ≤ e) → (c ≤ e → a ≤ b) → leb a b ≡ leb c e
leb_same a b c e f g =
    elim (le_or_lt a b) [
      | inl h ↦ le-leb a b h ∙ sym (le-leb c e (f h))
      | inr h ↦ lt-leb a b h ∙ sym (lt-leb c e (not_le h (le_or_lt c e)))
    ]
  where
    not_le : b < a → (c ≤ e) ⊎ (e < c) → e < c
    not_le h (inl q) = absurd (omega (arith, g q))
    not_le h (inr q) = q

near_up : (h f d : ℕ) → h ≤ f → leb (f - h) d ≡ near h f d
near_up h f d le =
    leb_same (f - h) d f (h + d) (λ q. omega arith) (λ q. omega arith)
    ∙ sym (ap (λ (x : Bool). x && leb f (h + d)) (le-leb h (f + d) (omega arith)))

near_down : (h f d : ℕ) → f < h → leb (h - f) d ≡ near h f d
near_down h f d lt = leb_same (h - f) d h (f + d) (λ q. omega arith) (λ q. omega arith) ∙ sym (ap (λ (b : Bool). leb h (f + d) && b) (le-leb f (h + d) (omega arith)) ∙ both_true (leb h (f + d)))
  where
    both_true : (x : Bool) → (x && true) ≡ x
    both_true true = refl
    both_true false = refl

pub near_is : (h f d r : ℕ) → r ≡ (h - f) + (f - h) → leb r d ≡ near h f d
near_is h f d r e = ap (λ (x : ℕ). leb x d) e ∙ go (le_or_lt h f)
  where
    go : (h ≤ f) ⊎ (f < h) → leb ((h - f) + (f - h)) d ≡ near h f d
    go (inl le) =
        let q : (h - f) + (f - h) ≡ f - h = omega arith in
        ap (λ (x : ℕ). leb x d) q ∙ near_up h f d le
    go (inr lt) =
        let q : (h - f) + (f - h) ≡ h - f = omega arith in
        ap (λ (x : ℕ). leb x d) q ∙ near_down h f d lt

-- what is above a capped number, and is itself a u64, is above the number
pub capped_below : (n f : ℕ) → f ≤ 18446744073709551615 → capped n < f → n < f
unfolding capped
capped_below n f le lt = omega arith

pub capped_ltb : (n f : ℕ) → f ≤ 18446744073709551615 → ltb (capped n) f ≡ ltb n f
unfolding capped
capped_ltb n f le = leb_same (suc (capped n)) f (suc n) f (λ q. omega arith) (λ q. omega arith)
