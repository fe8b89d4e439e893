-- The two lists of indices, turn by turn.
use Rattle.std.specs.Prelude.{Option, Some, None}
use mathlib.Core.Path.{◌≡◌, refl, sym, ap, ◌∙◌, subst}
use mathlib.Core.Bool.{Bool, true, false, cond}
use mathlib.Core.List.{List}
use Prim.Native.Nat.{ℕ, suc, ◌+◌, ◌-◌, ◌≤◌, ◌<◌}
use native.Mathlib.Omega.{arith}
use lib.Dec.{eqb}
use lib.ListN.{length, replicate, length-set}
use Rattle.log_theory.specs.Pairing.{Logs, earliest}
use Rattle.log_theory.specs.Report.{nobody, Lists}
use Rattle.log_theory.specs.PairsModel.{free_in, Below, paired, pair_up}
use Rattle.log_theory.proofs.Link.{free_set}

abbrev pub lists : List ℕ → List ℕ → ℕ → Lists
lists p o n = record { partners = p; owners = o; pairs = n }

module _ (L : Logs) where
  pub turn : (n i : ℕ) (s t : Lists) (b : Option ℕ) → i < n → b ≡ earliest L (free_in s.owners) i → t ≡ paired s i b → pair_up L (n - (i + 1)) (i + 1) t ≡ pair_up L (n - i) i s
  unfolding pair_up
  turn n i s t b h e q =
      let k : n - i ≡ suc (n - (i + 1)) = omega arith in
      ap (λ (x : Lists). pair_up L (n - (i + 1)) (i + 1) x) (q ∙ ap (paired s i) e) ∙ sym (ap (λ (x : ℕ). pair_up L x i s) k)

  pub over : (n i : ℕ) (s : Lists) → n ≤ i → pair_up L (n - i) i s ≡ s
  unfolding pair_up
  over n i s h =
      let k : n - i ≡ 0 = omega arith in
      ap (λ (x : ℕ). pair_up L x i s) k

pub paired_partners : (s t : Lists) (i : ℕ) (b : Option ℕ) → t ≡ paired s i b → length t.partners ≡ length s.partners
paired_partners s t i b e = ap (λ (x : Lists). length x.partners) e ∙ go b
  where
    go : (b : Option ℕ) → length (paired s i b).partners ≡ length s.partners
    go None = refl
    go (Some g) = length-set s.partners i g

pub paired_owners : (s t : Lists) (i : ℕ) (b : Option ℕ) → t ≡ paired s i b → length t.owners ≡ length s.owners
paired_owners s t i b e = ap (λ (x : Lists). length x.owners) e ∙ go b
  where
    go : (b : Option ℕ) → length (paired s i b).owners ≡ length s.owners
    go None = refl
    go (Some g) = length-set s.owners g i

pub paired_pairs : (s t : Lists) (i : ℕ) (b : Option ℕ) → t ≡ paired s i b → t.pairs ≤ s.pairs + 1
paired_pairs s t i b e = subst (λ (x : Lists). x.pairs ≤ s.pairs + 1) (sym e) (go b)
  where
    go : (b : Option ℕ) → (paired s i b).pairs ≤ s.pairs + 1
    go None = omega arith
    go (Some g) = omega arith

pub from_filled : (L : Logs) (k n m : ℕ) (p o p0 o0 : List ℕ) → p ≡ replicate (length p0) nobody → o ≡ replicate (length o0) nobody → length p0 ≡ n → length o0 ≡ m
    → pair_up L k 0 (record { partners = p; owners = o; pairs = 0 }) ≡ pair_up L k 0 (record { partners = replicate n nobody; owners = replicate m nobody; pairs = 0 })
from_filled L k n m p o p0 o0 a b e f =
    ap (λ (x : List ℕ). pair_up L k 0 (record { partners = x; owners = o; pairs = 0 })) (a ∙ ap (λ (x : ℕ). replicate x nobody) e)
    ∙ ap (λ (x : List ℕ). pair_up L k 0 (record { partners = replicate n nobody; owners = x; pairs = 0 })) (b ∙ ap (λ (x : ℕ). replicate x nobody) f)

-- what was taken stays taken
pub paired_taken : (s t : Lists) (i : ℕ) (b : Option ℕ) → i < nobody → Below (length s.owners) b → t ≡ paired s i b → (k : ℕ) → free_in s.owners k ≡ false → free_in t.owners k ≡ false
paired_taken s t i b lt h e k f = ap (λ (x : Lists). free_in x.owners k) e ∙ go b h
  where
    go : (b : Option ℕ) → Below (length s.owners) b → free_in (paired s i b).owners k ≡ false
    go None h = f
    go (Some g) h = ap (λ (F : ℕ → Bool). F k) (free_set s.owners g i h lt) ∙ still (eqb g k)
      where
        still : (t : Bool) → cond t false (free_in s.owners k) ≡ false
        still true = refl
        still false = f
