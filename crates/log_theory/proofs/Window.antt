-- Records before a window are taken or too early, and those behind it too late or later than what was found: the earliest one in it is the earliest of all.
use Rattle.std.specs.Prelude.{Option, Some, None}
use mathlib.Core.Path.{◌≡◌, subst}
use mathlib.Core.Bool.{Bool, true, false}
use mathlib.Core.Logic.{◌⊎◌, inl, inr}
use Prim.Native.Nat.{ℕ, suc, ◌+◌, ◌≤◌, ◌<◌}
use native.Mathlib.Omega.{arith}
use native.Mathlib.Nat.{le_refl}
use lib.Dec.{T, leb, leb→le, nleb→lt}
use Rattle.log_theory.specs.Pairing.{Logs, cand, better, earliest}
use Rattle.log_theory.specs.PairingLaws.{Before, Earliest}
use Rattle.log_theory.specs.PairsModel.{Below, Past}
use Rattle.log_theory.proofs.Basics.{near, cand_allowed}
use Rattle.log_theory.proofs.Picks.{step, found, only}

pub le_or_lt : (a b : ℕ) → (a ≤ b) ⊎ (b < a)
le_or_lt a b = go (leb a b) (leb→le a b) (nleb→lt a b)
  where
    go : (t : Bool) → (T t → a ≤ b) → (T (mathlib.Core.Bool.not t) → b < a) → (a ≤ b) ⊎ (b < a)
    go true h g = inl (h tt)
    go false h g = inr (g tt)

module _ (L : Logs) (F : ℕ → Bool) (i : ℕ) where
  pub one_more : (j : ℕ) (b : Option ℕ) → Earliest L F i j b → Earliest L F i (j + 1) (better L F i j b)
  one_more j b h = subst (λ (x : ℕ). Earliest L F i x (better L F i j b)) {x = suc j} {y = j + 1} (omega arith) (step L F i j b h)

  -- record k comes too late, or after what was found
  abbrev pub Late : Option ℕ → ℕ → Type 0
  Late None k = L.sample i + L.within < L.first k
  Late (Some g) k = L.first g < L.first k

  pub none_behind : (j : ℕ) (b : Option ℕ) → j ≤ L.sent → ((k : ℕ) → j ≤ k → k < L.sent → Late b k) → Earliest L F i j b → Earliest L F i L.sent b
  none_behind j None le h e = λ k lt c. elim (le_or_lt j k) [ inl g ↦ omega (arith, h k g lt, (near L i k (cand_allowed L F i k c)).early) | inr g ↦ e k g c ]
  none_behind j (Some g) le h e = (omega (arith, e.0), e.1, λ k lt c. at k lt c (le_or_lt j k))
    where
      at : (k : ℕ) → k < L.sent → T (cand L F i k) → (j ≤ k) ⊎ (k < j) → Before L F i g k
      at k lt c (inl q) = record { no_later = omega (arith, h k q lt); in_order_lem = λ z. absurd (omega (arith, h k q lt)) }
      at k lt c (inr q) = e.2 k q c

  pub is_earliest : (b : Option ℕ) → Earliest L F i L.sent b → b ≡ earliest L F i
  is_earliest b h = only L F i L.sent b (earliest L F i) h (found L F i)

  pub below : (n m : ℕ) (b : Option ℕ) → n ≤ m → Earliest L F i n b → Below m b
  below n m None le h = tt
  below n m (Some g) le h = omega (arith, h.0)

  pub finish : (b : Option ℕ) → Earliest L F i L.sent b → (b ≡ earliest L F i) × Below L.sent b
  finish b h = (is_earliest b h, below L.sent L.sent b (le_refl L.sent) h)

module _ (first : ℕ → ℕ) (d : ℕ) where
  pub past_taken : (F G : ℕ → Bool) (h lo : ℕ) → ((k : ℕ) → F k ≡ false → G k ≡ false) → Past first d F h lo → Past first d G h lo
  past_taken F G h lo m p = record { gone = λ k lt. at k (p.gone k lt) }
    where
      at : (k : ℕ) → (F k ≡ false) ⊎ (first k + d < h) → (G k ≡ false) ⊎ (first k + d < h)
      at k (inl e) = inl (m k e)
      at k (inr q) = inr q

module _ (first : ℕ → ℕ) where
  pub record Tops (n top : ℕ) : Type 0 where
    pub over : (j : ℕ) → j < n → first j ≤ top
