-- The first rate at fault: one step of the code's search and its end, and what is found (`found`) and what finds it (`finds-none`, `finds`).
use Rattle.std.specs.Prelude.{Option, Some, None}
use Prim.Native.Nat.{ℕ, zero, suc, ◌+◌, ◌<◌}
use mathlib.Core.Path.{◌≡◌, refl, sym, ap, ◌∙◌}
use mathlib.Core.Bool.{Bool, true, false, cond}
use mathlib.Core.List.{List, [], ◌∷◌}
use native.Mathlib.Nat.{add-zero, add-suc, suc-add}
use native.Mathlib.Numerals.{add-one}
use native.Mathlib.Omega.{arith}
use lib.ListN.{length, get_or, drop}
use lib.Seq.{drop-cons}
use lib.Ieee.{Float, binary64, of_bits}
use Rattle.distributions.specs.Accepted.{finite_not_negative}
use Rattle.settings.specs.declared.MessagesPerSecond.{MessagesPerSecond}
use Rattle.settings.specs.Settings.{rates_of}
use Rattle.settings.specs.Accepted.{first_bad_rate}

-- whether rate i is finite and not negative
abbrev pub good : List Float → ℕ → Bool
good rs i = finite_not_negative (get_or rs i (of_bits binary64 0))

-- ---- the code's search
module _ (rs : List Float) (k : ℕ) (h : k < length rs) where
  pub goes_on : good rs k ≡ true → first_bad_rate k (drop k rs) ≡ first_bad_rate (k + 1) (drop (k + 1) rs)
  unfolding first_bad_rate
  goes_on g =
      ap (first_bad_rate k) (drop-cons rs k (of_bits binary64 0) h)
      ∙ ap (λ (b : Bool). cond b (first_bad_rate (suc k) (drop (suc k) rs)) (Some k)) g
      ∙ ap (λ (n : ℕ). first_bad_rate n (drop n rs)) (sym (add-one k))

  pub stops : good rs k ≡ false → first_bad_rate k (drop k rs) ≡ Some k
  unfolding first_bad_rate
  stops g =
      ap (first_bad_rate k) (drop-cons rs k (of_bits binary64 0) h) ∙ ap (λ (b : Bool). cond b (first_bad_rate (suc k) (drop (suc k) rs)) (Some k)) g

pub ends : (r : MessagesPerSecond) (k : ℕ) → k ≡ 7 → first_bad_rate k (drop k (rates_of r)) ≡ None
unfolding first_bad_rate rates_of
ends r k e = ap (λ (n : ℕ). first_bad_rate n (drop n (rates_of r))) e

-- ---- what is found
abbrev pub Found : ℕ → List Float → Option ℕ → Type 0
Found k rs None = (i : ℕ) → i < length rs → good rs i ≡ true
Found k rs (Some j) = (i : ℕ) × (j ≡ k + i) × (i < length rs) × ((m : ℕ) → m < i → good rs m ≡ true) × (good rs i ≡ false)

good_all : (r : Float) (rs : List Float) → finite_not_negative r ≡ true → (n : ℕ) → ((i : ℕ) → i < n → good rs i ≡ true) → (i : ℕ) → i < suc n → good (r ∷ rs) i ≡ true
good_all r rs g n all zero h = g
good_all r rs g n all (suc i) h = all i (omega arith)

later : (k : ℕ) (r : Float) (rs : List Float) (b : Option ℕ) → finite_not_negative r ≡ true → Found (suc k) rs b → Found k (r ∷ rs) b
later k r rs None g all = good_all r rs g (length rs) all
later k r rs (Some j) g (i, e, h, all, bad) = (suc i, e ∙ suc-add k i ∙ sym (add-suc k i), omega arith, good_all r rs g i all, bad)

pub found : (k : ℕ) (rs : List Float) → Found k rs (first_bad_rate k rs)
unfolding first_bad_rate
found k [] = λ i h. absurd (omega arith)
found k (r ∷ rs) = go (finite_not_negative r) refl (found (suc k) rs)
  where
    go : (b : Bool) → finite_not_negative r ≡ b → Found (suc k) rs (first_bad_rate (suc k) rs) → Found k (r ∷ rs) (cond b (first_bad_rate (suc k) rs) (Some k))
    go true g f = later k r rs (first_bad_rate (suc k) rs) g f
    go false g f = (0, sym (add-zero k), omega arith, (λ m h. absurd (omega arith)), g)

-- ---- what finds it
pub finds_none : (k : ℕ) (rs : List Float) → ((i : ℕ) → i < length rs → good rs i ≡ true) → first_bad_rate k rs ≡ None
unfolding first_bad_rate
finds_none k [] all = refl
finds_none k (r ∷ rs) all =
    ap (λ (b : Bool). cond b (first_bad_rate (suc k) rs) (Some k)) (all 0 (omega arith)) ∙ finds_none (suc k) rs (λ i h. all (suc i) (omega arith))

pub finds : (k : ℕ) (rs : List Float) (i : ℕ) → i < length rs → ((m : ℕ) → m < i → good rs m ≡ true) → good rs i ≡ false → first_bad_rate k rs ≡ Some (k + i)
unfolding first_bad_rate
finds k [] i h all bad = absurd (omega arith)
finds k (r ∷ rs) zero h all bad = ap (λ (b : Bool). cond b (first_bad_rate (suc k) rs) (Some k)) bad ∙ ap Some (sym (add-zero k))
finds k (r ∷ rs) (suc i) h all bad =
    ap (λ (b : Bool). cond b (first_bad_rate (suc k) rs) (Some k)) (all 0 (omega arith))
    ∙ finds (suc k) rs i (omega arith) (λ m g. all (suc m) (omega arith)) bad
    ∙ ap Some (suc-add k i ∙ sym (add-suc k i))
